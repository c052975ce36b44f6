-- `attach_rows::all_set` meets its contract: `all` finds every mark set, or one that is not.
-- Assumes nothing.
use Rattle.std.proofs.Common.{rules, tests, arith, ◌≡◌, ◌<◌, ℕ, length, Bool, true, false, List, sym, MatchBool}
use Rattle.std.specs.List.{HoldsAt, AllWithin}
use Rattle.std.proofs.lemmas.Iterator.{cases_from_all, YieldsList-from_slice}
use Rattle.attach_rows.specs.Rows.{all_set}
use Rattle.attach_rows.proofs.MarkLaws.{set-all, set-none}
use Rattle.attach_rows.proofs.all_set.Goals as goal

decided : (r : Bool) (m : List Bool)
    → MatchBool r (AllWithin (λ (x : Bool). x ≡ true) m 0 (length m)) ((k : ℕ) × (k < length m) × HoldsAt (λ (x : Bool). x ≡ false) m k)
    → r ≡ all_set m
decided true m h = sym (set-all m (λ k l. h k false (omega arith) l))
decided false m h = sym (set-none m h.0 h.1 (h.2 false))

pub returns : goal.returns
returns c =
    let m = c.args.marks.now in
    decided c.all.result m
    (cases_from_all _ _ _ (λ (x : Bool). x ≡ true) (λ (x : Bool). x ≡ false) c.all.ensures.ran (YieldsList-from_slice m cc) (λ x q k. search (rules, tests)) (λ x q k. search (rules, tests)))
