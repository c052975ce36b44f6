-- `session_store::any_beyond` meets its contract: what `any` finds is one of the first eight.
-- Assumes nothing.
use Rattle.std.proofs.Common.{rules, tests, arith, ◌≡◌, ◌<◌, ◌≤◌, ℕ, length, Bool, true, false, List, sym, MatchBool}
use Rattle.std.specs.List.{HoldsAt, AllWithin}
use Rattle.std.proofs.lemmas.Iterator.{cases_from_any, YieldsList-from_slice}
use Rattle.session.specs.Session.{any_beyond}
use Rattle.session.proofs.PositionLaws.{none_upto, some-beyond}
use Rattle.session_store.proofs.any_beyond.Goals as goal

decided : (r : Bool) (count : ℕ) (ps : List ℕ) → length ps ≡ 8
    → MatchBool r ((k : ℕ) × (k < length ps) × HoldsAt (λ (x : ℕ). count < x) ps k) (AllWithin (λ (x : ℕ). x ≤ count) ps 0 (length ps))
    → r ≡ any_beyond 8 count ps
decided true count ps l h = sym (some-beyond 8 count ps h.0 (omega (arith, l, h.1)) (h.2 0))
decided false count ps l h = sym (none_upto 8 count ps (λ k i. h k 0 (omega arith) (omega (arith, l, i))))

pub returns : goal.returns
returns c =
    let n = c.args.r.queue_count in
    let ps = c.args.r.drain_positions in
    decided c.any.result n ps (search rules)
    (cases_from_any _ _ _ (λ x. n < x) (λ x. x ≤ n) c.any.ensures.ran (YieldsList-from_slice ps cc) (λ x q k. search (rules, tests)) (λ x q k. search (rules, tests)))
