-- `is_path_from` meets its contract: each return is the case of `is_path` that the places of the first two '/' leave, or a mark before them.
-- Assumes nothing.
use Prim.Native.Nat.{ℕ, ◌+◌, ◌≤◌, ◌<◌}
use native.Mathlib.Omega.{arith}
use mathlib.Core.Logic.{◌⊎◌, inl, inr, ⊎_elim}
use mathlib.Core.Path.{◌≡◌, sym, ◌∙◌}
use mathlib.Core.Bool.{false}
use mathlib.Core.List.{List}
use lib.ListN.{length, drop, get_or}
use borrow.Author.Rules.{rules}
use Rattle.name_parents.specs.Classes.{class_of}
use Rattle.name_parents.specs.Parents.{clean, passed}
use Rattle.name_parents.proofs.PathLaws.{SlashAt, stop-most, clean-walk, clean-behind, clean_all, slash-at, unclean-at, slash-or-mark}
use Rattle.name_parents.proofs.PathLaws.{path-unclean, path-no-tenant, path-no-slash, path-no-namespace}
use Rattle.name_parents.proofs.PathLaws.{path-no-local-name, path-ends-in-slash, path-clean}
use Rattle.name_parents.proofs.is_path_from.Goals as goal

-- a walk from the place from on stops at a, and behind a '/' there a walk stops at b
module _ (s : List ℕ) (from a : ℕ) (h : from ≤ length s) (e : a ≡ from + passed 3 (drop from s)) where
  module _ (l : a < length s) (slash : class_of (get_or s a 0) ≡ 3) where
    at_first : SlashAt s from a
    at_first = slash-at s from a h e (λ k. slash)

    behind-first : clean (drop from s) ≡ clean (drop (a + 1) s)
    behind-first = clean-walk 3 s from a h e (omega arith) ∙ clean-behind s a l slash

    -- the tenant is not empty
    some : (a ≡ from → ⊥) → from < a
    some n = let k = at_first.low in omega (arith, k, n)

    module _ (b : ℕ) (f : b ≡ a + 1 + passed 3 (drop (a + 1) s)) where
      stops_second : SlashAt s (a + 1) b ⊎ (clean (drop from s) ≡ false)
      stops_second = ⊎_elim inl (λ u. inr (behind-first ∙ u)) (slash-or-mark s (a + 1) b (omega arith) f)

      at_second : class_of (get_or s b 0) ≡ 3 → SlashAt s (a + 1) b
      at_second q = slash-at s (a + 1) b (omega arith) f (λ k. q)

      behind-second : b < length s → class_of (get_or s b 0) ≡ 3 → clean (drop from s) ≡ clean (drop (b + 1) s)
      behind-second k q = behind-first ∙ clean-walk 3 s (a + 1) b (omega arith) f (omega arith) ∙ clean-behind s b k q

-- ---- the first '/', at a

pub returns-then-a-from : goal.returns-then-a-from
returns-then-a-from c =
    let s = c.args.s.now in
    let from = c.args.from in
    let a = c.stop_from-a in
    sym
    (⊎_elim (λ A. path-no-tenant s from a.result A c.if-a-from.true) (path-unclean _) (slash-or-mark s from a.result c.requires a.ensures))

pub returns-then-end-a : goal.returns-then-end-a
returns-then-end-a c =
    let s = c.args.s.now in
    let from = c.args.from in
    let a = c.stop_from-a in
    sym
    (⊎_elim (λ A. path-no-slash s from a.result A c.if-end-a.true) (path-unclean _) (slash-or-mark s from a.result c.requires a.ensures))

pub returns-then-class_in-ne-SLASH : goal.returns-then-class_in-ne-SLASH
returns-then-class_in-ne-SLASH c =
    let a = c.stop_from-a in
    sym
    (path-unclean _
    (unclean-at c.args.s.now c.args.from a.result c.requires a.ensures (omega arith) (λ e. c.if-class_in-ne-SLASH.true (c.class_in.ensures ∙ e))))

-- ---- the second, at b

pub returns-then-b-a : goal.returns-then-b-a
returns-then-b-a c =
    let s = c.args.s.now in
    let from = c.args.from in
    let a = c.stop_from-a in
    let b = c.stop_from-b in
    let slash = sym c.class_in.ensures ∙ c.if-class_in-ne-SLASH.false in
    let A = at_first s from a.result c.requires a.ensures (omega arith) slash in
    let k = some s from a.result c.requires a.ensures (omega arith) slash c.if-a-from.false in
    sym
    (⊎_elim (λ B. path-no-namespace s from a.result A b.result B k c.if-b-a.true)
    (path-unclean _) (stops_second s from a.result c.requires a.ensures (omega arith) slash b.result b.ensures))

pub overflow_add-b : goal.overflow_add-b
overflow_add-b c =
    let a = c.stop_from-a in
    let b = c.stop_from-b in
    let most = stop-most 3 c.args.s.now (a.result + 1) b.result (omega arith) b.ensures in
    search (rules, most)

pub returns-then-end-b : goal.returns-then-end-b
returns-then-end-b c =
    let s = c.args.s.now in
    let from = c.args.from in
    let a = c.stop_from-a in
    let b = c.stop_from-b in
    let slash = sym c.class_in.ensures ∙ c.if-class_in-ne-SLASH.false in
    let A = at_first s from a.result c.requires a.ensures (omega arith) slash in
    let k = some s from a.result c.requires a.ensures (omega arith) slash c.if-a-from.false in
    sym
    (⊎_elim (λ B. path-no-local-name s from a.result A b.result B k c.if-b-a.false c.if-end-b.true)
    (path-unclean _) (stops_second s from a.result c.requires a.ensures (omega arith) slash b.result b.ensures))

pub returns-then-class_in-ne-SLASH-2 : goal.returns-then-class_in-ne-SLASH-2
returns-then-class_in-ne-SLASH-2 c =
    let s = c.args.s.now in
    let a = c.stop_from-a in
    let b = c.stop_from-b in
    let slash = sym c.class_in.ensures ∙ c.if-class_in-ne-SLASH.false in
    sym
    (path-unclean _
    (behind-first s c.args.from a.result c.requires a.ensures (omega arith) slash
    ∙ unclean-at s (a.result + 1) b.result (omega arith) b.ensures (omega arith) (λ e. c.if-class_in-ne-SLASH-2.true (c.class_in-2.ensures ∙ e))))

pub returns-then-class_in-eq-SLASH : goal.returns-then-class_in-eq-SLASH
returns-then-class_in-eq-SLASH c =
    let s = c.args.s.now in
    let from = c.args.from in
    let a = c.stop_from-a in
    let b = c.stop_from-b in
    let slash = sym c.class_in.ensures ∙ c.if-class_in-ne-SLASH.false in
    let slash2 = sym c.class_in-2.ensures ∙ c.if-class_in-ne-SLASH-2.false in
    let A = at_first s from a.result c.requires a.ensures (omega arith) slash in
    let B = at_second s from a.result c.requires a.ensures (omega arith) slash b.result b.ensures slash2 in
    let k = some s from a.result c.requires a.ensures (omega arith) slash c.if-a-from.false in
    sym
    (path-ends-in-slash s from a.result A b.result B k c.if-b-a.false (omega arith) (sym c.class_in-3.ensures ∙ c.if-class_in-eq-SLASH.true))

pub returns : goal.returns
returns c =
    let s = c.args.s.now in
    let from = c.args.from in
    let a = c.stop_from-a in
    let b = c.stop_from-b in
    let slash = sym c.class_in.ensures ∙ c.if-class_in-ne-SLASH.false in
    let slash2 = sym c.class_in-2.ensures ∙ c.if-class_in-ne-SLASH-2.false in
    let A = at_first s from a.result c.requires a.ensures (omega arith) slash in
    let B = at_second s from a.result c.requires a.ensures (omega arith) slash b.result b.ensures slash2 in
    let k = some s from a.result c.requires a.ensures (omega arith) slash c.if-a-from.false in
    clean_all s (b.result + 1) c.stop_from.result (omega arith) c.stop_from.ensures
    ∙ sym
    (path-clean s from a.result A b.result B k c.if-b-a.false (omega arith) (λ z. c.if-class_in-eq-SLASH.false (c.class_in-3.ensures ∙ z))
    ∙ behind-second s from a.result c.requires a.ensures (omega arith) slash b.result b.ensures (omega arith) slash2)
