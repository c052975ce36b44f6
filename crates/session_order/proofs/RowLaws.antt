-- What rows of fields say that differ only in the order of segments.
--
-- In order: rows joined (`reordered-append`); an assignment's numbers are the same (`numbers-reordered`), and so are a
-- message's (`numbers-rearranged`); an assignment's segments are the same in any order (`parts-reordered`); a message
-- has an assignment or has none (`present-rearranged`), and the joined rows of its assignments are reordered
-- (`merged-rearranged`).
-- Assumes nothing.
use Prim.Native.Nat.{ℕ}
use mathlib.Core.Path.{◌≡◌, refl, sym, ap, ◌∙◌, subst}
use mathlib.Core.List.{List, [], ◌∷◌, ◌++◌}
use borrow.Author.Tests.{eq-eqb}
use Rattle.wire.specs.Fields.{Field, fields_of}
use Rattle.wire_values.specs.Values.{numbers_of, parts_of, present, join_fields, merged_fields}
use Rattle.wire_values.proofs.ValueLaws.{numbers-append, parts-append}
use Rattle.keyed.specs.Shuffled.{Shuffled, nil, trans}
use Rattle.session_order.specs.SegmentOrder.{segment, Reordered, Rearranged}
use Rattle.keyed.proofs.ShuffleLaws.{shuffled-sym, shuffled-behind, shuffled-past}

abbrev Parts : Type 0
Parts = List (List ℕ)

-- ---- rows joined

reordered-refl : (fs : List Field) → Reordered fs fs
reordered-refl [] = Reordered.end
reordered-refl (x ∷ fs) = Reordered.same x (reordered-refl fs)

reordered-behind : (fs : List Field) {hs ks : List Field} → Reordered hs ks → Reordered (fs ++ hs) (fs ++ ks)
reordered-behind [] r = r
reordered-behind (x ∷ fs) r = Reordered.same x (reordered-behind fs r)

reordered-append : {fs gs : List Field} → Reordered fs gs → {hs ks : List Field} → Reordered hs ks
    → Reordered (fs ++ hs) (gs ++ ks)
reordered-append Reordered.end r = r
reordered-append (Reordered.same x q) r = Reordered.same x (reordered-append q r)
reordered-append (Reordered.later p x fs) {hs} {ks} r =
    Reordered.then (Reordered.later p x (fs ++ hs))
    (Reordered.same x (Reordered.same (segment p) (reordered-behind fs r)))
reordered-append (Reordered.earlier p x fs) {hs} {ks} r =
    Reordered.then (Reordered.earlier p x (fs ++ hs))
    (Reordered.same (segment p) (Reordered.same x (reordered-behind fs r)))
reordered-append (Reordered.then q s) {hs} {ks} r =
    Reordered.then (reordered-append q r) (reordered-append s (reordered-refl ks))

-- ---- numbers

module _ (n : ℕ) where
  numbers-cons : (x : Field) (fs gs : List Field) → numbers_of n fs ≡ numbers_of n gs
      → numbers_of n (x ∷ fs) ≡ numbers_of n (x ∷ gs)
  numbers-cons x fs gs e =
      numbers-append n (x ∷ []) fs
      ∙ ap (λ (l : List ℕ). numbers_of n (x ∷ []) ++ l) e
      ∙ sym (numbers-append n (x ∷ []) gs)

  pub numbers-reordered : {fs gs : List Field} → Reordered fs gs → numbers_of n fs ≡ numbers_of n gs
  numbers-reordered Reordered.end = refl
  numbers-reordered (Reordered.same x {fs} {gs} r) = numbers-cons x fs gs (numbers-reordered r)
  numbers-reordered (Reordered.later p x fs) = numbers-cons x fs (segment p ∷ fs) refl
  numbers-reordered (Reordered.earlier p x fs) = numbers-cons x (segment p ∷ fs) fs refl
  numbers-reordered (Reordered.then r s) = numbers-reordered r ∙ numbers-reordered s

  pub numbers-rearranged : {a : ℕ} {fs gs : List Field} → Rearranged a fs gs → numbers_of n fs ≡ numbers_of n gs
  numbers-rearranged Rearranged.end = refl
  numbers-rearranged (Rearranged.same x {fs} {gs} r) = numbers-cons x fs gs (numbers-rearranged r)
  numbers-rearranged (Rearranged.assignment p q s r) = numbers-rearranged r

-- ---- parts

-- what is so of two lists of parts, behind the same parts too, is so of two rows with the same field in front
parts-cons : (P : Parts → Parts → Type 0) → ((l ps qs : Parts) → P ps qs → P (l ++ ps) (l ++ qs))
    → (n : ℕ) (x : Field) (fs gs : List Field) → P (parts_of n fs) (parts_of n gs)
    → P (parts_of n (x ∷ fs)) (parts_of n (x ∷ gs))
parts-cons P behind n x fs gs h =
    let l : Parts = parts_of n (x ∷ []) in
    subst (λ (ps : Parts). P ps (parts_of n (x ∷ gs))) (sym (parts-append n (x ∷ []) fs))
    (subst (P (l ++ parts_of n fs)) (sym (parts-append n (x ∷ []) gs)) (behind l (parts_of n fs) (parts_of n gs) h))

-- a segment before the field x, and behind it
parts-later : (p : List ℕ) (x : Field) (fs : List Field)
    → Shuffled (parts_of 2 (segment p ∷ x ∷ fs)) (parts_of 2 (x ∷ segment p ∷ fs))
parts-later p x fs =
    subst (λ (l : Parts). Shuffled (p ∷ l) (parts_of 2 (x ∷ segment p ∷ fs))) (sym (parts-append 2 (x ∷ []) fs))
    (subst (Shuffled (p ∷ (parts_of 2 (x ∷ []) ++ parts_of 2 fs))) (sym (parts-append 2 (x ∷ []) (segment p ∷ fs)))
    (shuffled-past p (parts_of 2 (x ∷ [])) (parts_of 2 fs)))

pub parts-reordered : {fs gs : List Field} → Reordered fs gs → Shuffled (parts_of 2 fs) (parts_of 2 gs)
parts-reordered Reordered.end = nil
parts-reordered (Reordered.same x {fs} {gs} r) =
    parts-cons Shuffled (λ l ps qs s. shuffled-behind l s) 2 x fs gs (parts-reordered r)
parts-reordered (Reordered.later p x fs) = parts-later p x fs
parts-reordered (Reordered.earlier p x fs) = shuffled-sym (parts-later p x fs)
parts-reordered (Reordered.then r s) = trans (parts-reordered r) (parts-reordered s)

-- ---- a message's assignments

abbrev BothPresent : Parts → Parts → Type 0
BothPresent ps qs = present ps ≡ present qs

present-behind : (l ps qs : Parts) → BothPresent ps qs → BothPresent (l ++ ps) (l ++ qs)
present-behind [] ps qs e = e
present-behind (p ∷ l) ps qs e = refl

abbrev JoinReordered : Parts → Parts → Type 0
JoinReordered ps qs = Reordered (join_fields ps) (join_fields qs)

join-behind : (l ps qs : Parts) → JoinReordered ps qs → JoinReordered (l ++ ps) (l ++ qs)
join-behind [] ps qs r = r
join-behind (p ∷ l) ps qs r = reordered-behind (fields_of p) (join-behind l ps qs r)

module _ (a : ℕ) where
  pub present-rearranged : {fs gs : List Field} → Rearranged a fs gs → present (parts_of a fs) ≡ present (parts_of a gs)
  present-rearranged Rearranged.end = refl
  present-rearranged (Rearranged.same x {fs} {gs} r) =
      parts-cons BothPresent present-behind a x fs gs (present-rearranged r)
  present-rearranged (Rearranged.assignment p q s r) = simp (eq-eqb a a refl)

  pub merged-rearranged : {fs gs : List Field} → Rearranged a fs gs → Reordered (merged_fields a fs) (merged_fields a gs)
  merged-rearranged Rearranged.end = Reordered.end
  merged-rearranged (Rearranged.same x {fs} {gs} r) =
      parts-cons JoinReordered join-behind a x fs gs (merged-rearranged r)
  merged-rearranged (Rearranged.assignment p q s r) = rw (eq-eqb a a refl) (reordered-append s (merged-rearranged r))
