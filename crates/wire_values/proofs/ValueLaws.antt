-- Laws of the values of a row of fields: `numbers_of`, `parts_of`, `last_after`, over plain lists.
--
-- In order: two rows, one behind the other (`numbers-append`, `parts-append`); the rows of several parts (`numbers-join`, `parts_join`);
-- the last of two lists, one behind the other (`last-append`).
-- Assumes nothing.
use Rattle.std.specs.Prelude.{Option, Some}
use Prim.Native.Nat.{ℕ}
use mathlib.Core.Path.{◌≡◌, refl}
use mathlib.Core.Bool.{Bool, true, false, cond}
use mathlib.Core.List.{List, [], ◌∷◌, ◌++◌}
use lib.Dec.{eqb}
use Rattle.wire.specs.Fields.{number, bytes, fixed, cut, Field, bad_key, field, fields_of}
use Rattle.wire_values.specs.Values.{numbers_of, parts_of, last_after, join_fields}

-- ---- two rows

cond-append {ℓ} : {A : Type ℓ} (t : Bool) (x : A) (l m : List A) → cond t (x ∷ (l ++ m)) (l ++ m) ≡ cond t (x ∷ l) l ++ m
cond-append true x l m = refl
cond-append false x l m = refl

pub numbers-append : (n : ℕ) (fs gs : List Field) → numbers_of n (fs ++ gs) ≡ numbers_of n fs ++ numbers_of n gs
numbers-append n [] gs = refl
numbers-append n (bad_key ∷ fs) gs = numbers-append n fs gs
numbers-append n (field f w (number v) ∷ fs) gs =
    rw (numbers-append n fs gs) (cond-append (eqb f n) v (numbers_of n fs) (numbers_of n gs))
numbers-append n (field f w (bytes l) ∷ fs) gs = numbers-append n fs gs
numbers-append n (field f w fixed ∷ fs) gs = numbers-append n fs gs
numbers-append n (field f w cut ∷ fs) gs = numbers-append n fs gs

pub parts-append : (n : ℕ) (fs gs : List Field) → parts_of n (fs ++ gs) ≡ parts_of n fs ++ parts_of n gs
parts-append n [] gs = refl
parts-append n (bad_key ∷ fs) gs = parts-append n fs gs
parts-append n (field f w (number v) ∷ fs) gs = parts-append n fs gs
parts-append n (field f w (bytes l) ∷ fs) gs =
    rw (parts-append n fs gs) (cond-append (eqb f n) l (parts_of n fs) (parts_of n gs))
parts-append n (field f w fixed ∷ fs) gs = parts-append n fs gs
parts-append n (field f w cut ∷ fs) gs = parts-append n fs gs

-- ---- the rows of several parts: the first, and the others

module _ (k : ℕ) (p : List ℕ) (ps : List (List ℕ)) where
  pub numbers-join : numbers_of k (join_fields (p ∷ ps)) ≡ numbers_of k (fields_of p) ++ numbers_of k (join_fields ps)
  numbers-join = numbers-append k (fields_of p) (join_fields ps)

  pub parts_join : parts_of k (join_fields (p ∷ ps)) ≡ parts_of k (fields_of p) ++ parts_of k (join_fields ps)
  parts_join = parts-append k (fields_of p) (join_fields ps)

-- ---- the last

pub last-append : (x : Option ℕ) (l m : List ℕ) → last_after x (l ++ m) ≡ last_after (last_after x l) m
last-append x [] m = refl
last-append x (v ∷ l) m = last-append (Some v) l m
