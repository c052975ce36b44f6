-- Laws of a walk that keeps a value: what it has kept, carried on over what is left, is what the whole comes to.
--
-- In order: `Kept`, and its cases at the end (`kept-done`), at one more element (`kept_next`), at none (`kept-stays`); a walk's start,
-- where it keeps the last number (`last-start`), the last number or 0 (`number-start`), the last part (`part-start`).
--
-- The equations that `kept_next` and `kept-stays` want of what is left are those of FrontLaws: `number_same`, `q.numbers n` ..
-- Assumes nothing.
use Rattle.std.specs.Prelude.{Option, Some}
use Prim.Native.Nat.{ℕ}
use mathlib.Core.Path.{◌≡◌, refl, sym, ap, ◌∙◌}
use mathlib.Core.List.{List, [], ◌∷◌, foldl}
use Rattle.wire_values.specs.Values.{last_after, last_of, last_part_after, last_part, or_zero}

-- x is kept, left is still to come, and total is what the whole comes to
pub record Kept {A X : Type 0} (step : X → A → X) (total x : X) (left : List A) : Type 0 where
  pub is : total ≡ foldl step x left

module _ {A X : Type 0} {step : X → A → X} {total x : X} {left : List A} where
  pub kept-done : left ≡ [] → Kept step total x left → x ≡ total
  kept-done e k = sym (k.is ∙ ap (foldl step x) e)

  module _ {rest : List A} {y : X} where
    pub kept_next : {a : A} → left ≡ a ∷ rest → y ≡ step x a → Kept step total x left → Kept step total y rest
    kept_next e g k = record { is = rw g (k.is ∙ ap (foldl step x) e) }

    pub kept-stays : left ≡ rest → y ≡ x → Kept step total x left → Kept step total y rest
    kept-stays e g k = record { is = rw g (k.is ∙ ap (foldl step x) e) }

-- ---- the start

-- the later one is kept
abbrev pub later : {A : Type 0} → A → A → A
later x y = y

-- the later number is kept
abbrev pub found : Option ℕ → ℕ → Option ℕ
found x v = Some v

last-fold : (x : Option ℕ) (l : List ℕ) → last_after x l ≡ foldl found x l
last-fold x [] = refl
last-fold x (v ∷ l) = last-fold (Some v) l

pub last-start : (x : Option ℕ) (l : List ℕ) → Kept found (last_after x l) x l
last-start x l = record { is = last-fold x l }

-- once a number is found, there is one
found-fold : (x : ℕ) (l : List ℕ) → last_after (Some x) l ≡ Some (foldl later x l)
found-fold x [] = refl
found-fold x (v ∷ l) = found-fold v l

number-fold : (l : List ℕ) → or_zero (last_of l) ≡ foldl later 0 l
number-fold [] = refl
number-fold (v ∷ l) = ap or_zero (found-fold v l)

pub number-start : (l : List ℕ) → Kept later (or_zero (last_of l)) 0 l
number-start l = record { is = number-fold l }

part-fold : (p : List ℕ) (ps : List (List ℕ)) → last_part_after p ps ≡ foldl later p ps
part-fold p [] = refl
part-fold p (q ∷ ps) = part-fold q ps

pub part-start : (ps : List (List ℕ)) → Kept later (last_part ps) [] ps
part-start ps = record { is = part-fold [] ps }
