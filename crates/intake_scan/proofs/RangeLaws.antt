-- Laws of a bucket range in its usual form, two numbers with one-byte keys and nothing behind them.
--
-- In order: a number with a one-byte key (`number_at`); a varint as the program reads it (`VarintAt`); the two numbers are the range's ends
-- (`usual-range`).
-- Assumes nothing.
use Rattle.std.specs.Prelude.{Some}
use Prim.Native.Nat.{ℕ, ◌+◌, ◌-◌, ◌*◌, ◌/◌, ◌%◌, ◌≤◌, ◌<◌}
use native.Mathlib.Omega.{arith}
use mathlib.Core.Path.{◌≡◌, refl, sym, ap, ◌∙◌}
use mathlib.Core.List.{List, [], ◌∷◌}
use lib.ListN.{length, take, drop, get_or, length-drop}
use lib.Seq.{drop-drop, get_or-drop}
use Rattle.slice.proofs.PartLaws.{rest}
use Rattle.wire.specs.declared.WireType.TheVariants as wire
use Rattle.wire.specs.declared.Body.TheVariants as body
use Rattle.wire.specs.Varints.{varint_of}
use Rattle.wire.specs.Field.{key_read}
use Rattle.wire.specs.Fields.{fields_of}
use Rattle.wire.proofs.VarintLaws.{varint-one, varint-size}
use Rattle.wire.proofs.FieldLaws.{key-typed, number-value}
use Rattle.wire_values.specs.declared.Front.TheVariants as front
use Rattle.wire_values.specs.Values.{last_of, or_zero, number_in}
use Rattle.wire_values.specs.Integers.{int32_of}
use Rattle.wire_values.specs.Places.{front_of}
use Rattle.wire_values.proofs.FrontLaws.{numbers_from, NumberAt, front-of-body, front_at, numbers-end, number_same, number-other}
use Rattle.wire_readers.specs.declared.IntRange.{IntRange}
use Rattle.wire_readers.specs.Messages.{int_range_of}

module _ (f : ℕ) (low : 0 < f) (high : f < 16) (s : List ℕ) (at : ℕ) (h : at < length s) (e : get_or s at 0 ≡ 8 * f) where
  key-at : key_read (drop at s) ≡ Some (f, wire.Varint, 1)
  key-at =
      let z : at + 0 ≡ at = omega arith in
      let b : get_or (drop at s) 0 0 ≡ 8 * f = get_or-drop at s 0 0 ∙ ap (λ (i : ℕ). get_or s i 0) z ∙ e in
      let v : varint_of (drop at s) ≡ Some (8 * f, 1) =
      varint-one (drop at s) (omega (arith, length-drop at s)) (omega arith) ∙ rw b in
      let d : 8 * f / 8 ≡ f = omega arith in
      let m : 8 * f % 8 ≡ 0 = omega arith in
      key-typed (drop at s) (8 * f) 1 v (omega arith) (λ q. omega arith) 0 m ∙ rw d

  -- the number stands behind the key, as `&s[at + 1..]`
  number_at : (v n : ℕ) → varint_of (take (length s - (at + 1)) (drop (at + 1) s)) ≡ Some (v, n) → NumberAt s at f v (1 + n)
  number_at v n g =
      let q : varint_of (take (length (drop at s) - 1) (drop 1 (drop at s))) ≡ Some (v, n) =
      ap varint_of (rest (drop at s) 1 ∙ drop-drop 1 at s ∙ sym (rest s (at + 1))) ∙ g in
      let w = front-of-body (drop at s) f wire.Varint 1 (Some (body.Number v n)) key-at (number-value _ v n q) in
      front_at s at h (Some (front.Number f v (1 + n))) (ap front_of (rest s at) ∙ w)

-- a varint in `&s[at..]`, which it does not leave
pub record VarintAt (s : List ℕ) (at v n : ℕ) : Type 0 where
  pub is : varint_of (take (length s - at) (drop at s)) ≡ Some (v, n)
  pub inside : n ≤ length s - at

pub varint-at : (s : List ℕ) (at v n : ℕ) → varint_of (take (length s - at) (drop at s)) ≡ Some (v, n) → VarintAt s at v n
varint-at s at v n e =
    let z = varint-size (drop at s) v n (ap varint_of (sym (rest s at)) ∙ e) in
    record { is = e; inside = omega (arith, length-drop at s, z) }

pub usual-range : {p : List ℕ} {v w m n : ℕ} → 0 < length p → get_or p 0 0 ≡ 8 → VarintAt p 1 v m
    → 1 + m < length p → get_or p (1 + m) 0 ≡ 16 → VarintAt p (1 + m + 1) w n → 1 + m + 1 + n ≡ length p
    → ◌≡◌ {A = IntRange} (record { start = int32_of v; end = int32_of w }) (int_range_of p)
unfolding int_range_of fields_of
usual-range {p} {v} {w} {m} {n} h a d k b e z =
    let x : NumberAt p 0 1 v (1 + m) = number_at 1 (omega arith) (omega arith) p 0 h a v m d.is in
    let y : NumberAt p (1 + m) 2 w (1 + n) = number_at 2 (omega arith) (omega arith) p (1 + m) k b w n e.is in
    let o : 0 + (1 + m) ≡ 1 + m = omega arith in
    let none : (i : ℕ) → numbers_from i p (1 + m + (1 + n)) ≡ [] = λ i. numbers-end i p (1 + m + (1 + n)) (omega arith) in
    let first : numbers_from 1 p 0 ≡ v ∷ [] =
    rw o at (number_same x 1 refl) ∙ ap (λ (l : List ℕ). v ∷ l) (number-other y 1 (λ q. omega arith) ∙ none 1) in
    let second : numbers_from 2 p 0 ≡ w ∷ [] =
    rw o at (number-other x 2 (λ q. omega arith)) ∙ number_same y 2 refl ∙ ap (λ (l : List ℕ). w ∷ l) (none 2) in
    let i : number_in 1 (fields_of p) ≡ v = ap (λ (l : List ℕ). or_zero (last_of l)) first in
    let j : number_in 2 (fields_of p) ≡ w = ap (λ (l : List ℕ). or_zero (last_of l)) second in
    rw (i, j)
