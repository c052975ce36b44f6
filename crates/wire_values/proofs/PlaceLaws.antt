-- Laws of what a singular message holds in its parts: `inner_from`, `NextInner`, and the last number of a field.
--
-- In order: a cursor by its numbers (`place`); the cursor before the first part (`inside-first`, `inner_first`) and that at the start of
-- a part of field n (`inside-later`); the next part in this part of field n (`inner-found`), none anywhere (`inner-none`), none here
-- (`inner-later`); the last number so far (`InnerKept`), and its cases from `inner_start` on.
--
-- A caller that goes over all parts starts with the first two; the others serve `next_inner` and `inner_number`.
-- Assumes nothing.
use Rattle.std.specs.Prelude.{Option, Some, None}
use Prim.Native.Nat.{ℕ, ◌+◌, ◌-◌, ◌≤◌, ◌<◌}
use native.Mathlib.Omega.{arith}
use mathlib.Core.Path.{◌≡◌, refl, sym, ap, ◌∙◌}
use mathlib.Core.List.{List, [], ◌++◌}
use lib.ListN.{length, take, drop}
use lib.Seq.{take-take, length-take-le}
use Rattle.slice.proofs.PartLaws.{drop-take}
use Rattle.wire.specs.Fields.{fields_of}
use Rattle.wire_values.specs.declared.Cursor.{Cursor}
use Rattle.wire_values.specs.Values.{numbers_of, parts_of, last_after, last_of, join_fields, merged_fields, or_zero, number_in}
use Rattle.wire_values.specs.Places.{NextPart, inner_from, Inside, NextInner}
use Rattle.wire_values.proofs.ValueLaws.{numbers-join, parts_join, last-append}

abbrev pub place : ℕ → ℕ → ℕ → Cursor
place outer at end = record { outer = outer; at = at; end = end }

-- ---- before the first part

pub inside-first : (m : List ℕ) → Inside m (place 0 0 0)
inside-first m = record { at-outer = omega arith; end-outer = omega arith; end-length = omega arith }

-- before the first part lie all parts of field k in the singular message of field n
pub inner_first : (n k : ℕ) (m : List ℕ) → inner_from n k m (place 0 0 0) ≡ parts_of k (merged_fields n (fields_of m))
unfolding fields_of
inner_first n k m = refl

-- behind a part of field n, with the place at its start
pub inside-later : (n : ℕ) (m : List ℕ) (outer start len next : ℕ) → NextPart n m outer (Some (start, len, next))
    → Inside m (place next start (start + len))
inside-later n m outer start len next q =
    let b : next ≡ start + len = q.1 in
    record { at-outer = omega arith; end-outer = omega arith; end-length = omega (arith, q.2) }

-- ---- the next part

-- a part of a front of m is a part of m
part-of-front : (start len end : ℕ) (m : List ℕ) → start + len ≤ end → take len (drop start (take end m)) ≡ take len (drop start m)
part-of-front start len end m h =
    let e : end ≡ start + (end - start) = omega arith in
    rw (e, drop-take start (end - start) m, take-take len (end - start) (drop start m) (omega arith))

module _ (n k : ℕ) (m : List ℕ) (outer at end : ℕ) where
  -- in this part of field n
  pub inner-found : Inside m (place outer at end) → (start len next : ℕ) → NextPart k (take end m) at (Some (start, len, next))
      → NextInner n k m (place outer at end) (Some (start, len, place outer next end))
  inner-found i start len next q =
      let a : at < start = q.0 in
      let b : next ≡ start + len = q.1 in
      let d : next ≤ length (take end m) = q.2 in
      let t : length (take end m) ≡ end = length-take-le end m i.end-length in
      let o = parts_of k (join_fields (parts_of n (fields_of (drop outer m)))) in (
        omega arith,
        omega arith,
        omega arith,
        record { at-outer = omega arith; end-outer = i.end-outer; end-length = i.end-length },
        ap (λ (l : List (List ℕ)). l ++ o) q.3 ∙ rw (part-of-front start len end m (omega arith)),
      )

  module _ (e : NextPart k (take end m) at None) where
    pub inner-none : NextPart n m outer None → inner_from n k m (place outer at end) ≡ []
    inner-none q = rw (e, q)

    -- in the next part of field n, which is the cursor's from here on
    pub inner-later : (start len next : ℕ) → NextPart n m outer (Some (start, len, next))
        → inner_from n k m (place outer at end) ≡ inner_from n k m (place next start (start + len))
    inner-later start len next q =
        rw (e, q.3, drop-take start len m) (parts_join k (take len (drop start m)) (parts_of n (fields_of (drop next m))))

-- ---- the last number of field k in the singular message of field n

-- x is the last of those in the parts before the place `at`
pub record InnerKept (n k : ℕ) (m : List ℕ) (at : ℕ) (x : Option ℕ) : Type 0 where
  pub is : last_of (numbers_of k (merged_fields n (fields_of m))) ≡ last_after x (numbers_of k (join_fields (parts_of n (fields_of (drop at m)))))

pub inner_start : (n k : ℕ) (m : List ℕ) → InnerKept n k m 0 None
inner_start n k m = record { is = refl }

module _ {n k : ℕ} {m : List ℕ} {at : ℕ} {x : Option ℕ} (h : InnerKept n k m at x) where
  -- one more part, `&m[start..end]`
  pub inner-next : (start len end : ℕ) {y : Option ℕ} → NextPart n m at (Some (start, len, end))
      → y ≡ last_after x (numbers_of k (fields_of (take (end - start) (drop start m)))) → InnerKept n k m end y
  inner-next start len end q e =
      let p = take len (drop start m) in
      let ps = parts_of n (fields_of (drop end m)) in
      let a : end - start ≡ len = omega (arith, q.1) in
      let b = ap (last_after x) (ap (λ (l : List (List ℕ)). numbers_of k (join_fields l)) q.3 ∙ numbers-join k p ps) in
      record { is = rw (e, a) (h.is ∙ b ∙ last-append x (numbers_of k (fields_of p)) (numbers_of k (join_fields ps))) }

  pub inner-done : NextPart n m at None → or_zero x ≡ number_in k (merged_fields n (fields_of m))
  inner-done q = ap or_zero (sym (h.is ∙ ap (λ (l : List (List ℕ)). last_after x (numbers_of k (join_fields l))) q))
