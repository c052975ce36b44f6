-- A walk over records that looks for one: those that are left, from a place on, decide what is asked of all.
--
-- In order: what holds at each record (`Turn`), at the first (`turn-start`) and behind the last (`turn_end`); a record where it lies (`turn-head`,
-- `turn-valid`, `turn_inside`); one that decides (`turn-found`), and one that does not (`turn-next`).
-- Assumes nothing.
use Prim.Native.Nat.{ℕ, ◌+◌, ◌-◌, ◌≤◌, ◌<◌}
use native.Mathlib.Omega.{arith}
use mathlib.Core.Path.{◌≡◌, refl, sym, ap, ◌∙◌, subst}
use mathlib.Core.Bool.{true}
use mathlib.Core.List.{List, [], ◌∷◌}
use lib.ListN.{length, drop}
use Rattle.packed.specs.Assignment.{AssignedSegment, decode_segment, decode_segments, size_segment, ok_segment, ok_from}
use Rattle.packed.proofs.AssignmentLaws.{size-least, segments-at, ok-segment, Rest, rest-head, rest-next}

-- what f says of the m records from the place 10 on, it says of those that are left from the place p on
pub record Turn {A : Type 0} (f : List AssignedSegment → A) (s : List ℕ) (m p left : ℕ) : Type 0 where
  pub rest : Rest s p left
  pub decides : f (decode_segments m (drop 10 s)) ≡ f (decode_segments left (drop p s))

pub turn-start : {A : Type 0} (f : List AssignedSegment → A) (s : List ℕ) (m : ℕ) → Rest s 10 m → Turn f s m 10 m
turn-start f s m r = record { rest = r; decides = refl }

module _ {A : Type 0} {f : List AssignedSegment → A} {s : List ℕ} {m p left : ℕ} (v : Turn f s m p left) where
  pub turn_end : left ≤ 0 → f [] ≡ f (decode_segments m (drop 10 s))
  unfolding decode_segments
  turn_end h = let e : left ≡ 0 = omega arith in sym (v.decides ∙ ap (λ (n : ℕ). f (decode_segments n (drop p s))) e)

  module _ (h : 0 < left) where
    abbrev g : AssignedSegment
    g = decode_segment (drop p s)

    pub turn-head : p + 14 ≤ length s
    turn-head = omega (arith, rest-head s p left _ h refl v.rest, size-least g)

    pub turn-valid : ok_segment g ≡ true
    turn-valid = ok-segment 0 g _ (subst (λ (l : List AssignedSegment). ok_from 0 l ≡ true) (segments-at s p left _ h refl) v.rest.ok)

    -- what the record decides, whatever stands behind it
    pub turn-found : {a : A} → ((gs : List AssignedSegment) → a ≡ f (g ∷ gs)) → a ≡ f (decode_segments m (drop 10 s))
    turn-found e = e _ ∙ sym (v.decides ∙ ap f (segments-at s p left _ h refl))

    module _ (z : ℕ) (ez : z ≡ size_segment g) where
      pub turn_inside : p + z ≤ length s
      turn_inside = rest-head s p left z h ez v.rest

      -- what those behind it decide
      pub turn-next : ((gs : List AssignedSegment) → f (g ∷ gs) ≡ f gs) → Turn f s m (p + z) (left - 1)
      turn-next e = record { rest = rest-next s p left z h ez v.rest; decides = v.decides ∙ ap f (segments-at s p left z h ez) ∙ e _ }
