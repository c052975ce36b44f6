-- The delta from one packed assignment to another is valid, has at most 145 ids and 145 records, and needs at most 3,210 bytes.
-- Assumes nothing.
use Prim.Native.Nat.{ℕ, suc, ◌*◌, ◌≤◌}
use native.Mathlib.Omega.{arith}
use mathlib.Core.Path.{◌≡◌, refl, ap}
use mathlib.Core.Bool.{Bool, true, not}
use mathlib.Core.List.{List, [], ◌∷◌, map}
use lib.ListN.{length}
use borrow.Author.Tests.{le-leb}
use Rattle.keyed.specs.Keyed.{filter}
use Rattle.keyed.proofs.KeyedLaws.{choose}
use Rattle.packed.specs.Assignment.{AssignedSegment, id_of, ConsumerAssignment, slot_size, size_segments, size_assignment, ok_from}
use Rattle.packed.proofs.AssignmentLaws.{size-least, ok-segment, ok-head, ok-tail}
use Rattle.packed.proofs.RoundLaws.{FitSegments}
use Rattle.packed_delta.specs.Delta.{size_delta, ids_from, ok_delta}
use Rattle.packed_delta.proofs.RoundLaws.{FitIds}
use Rattle.packed_delta.specs.Change.{has_same, without, delta_between}

-- ---- some of the records

module _ (p : AssignedSegment → Bool) where
  length-filter : (gs : List AssignedSegment) → length (filter p gs) ≤ length gs
  length-filter [] = omega arith
  length-filter (g ∷ gs) =
      choose (λ l. length l ≤ suc (length gs)) (p g) (λ t. omega (arith, length-filter gs)) (λ t. omega (arith, length-filter gs))

  size-filter : (gs : List AssignedSegment) → size_segments (filter p gs) ≤ size_segments gs
  unfolding size_segments
  size-filter [] = omega arith
  size-filter (g ∷ gs) =
      choose (λ l. size_segments l ≤ size_segments (g ∷ gs)) (p g) (λ t. omega (arith, size-filter gs)) (λ t. omega (arith, size-filter gs))

  ok-filter : (low from : ℕ) (gs : List AssignedSegment) → low ≤ from → ok_from from gs ≡ true → ok_from low (filter p gs) ≡ true
  unfolding ok_from
  ok-filter low from [] h e = refl
  ok-filter low from (g ∷ gs) h e =
      let i : from ≤ g.segment_id = ok-head from g gs e in
      let t : ok_from (suc g.segment_id) gs ≡ true = ok-tail from g gs e in
      choose (λ l. ok_from low l ≡ true) (p g)
      (λ b. simp (ok-segment from g gs e, le-leb low g.segment_id (omega arith))
      (ok-filter (suc g.segment_id) (suc g.segment_id) gs (omega arith) t))
      (λ b. ok-filter low (suc g.segment_id) gs (omega arith) t)

  fit-filter : (gs : List AssignedSegment) → FitSegments gs → FitSegments (filter p gs)
  fit-filter [] f = tt
  fit-filter (g ∷ gs) f = choose FitSegments (p g) (λ t. (f.0, fit-filter gs f.1)) (λ t. fit-filter gs f.1)

module _ (gs hs : List AssignedSegment) where
  pub length_without : length (without gs hs) ≤ length gs
  unfolding without
  length_without = length-filter (λ g. not (has_same hs g)) gs

  pub size-without : size_segments (without gs hs) ≤ size_segments gs
  unfolding without
  size-without = size-filter (λ g. not (has_same hs g)) gs

  pub ok-without : ok_from 0 gs ≡ true → ok_from 0 (without gs hs) ≡ true
  unfolding without
  ok-without e = ok-filter (λ g. not (has_same hs g)) 0 0 gs (omega arith) e

  pub fit-without : FitSegments gs → FitSegments (without gs hs)
  unfolding without
  fit-without f = fit-filter (λ g. not (has_same hs g)) gs f

-- ---- the ids of records

pub length_ids : (gs : List AssignedSegment) → length (map id_of gs) ≡ length gs
length_ids [] = refl
length_ids (g ∷ gs) = ap suc (length_ids gs)

pub ok-ids : (low : ℕ) (gs : List AssignedSegment) → ok_from low gs ≡ true → ids_from low (map id_of gs) ≡ true
unfolding ids_from
ok-ids low [] e = refl
ok-ids low (g ∷ gs) e = simp (le-leb low g.segment_id (ok-head low g gs e)) (ok-ids (suc g.segment_id) gs (ok-tail low g gs e))

pub fit-keys : (gs : List AssignedSegment) → FitSegments gs → FitIds (map id_of gs)
fit-keys [] f = tt
fit-keys (g ∷ gs) f = (f.0.id, fit-keys gs f.1)

-- ---- how many records

-- a record has at least 14 bytes
pub size-records : (gs : List AssignedSegment) → 14 * length gs ≤ size_segments gs
unfolding size_segments
size-records [] = omega arith
size-records (g ∷ gs) = omega (arith, size-least g, size-records gs)

pub few-records : (a : ConsumerAssignment) → size_assignment a ≤ slot_size → length a.segments ≤ 145
unfolding size_assignment
few-records a h = omega (arith, size-records a.segments)

-- ---- the delta

module _ (a b : ConsumerAssignment) where
  pub delta-ok : ok_from 0 a.segments ≡ true → ok_from 0 b.segments ≡ true → ok_delta (delta_between a b) ≡ true
  unfolding ok_delta delta_between
  delta-ok e f =
      let l : ids_from 0 (map id_of (without a.segments b.segments)) ≡ true = ok-ids 0 _ (ok-without a.segments b.segments e) in
      simp (l, ok-without b.segments a.segments f)

  pub delta-lost-few : size_assignment a ≤ slot_size → length (delta_between a b).lost ≤ 145
  unfolding delta_between
  delta-lost-few h =
      omega (arith, few-records a h, length_ids (without a.segments b.segments), length_without a.segments b.segments)

  pub delta-gained-few : size_assignment b ≤ slot_size → length (delta_between a b).gained ≤ 145
  unfolding delta_between
  delta-gained-few h = omega (arith, few-records b h, length_without b.segments a.segments)

  pub delta-lost-fit : FitSegments a.segments → FitIds (delta_between a b).lost
  unfolding delta_between
  delta-lost-fit f = fit-keys (without a.segments b.segments) (fit-without a.segments b.segments f)

  pub delta-gained-fit : FitSegments b.segments → FitSegments (delta_between a b).gained
  unfolding delta_between
  delta-gained-fit f = fit-without b.segments a.segments f

  -- 8 bytes for each of 145 ids, 2,038 for the records, 12 before them
  pub delta-short : size_assignment a ≤ slot_size → size_assignment b ≤ slot_size → size_delta (delta_between a b) ≤ 3210
  unfolding size_delta delta_between size_assignment
  delta-short h k = omega (arith, delta-lost-few h, size-without b.segments a.segments)
