-- Laws of `takes` and `first_taking` over records that are read where they lie.
--
-- In order: a row of ranges (`any-point`); a record by its range and its count (`counted-size`,
-- `takes-outside`, `takes_whole`, `takes-bucketed`); records by the first of them (`first_found`, `first-further`,
-- `first-none`); the cases of `segment_for_key` (`for-long`, `for-malformed`, `for-whole`).
-- Assumes nothing.
use Rattle.std.specs.Prelude.{Some, None, Ok, Err}
use Prim.Native.Nat.{ℕ, zero, suc, ◌+◌, ◌*◌, ◌≤◌, ◌<◌}
use mathlib.Core.Path.{◌≡◌, refl, sym, ap, ◌∙◌}
use mathlib.Core.Bool.{Bool, true, false, ◌&&◌, ◌||◌}
use mathlib.Core.List.{List, [], ◌∷◌}
use lib.ListN.{length, drop}
use borrow.Author.Tests.{lt-ltb, le-ltb}
use Rattle.topic_types.specs.declared.KeyRange.{KeyRange}
use Rattle.refusal.specs.declared.Refusal.TheVariants.{KeyTooLong, MalformedInput}
use Rattle.ranges.specs.Overlap.{overlaps_any}
use Rattle.ranges_calls.specs.Calls.{holds}
use Rattle.slice_int.specs.Be.{be_at}
use Rattle.packed.specs.Assignment.{AssignedSegment, decode_range, decode_ranges, decode_segment, decode_segments, size_segment, is_assignment}
use Rattle.packed.proofs.AssignmentLaws.{segment-at, seen_size}
use Rattle.key_lookup.specs.Lookup.{longest_key, key_hash, any_holds, in_buckets, takes, first_taking, segment_for_key}
use Rattle.packed.proofs.WholeLaws.{Whole}

-- ---- a row of ranges

-- one has the hash where one shares a value with the range of the hash alone
pub any-point : (hash : ℕ) (rs : List KeyRange) → overlaps_any (record { start = hash; end = hash }) rs ≡ any_holds hash rs
unfolding overlaps_any any_holds
any-point hash [] = refl
any-point hash (r ∷ rs) = ap (λ (t : Bool). holds hash r || t) (any-point hash rs)

-- ---- a record at a place, by the range and the count that were read there

pub counted-size : (s : List ℕ) (p n : ℕ) → n ≡ be_at 2 s (p + 12) → size_segment (decode_segment (drop p s)) ≡ 14 + 4 * n
counted-size s p n en = seen_size s p (be_at 8 s p) (decode_range (drop (p + 8) s)) n (record { id-is = refl; range-is = refl; count-is = en })

module _ (s : List ℕ) (p hash : ℕ) (r : KeyRange) (er : r ≡ decode_range (drop (p + 8) s)) where
  takes_at : (n : ℕ) → n ≡ be_at 2 s (p + 12)
      → takes hash (decode_segment (drop p s)) ≡ (holds hash r && in_buckets hash (decode_ranges n (drop (p + 14) s)))
  unfolding takes
  takes_at n en = ap (takes hash) (segment-at s p (be_at 8 s p) r n refl er en)

  pub takes-outside : holds hash r ≡ false → false ≡ takes hash (decode_segment (drop p s))
  takes-outside e =
      sym (takes_at (be_at 2 s (p + 12)) refl ∙ ap (λ (t : Bool). t && in_buckets hash (decode_ranges (be_at 2 s (p + 12)) (drop (p + 14) s))) e)

  module _ (n : ℕ) (en : n ≡ be_at 2 s (p + 12)) (e : holds hash r ≡ true) where
    inside : takes hash (decode_segment (drop p s)) ≡ in_buckets hash (decode_ranges n (drop (p + 14) s))
    inside = takes_at n en ∙ ap (λ (t : Bool). t && in_buckets hash (decode_ranges n (drop (p + 14) s))) e

    pub takes_whole : n ≡ 0 → true ≡ takes hash (decode_segment (drop p s))
    unfolding in_buckets decode_ranges
    takes_whole z = sym (inside ∙ ap (λ (k : ℕ). in_buckets hash (decode_ranges k (drop (p + 14) s))) z)

    pub takes-bucketed : (n ≡ 0 → ⊥) → any_holds hash (decode_ranges n (drop (p + 14) s)) ≡ takes hash (decode_segment (drop p s))
    unfolding any_holds in_buckets decode_ranges
    takes-bucketed z = sym (inside ∙ some n (drop (p + 14) s) z)
      where
        some : (k : ℕ) (l : List ℕ) → (k ≡ 0 → ⊥) → in_buckets hash (decode_ranges k l) ≡ any_holds hash (decode_ranges k l)
        some zero l z = absurd (z refl)
        some (suc k) l z = refl

-- ---- records by the first of them

module _ (hash : ℕ) (g : AssignedSegment) (gs : List AssignedSegment) where
  pub first_found : takes hash g ≡ true → Ok (Some (record { 0 = g.segment_id })) ≡ first_taking hash (g ∷ gs)
  unfolding first_taking
  first_found e = rw e

  pub first-further : takes hash g ≡ false → first_taking hash (g ∷ gs) ≡ first_taking hash gs
  unfolding first_taking
  first-further e = rw e

pub first-none : (hash : ℕ) → (Ok None) ≡ first_taking hash []
unfolding first_taking
first-none hash = refl

-- ---- the cases of `segment_for_key`

module _ (key s : List ℕ) where
  pub for-long : longest_key < length key → Err KeyTooLong ≡ segment_for_key key s
  unfolding segment_for_key
  for-long h = rw (lt-ltb longest_key (length key) h)

  module _ (h : length key ≤ longest_key) where
    pub for-malformed : is_assignment s ≡ false → Err MalformedInput ≡ segment_for_key key s
    unfolding segment_for_key
    for-malformed e = rw (le-ltb longest_key (length key) h, e)

    pub for-whole : (n : ℕ) → Whole s n → first_taking (key_hash key) (decode_segments n (drop 10 s)) ≡ segment_for_key key s
    unfolding segment_for_key
    for-whole n w = rw (le-ltb longest_key (length key) h, w.is-assignment, w.segments-are)
