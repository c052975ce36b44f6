-- Public: a spacecraft's segment by its name (02, request a): the segment of a packed assignment that takes a key.
-- Assumes nothing.
use Rattle.std.specs.Prelude.{ℕ, ◌%◌, ◌^◌, Bool, true, false, cond, ◌&&◌, ◌||◌, List, [], ◌∷◌, length, ltb, Option, Some, None, Result, Ok, Err}
use Rattle.topic_types.specs.declared.KeyRange.{KeyRange}
use Rattle.refusal.specs.declared.Refusal.TheVariants.{KeyTooLong, MalformedInput}
use Rattle.refusal.specs.Steps.{◌>>◌, refuse_if, refuse_unless}
use Rattle.ranges_calls.specs.Calls.{holds}
use Rattle.packed.specs.Assignment.{AssignedSegment, decode_assignment, is_assignment}
use Rattle.key_murmur3.specs.Murmur3.{murmur3}
use Rattle.refusal.specs.declared.Refusal.{Refusal}
use Rattle.topic_types.specs.declared.SegmentId.{SegmentId}

-- "32, key above 65,535 bytes"
abbrev pub longest_key : ℕ
longest_key = 65535

-- "The hash is the low 16 bits of MurmurHash3 x86_32 with seed 0"
abbrev pub key_hash : List ℕ → ℕ
key_hash key = murmur3 key % 2 ^ 16

-- "a bucket containing it"
unfoldable pub any_holds : ℕ → List KeyRange → Bool
any_holds hash [] = false
any_holds hash (r ∷ rs) = holds hash r || any_holds hash rs

-- "no buckets or a bucket containing it"
unfoldable pub in_buckets : ℕ → List KeyRange → Bool
in_buckets hash [] = true
in_buckets hash (r ∷ rs) = any_holds hash (r ∷ rs)

-- "whose range contains the hash and which has no buckets or a bucket containing it"
unfoldable pub takes : ℕ → AssignedSegment → Bool
takes hash g = holds hash g.range && in_buckets hash g.buckets

-- the first segment that takes the hash: as ids rise, "the lowest id" (specs/Lowest)
unfoldable pub first_taking : ℕ → List AssignedSegment → Result (Option SegmentId) Refusal
first_taking hash [] = Ok None
first_taking hash (g ∷ gs) = cond (takes hash g) (Ok (Some (record { 0 = g.segment_id }))) (first_taking hash gs)

-- 32, "tested before the sheet is (20)"
unfoldable pub segment_for_key : (key assignment : List ℕ) → Result (Option SegmentId) Refusal
segment_for_key key assignment = do
  refuse_if Err (ltb longest_key (length key)) KeyTooLong  -- 32
  refuse_unless Err (is_assignment assignment) MalformedInput  -- 20
  first_taking (key_hash key) (decode_assignment assignment).segments
