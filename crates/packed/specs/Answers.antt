-- Internal: cited by the contracts of helpers alone; whoever reads the claims may skip it.
--
-- What the readers of src/ answer.
-- Assumes nothing.
use Rattle.std.specs.Prelude.{ℕ, ◌+◌, Bool, cond, ◌&&◌, List, length, drop, leb, Option, Some, None}
use Rattle.packed.specs.Assignment.{decode_segment, decode_segments, size_segment, size_segments, ok_segment, ok_from}
use Rattle.packed.specs.Assignment.{decode_assignment, size_assignment, starts_assignment, is_assignment}

-- a valid record stands at the place at and ends by the place end
unfoldable pub record_valid : List ℕ → ℕ → ℕ → Bool
record_valid s at end = leb (at + size_segment (decode_segment (drop at s))) end && ok_segment (decode_segment (drop at s))

-- its id and its size
unfoldable pub record_read : (s : List ℕ) (at end : ℕ) → Option (ℕ × ℕ)
record_read s at end =
    cond (record_valid s at end) (Some ((decode_segment (drop at s)).segment_id, size_segment (decode_segment (drop at s)))) None

-- where n records end that stand from the place at on, 0 where they are not valid or do not end by the place end
unfoldable pub records_end : (s : List ℕ) (at n end : ℕ) → ℕ
records_end s at n end =
    cond (leb (at + size_segments (decode_segments n (drop at s))) end && ok_from 0 (decode_segments n (drop at s))) (at + size_segments (decode_segments n (drop at s))) 0

-- the size of the packed assignment at the front of a slot, 0 where there is none
unfoldable pub front_size : List ℕ → ℕ
front_size l = cond (starts_assignment l) (size_assignment (decode_assignment l)) 0

-- the same, and how many segments it has
unfoldable pub front_answer : List ℕ → Option (ℕ × ℕ)
front_answer l =
    cond (starts_assignment l) (Some (size_assignment (decode_assignment l), length (decode_assignment l).segments)) None

-- a packed assignment that is lent alone
unfoldable pub whole_read : List ℕ → Option (ℕ × ℕ)
whole_read l =
    cond (is_assignment l) (Some (size_assignment (decode_assignment l), length (decode_assignment l).segments)) None
