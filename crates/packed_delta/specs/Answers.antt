-- Internal: cited by the contracts of helpers alone; whoever reads the claims may skip it.
--
-- What the readers of src/ answer.
-- Assumes nothing.
use Rattle.std.specs.Prelude.{ℕ, ◌+◌, cond, ◌&&◌, List, length, drop, leb, Option, Some, None}
use Rattle.packed.specs.Assignment.{size_segments, decode_segments, ok_from}
use Rattle.packed_delta.specs.Delta.{decode_delta, size_delta, starts_delta, is_delta}

-- n valid records whose ids rise stand from the place at on: the place behind them
unfoldable pub records_to : (s : List ℕ) (at n : ℕ) → Option ℕ
records_to s at n =
    cond (leb (at + size_segments (decode_segments n (drop at s))) (length s) && ok_from 0 (decode_segments n (drop at s)))
    (Some (at + size_segments (decode_segments n (drop at s))))
    None

-- how many ids the delta at the front loses, how many records it gains, and its size
unfoldable pub front_answer : List ℕ → Option (ℕ × ℕ × ℕ)
front_answer l =
    cond (starts_delta l) (Some (length (decode_delta l).lost, length (decode_delta l).gained, size_delta (decode_delta l))) None

-- how many ids a delta loses and how many records it gains
unfoldable pub delta_read : List ℕ → Option (ℕ × ℕ)
delta_read l = cond (is_delta l) (Some (length (decode_delta l).lost, length (decode_delta l).gained)) None
