-- Internal: no claim cites it; whoever reads the claims may skip it.
--
-- What the functions of src/ answer: a segment's bucket ranges in rows.
-- Assumes nothing.
use Rattle.std.specs.Prelude.{ℕ, ◌≤◌, ◌<◌, ◌≡◌, List, [], ◌++◌, map, length, take, drop}
use Rattle.topic_types.specs.declared.KeyRange.{KeyRange}
use Rattle.ranges_marks.specs.Marks.{row_size}
use Rattle.wire.specs.Fields.{fields_of}
use Rattle.wire_values.specs.Values.{parts_of}
use Rattle.wire_readers.specs.Messages.{int_range_of}
use Rattle.intake_content.specs.Content.{bucket_of}
use Rattle.intake_buckets.specs.declared.Loaded.{Loaded}

-- the bucket ranges of the segment p, from a place of its bytes on
abbrev pub buckets_from : List ℕ → ℕ → List KeyRange
buckets_from p at = map bucket_of (map int_range_of (parts_of 5 (fields_of (drop at p))))

-- the next ranges, at most `row_size`, and the place behind them; fewer only where none is left behind them
pub record LoadedIs (p : List ℕ) (at : ℕ) (r : Loaded) : Type 0 where
  pub few : r.count ≤ row_size
  pub long : length r.row ≡ row_size
  pub split : buckets_from p at ≡ take r.count r.row ++ buckets_from p r.next
  pub last : r.count < row_size → buckets_from p r.next ≡ []
