-- Internal: what a written range or segment is as a row of fields, and as the readers say it. Cited by the contracts of helpers alone.
-- Assumes nothing.
use Rattle.std.specs.Prelude.{ℕ, List, map, pos}
use Rattle.topic_types.specs.declared.KeyRange.{KeyRange}
use Rattle.wire.specs.declared.WireType.TheVariants as type
use Rattle.wire.specs.Fields.{number, bytes, Field, field}
use Rattle.wire_readers.specs.declared.IntRange.{IntRange}
use Rattle.wire_readers.specs.Messages.{WireSegment}
use Rattle.packed.specs.Assignment.{AssignedSegment}
use Rattle.writer_message.specs.Message.{segment_topic_of}

-- ---- fields

abbrev pub numbered : ℕ → ℕ → Field
numbered f v = field f type.Varint (number v)

abbrev pub parted : ℕ → List ℕ → Field
parted f p = field f type.Len (bytes p)

-- each part in field f
abbrev pub part_row : ℕ → List (List ℕ) → List Field
part_row f ps = map (parted f) ps

-- ---- as they are read

abbrev pub wire_range : KeyRange → IntRange
wire_range r = record { start = pos r.start; end = pos r.end }

abbrev pub wire_segment : List ℕ → AssignedSegment → WireSegment
wire_segment path g =
    record {
      segment_id = g.segment_id;
      hash_start = g.range.start;
      hash_end = g.range.end;
      segment_topic = segment_topic_of path g;
      bucket_ranges = map wire_range g.buckets;
    }
