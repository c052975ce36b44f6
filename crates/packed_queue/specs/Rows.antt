-- Public: lists queued closely, by computation: the list of row B behind its length, twice, and bytes that do not read.
-- Assumes nothing.
use Rattle.std.specs.Prelude.{ℕ, ◌≡◌, refl, true, false, List, [], ◌∷◌, ◌++◌}
use Rattle.ranges.specs.Overlap.{any_overlap}
use Rattle.slice_int.specs.Be.{bytes_of, be, be_from}
use Rattle.packed.specs.Assignment.{ConsumerAssignment, num, encode_range, encode_ranges, encode_segment, encode_segments, encode_assignment}
use Rattle.packed.specs.Assignment.{size_segment, size_segments, size_assignment, decode_range, decode_ranges, decode_segment, decode_segments, decode_assignment}
use Rattle.packed.specs.Assignment.{ok_assignment, ok_from, ok_segment, ok_buckets, all_in_order, starts_assignment, is_assignment}
use Rattle.packed.specs.Rows.{half, of_three}
use Rattle.packed_queue.specs.Entries.{encode_entry, encode_entries, size_entries, sheet_in, decode_entries, entries_end, starts_entry, start_entries}

-- row B's list, and its 24 bytes
abbrev pub list : ConsumerAssignment
list = of_three (half 0 [] ∷ [])

abbrev pub sheet : List ℕ
sheet = 0 ∷ 0 ∷ 0 ∷ 0 ∷ 0 ∷ 0 ∷ 0 ∷ 3 ∷ 0 ∷ 1 ∷ 0 ∷ 0 ∷ 0 ∷ 0 ∷ 0 ∷ 0 ∷ 0 ∷ 0 ∷ 0 ∷ 0 ∷ 0x7f ∷ 0xff ∷ 0 ∷ 0 ∷ []

-- two of them, with a byte behind them
abbrev pub two : List ℕ
two = (0 ∷ 24 ∷ sheet) ++ ((0 ∷ 24 ∷ sheet) ++ (0xff ∷ []))

pub record Rows : Type 0 where
  -- "each behind its 16-bit length, most significant bit first"
  pub entry-bytes : encode_entry list ≡ 0 ∷ 24 ∷ sheet
  pub entries-bytes : encode_entries (list ∷ list ∷ []) ++ (0xff ∷ []) ≡ two
  pub entries-size : size_entries (list ∷ list ∷ []) ≡ 52
  pub two-start : start_entries 2 two ≡ true
  pub two-read : decode_entries 2 two ≡ list ∷ list ∷ []
  pub two-end : entries_end 2 two ≡ 52
  -- a third is not there
  pub three : start_entries 3 two ≡ false
  -- the length's low byte first
  pub low_first : start_entries 1 (24 ∷ 0 ∷ sheet) ≡ false
  -- "each sheet filling just its length": a byte more, and a byte less
  pub length_more : start_entries 1 (0 ∷ 25 ∷ sheet ++ (0 ∷ [])) ≡ false
  pub length-less : start_entries 1 (0 ∷ 23 ∷ sheet) ≡ false
  -- lengths that do not read: beyond the end, and cut short
  pub beyond : start_entries 1 (0 ∷ 25 ∷ sheet) ≡ false
  pub half-a-length : start_entries 1 (0 ∷ []) ≡ false

pub rows : Rows
unfolding bytes_of be be_from num encode_assignment encode_segments encode_segment encode_ranges encode_range size_assignment size_segments size_segment decode_range decode_ranges decode_segment decode_segments decode_assignment ok_assignment ok_from ok_segment ok_buckets all_in_order any_overlap starts_assignment is_assignment encode_entry encode_entries size_entries sheet_in decode_entries entries_end starts_entry start_entries
rows =
    record {
      entry-bytes = refl;
      entries-bytes = refl;
      entries-size = refl;
      two-start = refl;
      two-read = refl;
      two-end = refl;
      three = refl;
      low_first = refl;
      length_more = refl;
      length-less = refl;
      beyond = refl;
      half-a-length = refl;
    }
