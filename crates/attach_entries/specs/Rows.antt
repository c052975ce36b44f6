-- Public: worked values: deltas in a row and logs of them, byte by byte, by computation. Which logs of the row pass is
-- proved in proofs/RowLaws.
-- Assumes nothing.
use Rattle.std.specs.Prelude.{ℕ, ◌≡◌, refl, true, false, List, [], ◌∷◌, ◌++◌}
use Rattle.ranges.specs.Overlap.{any_overlap}
use Rattle.slice_int.specs.Be.{be_from, be, be_at, bytes_of}
use Rattle.packed.specs.Assignment.{encode_range, encode_ranges, encode_segment, encode_segments, size_segment, size_segments}
use Rattle.packed.specs.Assignment.{num, decode_range, decode_ranges, decode_segment, decode_segments, all_in_order, ok_buckets, ok_segment, ok_from}
use Rattle.packed.specs.Rows.{half}
use Rattle.packed_delta.specs.Delta.{AssignmentDelta, encode_ids, encode_delta, size_delta, decode_ids, decode_delta, ids_from}
use Rattle.packed_delta.specs.Delta.{ok_delta, starts_delta}
use Rattle.attach_entries.specs.declared.Entry.{Entry}
use Rattle.attach_entries.specs.declared.Entry.TheVariants.{Detach, Attach}
use Rattle.attach_entries.specs.Log.{are_at_most, deltas_at_most, are_deltas, deltas_of}
use Rattle.attach_entries.specs.Log.{entry_with, entry_of, entries_in, log_entries, clear_in, is_log}
use Rattle.attach_entries.specs.Passes.{Passes}

-- segments 5 and 7 lost, 6 gained and 7 altered
abbrev pub first : AssignmentDelta
first = record { layout_epoch = 3; lost = 5 ∷ 7 ∷ []; gained = half 6 [] ∷ half 7 [] ∷ [] }

abbrev pub empty : AssignmentDelta
empty = record { layout_epoch = 4; lost = []; gained = [] }

-- segment 5 gained again
abbrev pub last : AssignmentDelta
last = record { layout_epoch = 5; lost = []; gained = half 5 [] ∷ [] }

abbrev pub row : List ℕ
row = encode_delta first ++ (encode_delta empty ++ encode_delta last)

-- the highest id detached, then attached
abbrev pub highest : List ℕ
highest =
    0x7f ∷ 0xff ∷ 0xff ∷ 0xff ∷ 0xff ∷ 0xff ∷ 0xff ∷ 0xff ∷ 0x80 ∷
    0xff ∷ 0xff ∷ 0xff ∷ 0xff ∷ 0xff ∷ 0xff ∷ 0xff ∷ 0xff ∷ 0x80 ∷ []

pub record Rows : Type 0 where
  -- deltas one behind another; none; a byte too few or too many
  pub deltas : are_deltas row ≡ true
  pub deltas-are : deltas_of row ≡ first ∷ empty ∷ last ∷ []
  pub no-deltas : are_deltas [] ≡ true
  pub no-deltas-are : deltas_of [] ≡ []
  pub head-short : are_deltas (0 ∷ 0 ∷ 0 ∷ 0 ∷ 0 ∷ 0 ∷ 0 ∷ 4 ∷ 0 ∷ 0 ∷ 0 ∷ []) ≡ false
  pub byte_more : are_deltas (encode_delta empty ++ (0 ∷ [])) ≡ false
  -- entries: segment 5 detached, then attached; the highest id
  pub entries : log_entries (0 ∷ 0 ∷ 0 ∷ 0 ∷ 0 ∷ 0 ∷ 0 ∷ 2 ∷ 0x80 ∷ 0x80 ∷ 0 ∷ 0 ∷ 0 ∷ 0 ∷ 0 ∷ 0 ∷ 2 ∷ 0x80 ∷ [])
      ≡ Detach 5 ∷ Attach 5 ∷ []
  pub entries-highest : log_entries highest ≡ Detach 0xffffffffffffffff ∷ Attach 0xffffffffffffffff ∷ []
  -- which bytes are a log
  pub log : is_log highest ≡ true
  pub no-entries : is_log [] ≡ true
  pub entry-short : is_log (0 ∷ 0 ∷ 0 ∷ 0 ∷ 0 ∷ 0 ∷ 0 ∷ 2 ∷ []) ≡ false
  pub lowest-filling : is_log (0 ∷ 0 ∷ 0 ∷ 0 ∷ 0 ∷ 0 ∷ 0 ∷ 2 ∷ 0x81 ∷ []) ≡ false
  pub highest-filling : is_log (0 ∷ 0 ∷ 0 ∷ 0 ∷ 0 ∷ 0 ∷ 0 ∷ 2 ∷ 0x40 ∷ []) ≡ false

pub rows : Rows
unfolding any_overlap be be_from be_at bytes_of encode_range encode_ranges encode_segment encode_segments size_segment size_segments num decode_range decode_ranges decode_segment decode_segments all_in_order ok_buckets ok_segment ok_from encode_ids encode_delta size_delta decode_ids decode_delta ids_from ok_delta starts_delta are_at_most deltas_at_most are_deltas deltas_of entry_with entry_of entries_in log_entries clear_in is_log
rows = record {
  deltas = refl;
  deltas-are = refl;
  no-deltas = refl;
  no-deltas-are = refl;
  head-short = refl;
  byte_more = refl;
  entries = refl;
  entries-highest = refl;
  log = refl;
  no-entries = refl;
  entry-short = refl;
  lowest-filling = refl;
  highest-filling = refl;
}

-- ---- which logs of the row pass

abbrev pub RowPasses : List Entry → Type 0
RowPasses es = Passes (first ∷ empty ∷ last ∷ []) es

pub record Passing : Type 0 where
  -- in the order of the ids, and in another
  pub in_order : RowPasses (Detach 5 ∷ Detach 7 ∷ Attach 6 ∷ Attach 7 ∷ Attach 5 ∷ [])
  pub other-order : RowPasses (Detach 7 ∷ Detach 5 ∷ Attach 7 ∷ Attach 6 ∷ Attach 5 ∷ [])
  -- an attach before a detach; an entry of the last delta before one of the first
  pub attach-first : RowPasses (Detach 5 ∷ Attach 6 ∷ Detach 7 ∷ Attach 7 ∷ Attach 5 ∷ []) → ⊥
  pub delta-first : RowPasses (Detach 5 ∷ Detach 7 ∷ Attach 6 ∷ Attach 5 ∷ Attach 7 ∷ []) → ⊥
  -- an entry missing, in place of another, once more, or too many
  pub missing : RowPasses (Detach 5 ∷ Detach 7 ∷ Attach 6 ∷ Attach 7 ∷ []) → ⊥
  pub replaced : RowPasses (Detach 5 ∷ Detach 8 ∷ Attach 6 ∷ Attach 7 ∷ Attach 5 ∷ []) → ⊥
  pub twice : RowPasses (Detach 5 ∷ Detach 5 ∷ Attach 6 ∷ Attach 7 ∷ Attach 5 ∷ []) → ⊥
  pub too_many : RowPasses (Detach 5 ∷ Detach 7 ∷ Attach 6 ∷ Attach 7 ∷ Attach 5 ∷ Attach 5 ∷ []) → ⊥
  -- without deltas, and with empty ones alone, no entry
  pub none : Passes [] []
  pub none-empty : Passes (empty ∷ empty ∷ []) []
  pub none_more : Passes (empty ∷ []) (Attach 5 ∷ []) → ⊥
