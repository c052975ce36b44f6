-- Internal: cited by the contracts of helpers alone; whoever reads the claims may skip it.
--
-- What one walk over a segment's message gives: its head, and its buckets tested one after the other and written as in a packed assignment.
-- Assumes nothing.
use Rattle.std.specs.Prelude.{ℕ, ◌+◌, ◌*◌, ◌≤◌, ◌≡◌, true, false, cond, ◌&&◌, length, take, pos, leb, ltb}
use mathlib.Core.List.{List, foldl}
use Rattle.topic_types.specs.declared.KeyRange.{KeyRange}
use Rattle.slice_int.specs.Put.{put}
use Rattle.packed.specs.Assignment.{bucket_size, encode_range, encode_ranges}
use Rattle.wire_readers.specs.declared.IntRange.{IntRange}
use Rattle.wire_readers.specs.Messages.{read_segment}
use Rattle.wire_readers.specs.Places.{SegmentIs}
use Rattle.intake_content.specs.Content.{bucket_ok, bucket_of, buckets_of}
use Rattle.intake_scan.specs.declared.BucketRun.{BucketRun}
use Rattle.intake_scan.specs.declared.SegmentScan.{SegmentScan}

-- before the first bucket
abbrev pub no_buckets : BucketRun
no_buckets = record { valid = true; count = 0; last = record { start = pos 0; end = pos 0 }; above = 0; rising = true }

-- a valid bucket behind others
abbrev pub counted : BucketRun → IntRange → BucketRun
counted run r =
    record {
      valid = true;
      count = run.count + 1;
      last = r;
      above = (bucket_of r).end + 1;
      rising = run.rising && leb run.above (bucket_of r).start;
    }

-- a bucket that fails: `count` is its place
abbrev pub failed : BucketRun → IntRange → BucketRun
failed run r = record { valid = false; count = run.count; last = r; above = run.above; rising = run.rising }

-- one more bucket; behind one that failed, nothing is looked at
unfoldable pub with_bucket : BucketRun → IntRange → BucketRun
with_bucket run r = cond run.valid (cond (bucket_ok r) (counted run r) (failed run r)) run

unfoldable pub run_of : List IntRange → BucketRun
run_of rs = foldl with_bucket no_buckets rs

-- a range written behind count others, where there is room for so many
abbrev pub room_for : (b : List ℕ) (at count room : ℕ) → KeyRange → List ℕ
room_for b at count room range = cond (ltb count room) (put b (at + bucket_size * count) (encode_range range)) b

-- what `with_bucket` writes
abbrev pub bucket_written : BucketRun → IntRange → (b : List ℕ) (at room : ℕ) → List ℕ
bucket_written run r b at room = cond (run.valid && bucket_ok r) (room_for b at run.count room (bucket_of r)) b

-- the walk over the segment p, with the buckets written to b from the place at on, where they are valid and there is room
pub record ScanIs (p : List ℕ) (at : ℕ) (b : List ℕ) (r : SegmentScan) (b' : List ℕ) : Type 0 where
  pub head : SegmentIs p r.head
  pub run : r.run ≡ run_of (read_segment p).bucket_ranges
  pub wrote : r.run.valid ≡ true → at + bucket_size * length (read_segment p).bucket_ranges ≤ length b → b' ≡ put b at (encode_ranges (buckets_of (read_segment p)))
  pub kept : take at b' ≡ take at b
  pub long : length b' ≡ length b
