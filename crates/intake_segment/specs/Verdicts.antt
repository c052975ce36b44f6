-- Internal: cited by the contracts of helpers alone; whoever reads the claims may skip it.
--
-- What the tests of one segment answer.
-- Assumes nothing.
use Rattle.std.specs.Prelude.{◌≡◌, List, ℕ, Option, Some, None, ⊤, Result, Ok, Err}
use Rattle.refusal.specs.declared.Refusal.{Refusal}
use Rattle.wire_readers.specs.Messages.{read_segment}
use Rattle.wire_readers.specs.Places.{SegmentIs}
use Rattle.intake_scan.specs.declared.SegmentScan.{SegmentScan}
use Rattle.intake_scan.specs.Scan.{run_of}

abbrev pub verdict_of : Option Refusal → Result ⊤ Refusal
verdict_of None = Ok record {}
verdict_of (Some x) = Err x

-- the scan is the segment p's
pub record ScanOf (p : List ℕ) (scan : SegmentScan) : Type 0 where
  pub head : SegmentIs p scan.head
  pub run : scan.run ≡ run_of (read_segment p).bucket_ranges
