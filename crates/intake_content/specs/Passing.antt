-- Internal: cited by the contracts of helpers alone; whoever reads the claims may skip it.
-- Assumes nothing.
use Rattle.std.specs.Prelude.{ℕ, ◌≡◌, List, None}
use Rattle.wire_readers.specs.Messages.{WireSegment}
use Rattle.intake_content.specs.Content.{segment_fault}

-- none of 9 to 13 and 34 is due for the segment
abbrev pub Passing : List ℕ → WireSegment → Type 0
Passing parent w = segment_fault parent w ≡ None
