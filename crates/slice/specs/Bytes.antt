-- Public: lists of bytes. A claim over every list of numbers that asks for bytes asks for this.
-- Assumes nothing.
use Rattle.std.specs.Prelude.{ℕ, ◌<◌, List, get_or}

-- every element is a byte: what is known of the elements of a `&[u8]`
abbrev pub Bytes : List ℕ → Type 0
Bytes l = (i : ℕ) → get_or l i 0 < 256
