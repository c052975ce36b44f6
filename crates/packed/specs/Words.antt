-- Internal: cited by the contracts of helpers alone; whoever reads the claims may skip it.
--
-- Two ranges read as one word of 64 bits: start 48, end 32, start 16, end 0.
-- Assumes nothing.
use Rattle.std.specs.Prelude.{ℕ, suc, ◌+◌, ◌*◌, ◌/◌, ◌%◌, ◌≡◌, ◌&&◌, leb}
use Rattle.ranges_marks.specs.Bits.{bit}

abbrev pub start1 : ℕ → ℕ
start1 x = x / 281474976710656

abbrev pub end1 : ℕ → ℕ
end1 x = x / 4294967296 % 65536

abbrev pub start2 : ℕ → ℕ
start2 x = x / 65536 % 65536

abbrev pub end2 : ℕ → ℕ
end2 x = x % 65536

-- the lowest values above the two ranges, at the places 32 and 0
abbrev pub tops_of : ℕ → ℕ
tops_of x = end1 x * 4294967296 + end2 x + 4294967297

-- place 56 of the word r tells whether the first range is not reversed and starts at low or above, place 24 the same of the second and the first
pub record WordRises (x low r : ℕ) : Type 0 where
  pub first : bit r 56 ≡ leb (start1 x) (end1 x) && leb low (start1 x)
  pub second : bit r 24 ≡ leb (start2 x) (end2 x) && leb (suc (end1 x)) (start2 x)
