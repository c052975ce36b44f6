-- The first bucket outside a segment's range, as a walk over the buckets finds it.
--
-- In order: the first bucket of several is outside at its start (`outside_low`) or at its end (`outside_high`), or inside (`outside-next`); the
-- place from a walk's answer (`place_found`, `place_none`).
-- Assumes nothing.
use Rattle.std.specs.Prelude.{Option, Some, None}
use Prim.Native.Nat.{ℕ, ◌+◌, ◌≤◌, ◌<◌}
use mathlib.Core.Path.{◌≡◌, refl}
use mathlib.Core.List.{List, ◌∷◌}
use borrow.Author.Tests.{le-leb, lt-leb}
use Rattle.topic_types.specs.declared.KeyRange.{KeyRange}
use Rattle.intake_content.specs.Content.{first_outside, outside_of}

module _ (range : KeyRange) (index : ℕ) (b : KeyRange) (bs : List KeyRange) where
  pub outside_low : b.start < range.start → first_outside range index (b ∷ bs) ≡ Some index
  unfolding first_outside
  outside_low h = simp (lt-leb range.start b.start h)

  module _ (h : range.start ≤ b.start) where
    pub outside_high : range.end < b.end → first_outside range index (b ∷ bs) ≡ Some index
    unfolding first_outside
    outside_high i = simp (le-leb range.start b.start h, lt-leb b.end range.end i)

    pub outside-next : b.end ≤ range.end → first_outside range index (b ∷ bs) ≡ first_outside range (index + 1) bs
    unfolding first_outside
    outside-next i = simp (le-leb range.start b.start h, le-leb b.end range.end i)

pub place_found : (o : Option ℕ) (i : ℕ) → Some i ≡ outside_of o → o ≡ Some i
place_found None i e = cc
place_found (Some j) i e = cc

pub place_none : (o : Option ℕ) → None ≡ outside_of o → o ≡ None
place_none None e = refl
place_none (Some j) e = cc
