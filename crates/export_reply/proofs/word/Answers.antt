-- `reply::word` meets its contract: the bits of an integer of 64 bits are its word.
-- Assumes nothing.
use Rattle.std.proofs.Common.{◌≡◌, ℕ, ℤ, pos, negsuc, w32, w64, of_z, to_z}
use native.Mathlib.Omega.{arith}
use mathlib.Core.Path.{refl, ap, ◌∙◌}
use mir.Val.{SFits}
use mir.Facts.{to_z-of_z}
use Rattle.export_reply.specs.Replies.{word_of}
use Rattle.export_reply.proofs.word.Goals as goal

bits : (v : ℤ) → of_z w64 v ≡ word_of v
unfolding word_of
bits (pos n) = refl
bits (negsuc n) = omega arith

wide : (v : ℤ) → SFits w32 v → SFits w64 v
wide v f = record { sfits = omega (arith, f.sfits) }

word-bits : {v x : ℤ} {n : ℕ} → SFits w32 v → n ≡ of_z w64 (to_z w64 (of_z w64 x)) → x ≡ v → n ≡ word_of v
word-bits {v = v} f h e = h ∙ ap (λ (z : ℤ). of_z w64 (to_z w64 (of_z w64 z))) e ∙ ap (of_z w64) (to_z-of_z (wide v f)) ∙ bits v

pub returns : goal.returns
returns c = word-bits c.ranges.v c.cast_unsigned.ensures (rw (to_z-of_z c.ranges.v) at c.from.ensures)
