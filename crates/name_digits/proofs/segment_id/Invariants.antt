-- `segment_id` meets its contract. The invariant: what is left behind the first i digits, of value v, decides, and v is below 2 ^ 64.
-- The measure is what is left of the part.
-- Assumes nothing.
use Prim.Native.Nat.{◌-◌, ◌^◌, ◌<◌}
use lib.ListN.{length}
use Rattle.name_parents.specs.Classes.{is_digit_byte}
use Rattle.name_digits.specs.Digits.{digit_value}
use Rattle.name_digits.proofs.DigitLaws.{Reading}
use Rattle.name_digits.proofs.segment_id.Given as goal

abbrev pub invariant-loop-i : goal.invariant-loop-i
invariant-loop-i l = Reading is_digit_byte 10 digit_value l.s l.i l.v × (l.v < 2 ^ 64)

abbrev pub decreases-loop-i : goal.decreases-loop-i
decreases-loop-i l = length l.s - l.i
