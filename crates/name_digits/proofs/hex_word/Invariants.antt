-- `hex_word` meets its contract. The invariant: what is left behind the first i digits, of value v, decides, and v is of i digits.
-- The measure is the digits left of four.
-- Assumes nothing.
use Prim.Native.Nat.{◌-◌, ◌^◌, ◌<◌}
use Rattle.name_parents.specs.Classes.{is_hex_digit}
use Rattle.name_digits.specs.Digits.{hex_digit_value}
use Rattle.name_digits.proofs.DigitLaws.{Reading}
use Rattle.name_digits.proofs.hex_word.Given as goal

abbrev pub invariant-loop-i : goal.invariant-loop-i
invariant-loop-i l = Reading is_hex_digit 16 hex_digit_value l.s l.i l.v × (l.v < 16 ^ l.i)

abbrev pub decreases-loop-i : goal.decreases-loop-i
decreases-loop-i l = 4 - l.i
