-- `hex_digit_value` meets its contract: each class of digits has its own offset.
-- Assumes nothing.
use native.Mathlib.Omega.{arith}
use mathlib.Core.Path.{sym, ◌∙◌}
use Rattle.name_digits.proofs.ClassLaws.{digit-bounds, letter-bounds, hex-digit, hex-letter, hex-other}
use Rattle.name_digits.proofs.hex_digit_value.Goals as goal

pub overflow_sub-result : goal.overflow_sub-result
overflow_sub-result c = omega (arith, digit-bounds c.args.b (sym c.class_of-class.ensures ∙ c.if-class-eq-DIGIT.true))

pub returns-then-class-eq-DIGIT : goal.returns-then-class-eq-DIGIT
returns-then-class-eq-DIGIT c = sym (hex-digit c.args.b (sym c.class_of-class.ensures ∙ c.if-class-eq-DIGIT.true))

pub overflow_sub-result-then-class-eq-HEX_LETTER : goal.overflow_sub-result-then-class-eq-HEX_LETTER
overflow_sub-result-then-class-eq-HEX_LETTER c = omega (arith, letter-bounds c.args.b (sym c.class_of-class.ensures ∙ c.if-class-eq-HEX_LETTER.true))

pub returns-then-class-eq-HEX_LETTER : goal.returns-then-class-eq-HEX_LETTER
returns-then-class-eq-HEX_LETTER c = sym (hex-letter c.args.b (sym c.class_of-class.ensures ∙ c.if-class-eq-HEX_LETTER.true))

pub returns : goal.returns
returns c =
    let class = c.class_of-class.ensures in
    sym (hex-other c.args.b (λ e. c.if-class-eq-DIGIT.false (class ∙ e)) (λ e. c.if-class-eq-HEX_LETTER.false (class ∙ e)))
