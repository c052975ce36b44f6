-- `segment_id` meets its contract. The invariant: what is left behind the first i digits, of value v, decides, and v is below 2 ^ 64.
-- The measure is what is left of the part.
-- Assumes nothing.
use Prim.Native.Nat.{◌+◌, ◌*◌, ◌-◌}
use native.Mathlib.Omega.{arith}
use mathlib.Core.Logic.{◌⊎◌, inl, inr}
use mathlib.Core.Path.{◌≡◌, refl, sym, ◌∙◌}
use lib.ListN.{length, get_or}
use borrow.Author.Tests.{eq-eqb, ne_eqb}
use Rattle.name_parents.specs.Classes.{class_of, is_digit_byte}
use Rattle.name_digits.specs.Digits.{digit_value}
use Rattle.name_digits.proofs.ClassLaws.{digit-bounds}
use Rattle.name_digits.proofs.DigitLaws.{Reading, reading-start, reading-other, reading-next, reading-end}
use Rattle.name_digits.proofs.DigitLaws.{id-empty, id-leading-zero, id_other, id-large, id-is}
use Rattle.name_digits.proofs.segment_id.Goals as goal

pub returns-then-s-eq0 : goal.returns-then-s-eq0
returns-then-s-eq0 c = sym (id-empty c.args.s.now c.if-s-eq0.true)

pub returns-then-s-ne1 : goal.returns-then-s-ne1
returns-then-s-ne1 c = sym (id-leading-zero c.args.s.now c.if-s-eq48.true c.if-s-ne1.true)

pub loop-i-init : goal.loop-i-init
loop-i-init c = (reading-start is_digit_byte 10 digit_value c.args.s.now, omega arith)

pub returns-then-class_of-ne-DIGIT : goal.returns-then-class_of-ne-DIGIT
returns-then-class_of-ne-DIGIT c =
    let l = c.loop-i in
    let s = c.args.s.now in
    let other = ne_eqb (class_of (get_or s l.i 0)) 1 (λ e. c.if-class_of-ne-DIGIT.true (c.class_of.ensures ∙ e)) in
    sym (id_other s (reading-other is_digit_byte 10 digit_value s l.i l.v l.invariant.0 (omega arith) other))

pub overflow_sub-d : goal.overflow_sub-d
overflow_sub-d c = omega (
  arith,
  (digit-bounds _ (sym c.class_of.ensures ∙ c.if-class_of-ne-DIGIT.false)),
)

pub overflow_cast-d : goal.overflow_cast-d
overflow_cast-d c = omega (
  arith,
  (digit-bounds _ (sym c.class_of.ensures ∙ c.if-class_of-ne-DIGIT.false)),
)

pub overflow_sub-d-in-loop-i : goal.overflow_sub-d-in-loop-i
overflow_sub-d-in-loop-i c = omega (
  arith,
  (digit-bounds _ (sym c.class_of.ensures ∙ c.if-class_of-ne-DIGIT.false)),
)

pub returns-then-d-v : goal.returns-then-d-v
returns-then-d-v c =
    let l = c.loop-i in
    let s = c.args.s.now in
    sym (id-large s (l.i + 1) _ ((let it : (let s = c.args.s.now in
    let l = c.loop-i in
    Reading is_digit_byte 10 digit_value s (l.i + 1) (l.v * 10 + (get_or s l.i 0 - 0x30))) = let s = c.args.s.now in
    let l = c.loop-i in
    let test = eq-eqb (class_of (get_or s l.i 0)) 1 (sym c.class_of.ensures ∙ c.if-class_of-ne-DIGIT.false) in
    reading-next is_digit_byte 10 digit_value s l.i l.v l.invariant.0 (omega arith) _ test refl in it)) (omega (
      arith,
      (digit-bounds _ (sym c.class_of.ensures ∙ c.if-class_of-ne-DIGIT.false)),
    )))

pub overflow_mul-v : goal.overflow_mul-v
overflow_mul-v c = omega (
  arith,
  (digit-bounds _ (sym c.class_of.ensures ∙ c.if-class_of-ne-DIGIT.false)),
)

pub overflow_add-v : goal.overflow_add-v
overflow_add-v c = omega (
  arith,
  (digit-bounds _ (sym c.class_of.ensures ∙ c.if-class_of-ne-DIGIT.false)),
)

pub loop-i-preserved : goal.loop-i-preserved
loop-i-preserved c = (
  (let it : (let s = c.args.s.now in
      let l = c.loop-i in
      Reading is_digit_byte 10 digit_value s (l.i + 1) (l.v * 10 + (get_or s l.i 0 - 0x30))) = let s = c.args.s.now in
      let l = c.loop-i in
      let test = eq-eqb (class_of (get_or s l.i 0)) 1 (sym c.class_of.ensures ∙ c.if-class_of-ne-DIGIT.false) in
      reading-next is_digit_byte 10 digit_value s l.i l.v l.invariant.0 (omega arith) _ test refl in it),
  omega (
    arith,
    (digit-bounds _ (sym c.class_of.ensures ∙ c.if-class_of-ne-DIGIT.false)),
  ),
)

pub returns : goal.returns
returns c =
    let l = c.loop-i in
    let s = c.args.s.now in
    let whole = reading-end is_digit_byte 10 digit_value s l.i l.v l.invariant.0 (omega arith) in
    let first : (length s ≡ 1) ⊎ (get_or s 0 0 ≡ 0x30 → ⊥) = (elim c.if-s-eq48.branch [ goal.then-s-eq48+else-s-ne1 w ↦ inl w.if-s-ne1.false | goal.else-s-eq48 w ↦ inr w.if-s-eq48.false ]) in
    sym (id-is s l.v (omega arith) first whole.0 whole.1 l.invariant.1)
