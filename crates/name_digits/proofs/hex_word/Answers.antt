-- `hex_word` meets its contract. The invariant: what is left behind the first i digits, of value v, decides, and v is of i digits.
-- The measure is the digits left of four.
-- Assumes nothing.
use Prim.Native.Nat.{◌+◌, ◌*◌, ◌^◌, ◌<◌}
use native.Mathlib.Omega.{arith}
use mathlib.Core.Path.{◌≡◌, sym, ◌∙◌}
use mathlib.Core.Bool.{true}
use lib.ListN.{get_or}
use Rattle.name_parents.specs.Classes.{is_hex_digit}
use Rattle.name_digits.specs.Digits.{hex_digit_value}
use Rattle.name_digits.proofs.ClassLaws.{hex-16, hex-not-16}
use Rattle.name_digits.proofs.DigitLaws.{reading-start, reading-other, reading-next, reading-end}
use Rattle.name_digits.proofs.DigitLaws.{word_next, word-length, word-other, word-is}
use Rattle.name_digits.proofs.hex_word.Goals as goal

pub returns-then-s-ne4 : goal.returns-then-s-ne4
returns-then-s-ne4 c = sym (word-length c.args.s.now c.if-s-ne4.true)

pub loop-i-init : goal.loop-i-init
loop-i-init c = (reading-start is_hex_digit 16 hex_digit_value c.args.s.now, omega arith)

pub returns-then-d-eq16 : goal.returns-then-d-eq16
returns-then-d-eq16 c =
    let l = c.loop-i in
    let s = c.args.s.now in
    let other = hex-16 (get_or s l.i 0) (sym c.hex_digit_value-d.ensures ∙ c.if-d-eq16.true) in
    sym (word-other s (reading-other is_hex_digit 16 hex_digit_value s l.i l.v l.invariant.0 (omega arith) other))

pub overflow_mul-v : goal.overflow_mul-v
overflow_mul-v c = omega (
  arith,
  (let it : (let l = c.loop-i in
      let w = l.v * 16 + c.hex_digit_value-d.result in
      (w < 16 ^ (l.i + 1)) × (w < 65536)) = let l = c.loop-i in
      word_next l.i l.v _ (omega arith) l.invariant.1 ((let it : (let b = get_or c.args.s.now c.loop-i.i 0 in
      let d = c.hex_digit_value-d.result in
      (is_hex_digit b ≡ true) × (d ≡ hex_digit_value b) × (d < 16)) = let b = get_or c.args.s.now c.loop-i.i 0 in
      let e = c.hex_digit_value-d.ensures in
      let p = hex-not-16 b (λ q. c.if-d-eq16.false (e ∙ q)) in
      (p.0, e ∙ p.1, rw e p.2) in it)).2 in it),
)

pub overflow_add-v : goal.overflow_add-v
overflow_add-v c = omega (
  arith,
  (let it : (let l = c.loop-i in
      let w = l.v * 16 + c.hex_digit_value-d.result in
      (w < 16 ^ (l.i + 1)) × (w < 65536)) = let l = c.loop-i in
      word_next l.i l.v _ (omega arith) l.invariant.1 ((let it : (let b = get_or c.args.s.now c.loop-i.i 0 in
      let d = c.hex_digit_value-d.result in
      (is_hex_digit b ≡ true) × (d ≡ hex_digit_value b) × (d < 16)) = let b = get_or c.args.s.now c.loop-i.i 0 in
      let e = c.hex_digit_value-d.ensures in
      let p = hex-not-16 b (λ q. c.if-d-eq16.false (e ∙ q)) in
      (p.0, e ∙ p.1, rw e p.2) in it)).2 in it),
)

pub loop-i-preserved : goal.loop-i-preserved
loop-i-preserved c =
    let l = c.loop-i in
    let s = c.args.s.now in
    let d = (let it : (let b = get_or c.args.s.now c.loop-i.i 0 in
    let d = c.hex_digit_value-d.result in
    (is_hex_digit b ≡ true) × (d ≡ hex_digit_value b) × (d < 16)) = let b = get_or c.args.s.now c.loop-i.i 0 in
    let e = c.hex_digit_value-d.ensures in
    let p = hex-not-16 b (λ q. c.if-d-eq16.false (e ∙ q)) in
    (p.0, e ∙ p.1, rw e p.2) in it) in (
      reading-next is_hex_digit 16 hex_digit_value s l.i l.v l.invariant.0 (omega arith) _ d.0 d.1,
      ((let it : (let l = c.loop-i in
          let w = l.v * 16 + c.hex_digit_value-d.result in
          (w < 16 ^ (l.i + 1)) × (w < 65536)) = let l = c.loop-i in
          word_next l.i l.v _ (omega arith) l.invariant.1 ((let it : (let b = get_or c.args.s.now c.loop-i.i 0 in
          let d = c.hex_digit_value-d.result in
          (is_hex_digit b ≡ true) × (d ≡ hex_digit_value b) × (d < 16)) = let b = get_or c.args.s.now c.loop-i.i 0 in
          let e = c.hex_digit_value-d.ensures in
          let p = hex-not-16 b (λ q. c.if-d-eq16.false (e ∙ q)) in
          (p.0, e ∙ p.1, rw e p.2) in it)).2 in it)).0,
    )

pub returns : goal.returns
returns c =
    let l = c.loop-i in
    let s = c.args.s.now in
    let whole = reading-end is_hex_digit 16 hex_digit_value s l.i l.v l.invariant.0 (omega arith) in
    sym (word-is s l.v (omega arith) whole.0 whole.1)
