-- `is_text` meets its contract. The invariant: what is left of the part, from `at` on, decides the whole. The measure is
-- what is left.
-- Assumes nothing.
use Prim.Native.Nat.{ℕ, ◌+◌, ◌-◌, ◌≤◌, ◌<◌}
use native.Mathlib.Omega.{arith}
use mathlib.Core.Path.{◌≡◌, refl, sym, ap, ◌∙◌}
use mathlib.Core.List.{List}
use lib.ListN.{length, take, drop}
use Rattle.slice.proofs.PartLaws.{rest}
use Rattle.utf8.specs.Table.{sequence_of, is_utf8}
use Rattle.utf8.proofs.TextLaws.{text-end, sequence-inside, sequence-stops, sequence-passes}
use Rattle.utf8.proofs.is_text.Goals as goal

-- what `sequence` told of the part's rest is what the definition says of it
told : (s : List ℕ) (at n : ℕ) → n ≡ sequence_of (take (length s - at) (drop at s)) → n ≡ sequence_of (drop at s)
told s at n e = e ∙ ap sequence_of (rest s at)

inside : (s : List ℕ) (at n : ℕ) → at < length s → n ≡ sequence_of (take (length s - at) (drop at s)) → at + n ≤ length s
inside s at n h e = sequence-inside s at n h (told s at n e)

-- what is left behind the sequence decides the whole
onward : (s : List ℕ) (at n : ℕ) → at < length s → is_utf8 s ≡ is_utf8 (drop at s)
    → n ≡ sequence_of (take (length s - at) (drop at s)) → (n ≡ 0 → ⊥) → is_utf8 s ≡ is_utf8 (drop (at + n) s)
onward s at n h i e z = i ∙ sequence-passes s at n h (told s at n e) z

pub loop-at-init : goal.loop-at-init
loop-at-init c = (omega arith, refl)

pub returns-then-n-eq0 : goal.returns-then-n-eq0
returns-then-n-eq0 c =
    let s = c.args.s.now in
    let at = c.loop-at.at in
    let n = c.sequence-n.result in
    let stops = sequence-stops s at n (omega arith) (told s at n c.sequence-n.ensures) c.if-n-eq0.true in
    sym (c.loop-at.invariant.1 ∙ stops)

pub overflow_add-at : goal.overflow_add-at
overflow_add-at c = omega (arith, inside c.args.s.now c.loop-at.at c.sequence-n.result (omega arith) c.sequence-n.ensures)

pub ascii_end-at-requires : goal.ascii_end-at-requires
ascii_end-at-requires c = inside c.args.s.now c.loop-at.at c.sequence-n.result (omega arith) c.sequence-n.ensures

pub loop-at-smaller-then-n-eq1 : goal.loop-at-smaller-then-n-eq1
loop-at-smaller-then-n-eq1 c = let p = c.ascii_end-at.ensures in omega (arith, p.onward, p.inside)

pub loop-at-preserved-then-n-eq1 : goal.loop-at-preserved-then-n-eq1
loop-at-preserved-then-n-eq1 c =
    let p = c.ascii_end-at.ensures in
    (p.inside, onward c.args.s.now c.loop-at.at c.sequence-n.result (omega arith) c.loop-at.invariant.1 c.sequence-n.ensures c.if-n-eq0.false ∙ p.same)

pub loop-at-smaller : goal.loop-at-smaller
loop-at-smaller c = omega (arith, inside c.args.s.now c.loop-at.at c.sequence-n.result (omega arith) c.sequence-n.ensures)

pub loop-at-preserved : goal.loop-at-preserved
loop-at-preserved c = (inside c.args.s.now c.loop-at.at c.sequence-n.result (omega arith) c.sequence-n.ensures, onward c.args.s.now c.loop-at.at c.sequence-n.result (omega arith) c.loop-at.invariant.1 c.sequence-n.ensures c.if-n-eq0.false)

pub returns : goal.returns
returns c =
    let l = c.loop-at in sym (l.invariant.1 ∙ text-end c.args.s.now l.at (omega arith))
