-- `murmur3::hash` meets its contract. The invariant: the blocks and the tail that are left, from the place `at` on, over
-- the hash so far decide the whole (proofs/HashLaws). The measure is how many bytes are left. Assumes nothing.
use Rattle.std.proofs.Common.{◌≡◌, ℕ, ◌+◌, ◌-◌, ◌%◌, ◌^◌, ◌≤◌, length, drop, sym, refl, ap, ◌∙◌, ⊎_elim, arith, rules}
use Rattle.key_murmur3.specs.Words.{xor}
use Rattle.key_murmur3.specs.Murmur3.{blocks, fmix, murmur3}
use Rattle.key_murmur3.proofs.HashLaws.{blocks-turn, blocks-tail, blocks_end}
use Rattle.key_murmur3.proofs.hash.Goals as goal

pub loop-at-init : goal.loop-at-init
loop-at-init c = (omega arith, refl)

pub overflow_sub-key : goal.overflow_sub-key
overflow_sub-key c = c.loop-at.invariant.0

pub loop-at-preserved : goal.loop-at-preserved
loop-at-preserved c =
    let l = c in
    let key = l.args.key.now in (
      omega arith,
      l.loop-at.invariant.1
          ∙ blocks-turn key l.loop-at.h l.loop-at.at (omega arith)
          ∙ ap (λ (h : ℕ). blocks h (drop (l.loop-at.at + 4) key)) (cc),
    )

pub returns : goal.returns
unfolding murmur3 xor
returns c =
    let j = c in
    let l = j in
    let key = l.args.key.now in
    let e : blocks 0 key ≡ j.if-at-key.h =
    l.loop-at.invariant.1
    ∙ (elim j.if-at-key.branch [ goal.then-at-key w ↦ blocks-tail key l.loop-at.h l.loop-at.at w.if-at-key.true (omega arith) ∙ cc | goal.else-at-key w ↦ blocks_end key l.loop-at.h l.loop-at.at w.if-at-key.false ∙ cc ]) in
    c.fmix.ensures ∙ ap (λ (h : ℕ). fmix (xor h (length key % 2 ^ 32))) (sym e)
