-- `murmur3::hash` meets its contract. The invariant: the blocks and the tail that are left, from the place `at` on, over
-- the hash so far decide the whole (proofs/HashLaws). The measure is how many bytes are left. Assumes nothing.
use Rattle.std.proofs.Common.{◌≡◌, ℕ, ◌+◌, ◌-◌, ◌%◌, ◌^◌, ◌≤◌, length, drop, sym, refl, ap, ◌∙◌, ⊎_elim, arith, rules}
use Rattle.key_murmur3.specs.Words.{xor}
use Rattle.key_murmur3.specs.Murmur3.{blocks, fmix, murmur3}
use Rattle.key_murmur3.proofs.HashLaws.{blocks-turn, blocks-tail, blocks_end}
use Rattle.key_murmur3.proofs.hash.Given as goal

abbrev pub invariant-loop-at : goal.invariant-loop-at
invariant-loop-at l = (l.at ≤ length l.key) × (blocks 0 l.key ≡ blocks l.h (drop l.at l.key))

abbrev pub decreases-loop-at : goal.decreases-loop-at
decreases-loop-at l = length l.key - l.at
