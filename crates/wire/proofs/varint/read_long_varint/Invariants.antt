-- `varint::read_long_varint` meets its contract.
-- The invariant: after i bytes, of value `value` and next weight `weight` = 2 ^ (7 * i), what is left decides the whole (`shifted` of
-- proofs/VarintLaws). The measure is the bytes left of nine; the tenth is read behind the loop. Assumes nothing.
use Prim.Native.Nat.{◌-◌, ◌*◌, ◌^◌, ◌≤◌, ◌<◌}
use mathlib.Core.Path.{◌≡◌}
use Rattle.wire.specs.Varints.{varint_of}
use Rattle.wire.proofs.VarintLaws.{shifted}
use Rattle.wire.proofs.varint.read_long_varint.Given as goal

abbrev pub invariant-loop-i : goal.invariant-loop-i
invariant-loop-i l = (l.i ≤ 9) × (l.weight ≡ 2 ^ (7 * l.i)) × (l.value < l.weight) × (varint_of l.s ≡ shifted l.s l.i l.value l.weight)

abbrev pub decreases-loop-i : goal.decreases-loop-i
decreases-loop-i l = 9 - l.i
