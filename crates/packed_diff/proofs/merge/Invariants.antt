-- `difference::merge` meets its contract. The invariant is `Turn` of proofs/TurnLaws; the measure is how many records are left of both.
-- Assumes nothing.
use Prim.Native.Nat.{◌+◌}
use Rattle.packed_diff.proofs.TurnLaws.{Turn}
use Rattle.packed_diff.proofs.merge.Given as goal

abbrev pub invariant-loop-m : goal.invariant-loop-m
invariant-loop-m l = Turn l.x l.y l.whole l.initial.out l.at l.out l.m l.n l.p l.q l.next l.count

abbrev pub decreases-loop-m : goal.decreases-loop-m
decreases-loop-m l = l.m + l.n
