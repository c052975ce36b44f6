-- `write_buckets` meets its contract. The invariant: the fields of the buckets that are left are left to write (`Writing` of
-- proofs/WritingLaws). The measure is how many those are. Assumes nothing.
use Prim.Native.Nat.{◌+◌, ◌*◌, ◌≤◌}
use mathlib.Core.List.{[], ◌∷◌}
use lib.ListN.{length, drop}
use Rattle.packed.specs.Assignment.{decode_ranges}
use Rattle.writer_message.specs.Message.{bucket_fields}
use Rattle.writer.proofs.WritingLaws.{Writing}
use Rattle.writer.proofs.write_buckets.Given as goal

abbrev pub invariant-loop-left : goal.invariant-loop-left
invariant-loop-left l = (l.p + 4 * l.left ≤ length l.s)
    × Writing l.initial.out l.to (bucket_fields (decode_ranges l.n (drop l.at l.s))) l.out l.next (bucket_fields (decode_ranges l.left (drop l.p l.s)) ∷ [])

abbrev pub decreases-loop-left : goal.decreases-loop-left
decreases-loop-left l = l.left
