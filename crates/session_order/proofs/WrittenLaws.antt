-- What a broker writes, with its segments in any order, differs only in that order (`written`).
-- Assumes nothing.
use Prim.Native.Nat.{ℕ, ◌^◌, ◌≤◌, ◌<◌}
use native.Mathlib.Omega.{arith}
use mathlib.Core.List.{List, ◌++◌}
use Rattle.wire.specs.Fields.{fields_of}
use Rattle.wire_writer.specs.Encode.{number_field, part_field}
use Rattle.packed.specs.Assignment.{ConsumerAssignment}
use Rattle.writer_message.specs.Message.{segment_message, assignment_message, update_message, response_message}
use Rattle.writer_message.proofs.RowLaws.{numbered, part_row, carrier-row, assignment-row}
use Rattle.keyed.specs.Shuffled.{Shuffled, nil, cons, swap, trans}
use Rattle.session_order.specs.SegmentOrder.{segment, Reordered, Rearranged}
use Rattle.session_order.specs.Written.{Twins, AnyOrderWritten}
use Rattle.keyed.proofs.ShuffleLaws.{shuffled-map}

row-shuffled : {ps qs : List (List ℕ)} → Shuffled ps qs → Reordered (part_row 2 ps) (part_row 2 qs)
row-shuffled nil = Reordered.end
row-shuffled (cons p r) = Reordered.same (segment p) (row-shuffled r)
row-shuffled (swap p q ps) = Reordered.later p (segment q) (part_row 2 ps)
row-shuffled (trans r s) = Reordered.then (row-shuffled r) (row-shuffled s)

module _ (path : List ℕ) (a b : ConsumerAssignment) (t : Twins path a b) where
  abbrev p : List ℕ
  p = assignment_message path a

  abbrev q : List ℕ
  q = assignment_message path b

  assignments : Reordered (fields_of p) (fields_of q)
  assignments =
      rw (
        assignment-row path a (omega (arith, t.wide)) t.first,
        assignment-row path b (omega (arith, t.wide, t.epoch)) t.second,
        t.epoch,
      )
      (Reordered.same (numbered 1 b.layout_epoch) (row-shuffled (shuffled-map (segment_message path) t.segments)))

  -- a number in field 1 and the assignment in field f
  carried : (f : ℕ) → 1 ≤ f → f < 2 ^ 29 → (n : ℕ) → n < 2 ^ 64
      → Rearranged f (fields_of (number_field 1 n ++ part_field f p)) (fields_of (number_field 1 n ++ part_field f q))
  carried f h g n w =
      rw (carrier-row f h g n p w t.first, carrier-row f h g n q w t.second)
      (Rearranged.same (numbered 1 n) (Rearranged.assignment p q assignments Rearranged.end))

pub written : AnyOrderWritten
unfolding update_message response_message
written =
    record {
      updates = λ path a b t. carried path a b t 2 (omega arith) (omega arith);
      responses = λ path a b t. carried path a b t 4 (omega arith) (omega arith);
    }
