-- A written assignment reads back as itself.
--
-- An assignment that is packed, written under its parent as a message and carried by an update or a response, has no fault
-- (`update-valid`, `response-valid`) and comes to the assignment that was written (`update-back`, `response-back`), for the consumer or
-- the request that was written (`update-consumer`, `response-request`; `response-has`). The parent is asked only where there is a segment.
-- No bucket lies outside its segment's range, which the writer turns down (34).
-- The message has fewer than 2 ^ 64 bytes, as every slice has; under a parent of fewer than 2 ^ 56 bytes, or without a segment, it always
-- does (`message-short`, `message-none` of proofs/SizeLaws).
-- Assumes nothing.
use Rattle.std.specs.Prelude.{None, Ok}
use Prim.Native.Nat.{ℕ, ◌^◌, ◌<◌}
use native.Mathlib.Omega.{arith}
use mathlib.Core.Logic.{◌⊎◌, inl, inr}
use mathlib.Core.Path.{◌≡◌, ap, ◌∙◌}
use mathlib.Core.Bool.{true}
use mathlib.Core.List.{List, [], append-nil}
use lib.ListN.{length}
use lib.Dec.{leb}
use Rattle.slice.specs.BoolLaws.{both_true}
use Rattle.utf8.specs.Table.{is_utf8}
use Rattle.name_parents.specs.Parents.{is_parent, path_of}
use Rattle.wire.specs.Fields.{Field, fields_of}
use Rattle.wire_schema.specs.declared.MessageKind.TheVariants.{CommandScalableTopicAssignmentUpdate, CommandScalableTopicSubscribeResponse}
use Rattle.wire_schema.specs.FirstFault.{first_fault}
use Rattle.wire_schema.proofs.SoundLaws.{update-row, response-row}
use Rattle.wire_readers.specs.Messages.{read_assignment, WireUpdate, update_of, WireResponse, response_of}
use Rattle.packed.specs.Assignment.{ConsumerAssignment, slot_size, size_assignment, ok_from, ok_assignment}
use Rattle.packed.proofs.RoundLaws.{FitAssignment}
use Rattle.intake_content.specs.Content.{taken, outside_in, content_of}
use Rattle.keyed.proofs.EachLaws.{Each, each_map}
use Rattle.intake_content.proofs.OrderLaws.{Passing}
use Rattle.writer_message.specs.Message.{assignment_message, update_message, response_message}
use Rattle.writer_message.proofs.RowLaws.{segments-within, assignment-row, carrier-row}
use Rattle.writer_message.proofs.WireLaws.{wire_segment, wire_assignment, Written, each-written, written-passes}
use Rattle.writer_message.proofs.WireLaws.{assignment-says, content-says}
use Rattle.writer_message.proofs.ValidLaws.{assignment-valid}

module _ (parent : List ℕ) (a : ConsumerAssignment) (f : FitAssignment a) (o : ok_assignment a ≡ true)
    (i : outside_in a.segments ≡ None) (n : (a.segments ≡ []) ⊎ ((is_parent parent ≡ true) × (is_utf8 parent ≡ true)))
    (s : length (assignment_message (path_of parent) a) < 2 ^ 64) where
  abbrev message : List ℕ
  message = assignment_message (path_of parent) a

  rises : ok_from 0 a.segments ≡ true
  unfolding ok_assignment
  rises = (both_true (leb (size_assignment a) slot_size) (ok_from 0 a.segments) o).1

  written : Each (Written parent) a.segments
  written = go n
    where
      go : (a.segments ≡ []) ⊎ ((is_parent parent ≡ true) × (is_utf8 parent ≡ true)) → Each (Written parent) a.segments
      go (inl e) = rw e tt
      go (inr p) =
          each-written parent p.0 p.1 0 a.segments f.segments rises i (omega (arith, segments-within (path_of parent) a))

  -- what is read comes to what was written
  content-back : content_of parent (wire_assignment (path_of parent) a) ≡ taken a
  content-back =
      content-says parent a o
      (each_map (Written parent) (Passing parent) (wire_segment (path_of parent)) (written-passes parent) a.segments written)

  -- the fields of the message's only part
  part_says : (fs : List Field) → fs ≡ fields_of message → read_assignment fs ≡ wire_assignment (path_of parent) a
  part_says fs e = assignment-says parent a written fs (e ∙ assignment-row (path_of parent) a f.epoch s)

  module _ (consumer : ℕ) (c : consumer < 2 ^ 64) where
    pub update-valid : first_fault CommandScalableTopicAssignmentUpdate (update_message consumer (assignment_message (path_of parent) a))
        ≡ Ok record {}
    unfolding update_message
    update-valid =
        update-row _ consumer message (assignment-valid parent a written f.epoch s)
        (carrier-row 2 (omega arith) (omega arith) consumer message c s)

    -- the whole update
    pub update-says : update_of (update_message consumer (assignment_message (path_of parent) a))
        ≡ record { consumer_id = consumer; assignment = wire_assignment (path_of parent) a }
    unfolding update_of update_message
    update-says =
        rw (carrier-row 2 (omega arith) (omega arith) consumer message c s, part_says _ (append-nil (fields_of message)))

    pub update-consumer : (update_of (update_message consumer (assignment_message (path_of parent) a))).consumer_id ≡ consumer
    update-consumer = ap (λ (u : WireUpdate). u.consumer_id) update-says

    pub update-back : content_of parent (update_of (update_message consumer (assignment_message (path_of parent) a))).assignment
        ≡ taken a
    update-back = ap (λ (u : WireUpdate). content_of parent u.assignment) update-says ∙ content-back

  module _ (request : ℕ) (r : request < 2 ^ 64) where
    pub response-valid : first_fault CommandScalableTopicSubscribeResponse (response_message request (assignment_message (path_of parent) a))
        ≡ Ok record {}
    unfolding response_message
    response-valid =
        response-row _ request message (assignment-valid parent a written f.epoch s)
        (carrier-row 4 (omega arith) (omega arith) request message r s)

    -- the whole response: without error and text
    pub response-says : response_of (response_message request (assignment_message (path_of parent) a))
        ≡ record {
          request_id = request;
          error = None;
          message = [];
          has_assignment = true;
          assignment = wire_assignment (path_of parent) a;
        }
    unfolding response_of response_message
    response-says =
        rw (carrier-row 4 (omega arith) (omega arith) request message r s, part_says _ (append-nil (fields_of message)))

    pub response-request : (response_of (response_message request (assignment_message (path_of parent) a))).request_id ≡ request
    response-request = ap (λ (u : WireResponse). u.request_id) response-says

    pub response-has : (response_of (response_message request (assignment_message (path_of parent) a))).has_assignment ≡ true
    response-has = ap (λ (u : WireResponse). u.has_assignment) response-says

    pub response-back : content_of parent (response_of (response_message request (assignment_message (path_of parent) a))).assignment
        ≡ taken a
    response-back = ap (λ (u : WireResponse). content_of parent u.assignment) response-says ∙ content-back
