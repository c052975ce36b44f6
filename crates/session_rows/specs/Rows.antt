-- Public: the specification's worked rows A to J (01, Sessions to check by hand), and the rows that 02 h and j name, as
-- one table about the definitions that contracts cite. C to I and those of 02 j are runs of the calls on bytes: open on
-- a store of zeros, then messages of bytes, with the answer, the record and every byte of store and output that each
-- call leaves. Its proof is proofs/Table.
-- Assumes nothing.
use Rattle.std.specs.Prelude.{ℕ, ◌≡◌, Bool, true, false, List, [], ◌∷◌, ◌++◌, map, take, replicate, None, Some, Option, Ok, Err}
use Rattle.topic_types.specs.declared.ControllerIncarnation.{ControllerIncarnation}
use Rattle.topic_types.specs.declared.ScalableConsumerType.TheVariants.{Stream}
use Rattle.topic_types.specs.KeyRanges.{key_range}
use Rattle.refusal.specs.declared.Refusal.{Refusal}
use Rattle.refusal.specs.declared.Refusal.TheVariants.{OverlappingBucketRanges, InvalidParent, AssignmentTooLong}
use Rattle.refusal.specs.declared.Refusal.TheVariants.{StaleEpoch, PreBaselineBufferFull}
use Rattle.name_parents.specs.Parents.{topic_scheme, is_parent, path_of}
use Rattle.wire_schema.specs.declared.MessageKind.TheVariants.{CommandScalableTopicAssignmentUpdate}
use Rattle.wire_schema.specs.FirstFault.{first_fault}
use Rattle.wire_readers.specs.Messages.{WireSegment, update_of}
use Rattle.writer_message.specs.Message.{assignment_message, update_message}
use Rattle.packed.specs.Assignment.{ConsumerAssignment, slot_size, encode_assignment}
use Rattle.packed.specs.Rows.{half, of_three, rising, bucketed}
use Rattle.packed_delta.specs.Delta.{AssignmentDelta, encode_delta, size_delta}
use Rattle.packed_delta.specs.Change.{delta_between}
use Rattle.packed_delta.specs.Rows.{empty, one_half}
use Rattle.intake_content.specs.Content.{taken, refused, name_fault, content_of}
use Rattle.intake_content.specs.Rows.{parent, name, wire_half}
use Rattle.session.specs.declared.SessionRecord.{SessionRecord}
use Rattle.session.specs.declared.Answer.TheVariants.{Accepted, Unchanged, Delta, Replay}
use Rattle.session.specs.Store.{min_store, min_output}
use Rattle.session.specs.Identity.{Identity}
use Rattle.session.specs.Session.{Session, at_start, refuse, floor_fault}
use Rattle.session.specs.Update.{update_unregistered}
use Rattle.session.specs.Drain.{with_position}
use Rattle.session.specs.Calls.{CallOutcome, call_outcome, OpenOutcome, open_outcome}
use Rattle.session.specs.Trace.{Call, update, response, drain, step_of, Event, trace, End, final}

-- ---- messages

-- the message of row A, and the same at another epoch below 128
abbrev pub message_at : ℕ → List ℕ
message_at epoch =
    (0x08 ∷ 0x07 ∷ 0x12 ∷ 0x29 ∷ 0x08 ∷ epoch ∷ 0x12 ∷ 0x25 ∷ 0x08 ∷ 0x00 ∷ 0x10 ∷ 0x00 ∷ 0x18 ∷ 0xff ∷ 0xff ∷ 0x01 ∷ 0x22 ∷ 0x1b ∷ [])
    ++ name

abbrev pub message_a : List ℕ
message_a = message_at 0x03

-- that of row A with two buckets
abbrev pub bucket : (start end : ℕ) → List ℕ
bucket start end = 0x2a ∷ 0x04 ∷ 0x08 ∷ start ∷ 0x10 ∷ end ∷ []

abbrev pub message_of_two : (first second : List ℕ) → List ℕ
message_of_two first second =
    (0x08 ∷ 0x07 ∷ 0x12 ∷ 0x35 ∷ 0x08 ∷ 0x03 ∷ 0x12 ∷ 0x31 ∷ 0x08 ∷ 0x00 ∷ 0x10 ∷ 0x00 ∷ 0x18 ∷ 0xff ∷ 0xff ∷ 0x01 ∷ 0x22 ∷ 0x1b ∷ [])
    ++ (name ++ (first ++ second))

-- an assignment as a push to consumer 7, as the wire writer writes it
abbrev pub written : ConsumerAssignment → List ℕ
written a = update_message 7 (assignment_message (path_of parent) a)

-- ---- runs

-- the controller that the session is linked to
abbrev pub link : ControllerIncarnation
link = record { 0 = 1 }

abbrev pub zeros : ℕ → List ℕ
zeros n = replicate n 0

-- consumer 7 of topic://a/b/c opens its session on a store of n zeros
abbrev pub identity : Identity
identity = record { topic = parent; subscription = []; consumer_name = []; consumer_type = Stream }

abbrev pub opened : ℕ → OpenOutcome
opened n = open_outcome 7 link identity (zeros n)

-- an answer to request 1 with no segments at an epoch below 128; a push and a drain, with the least output, of zeros
abbrev pub responded : ℕ → Call
responded epoch = response (0x08 ∷ 0x01 ∷ 0x22 ∷ 0x02 ∷ 0x08 ∷ epoch ∷ []) link

abbrev pub pushed : List ℕ → Call
pushed message = update message link (zeros min_output)

abbrev pub drained : Call
drained = drain 0 (zeros min_output)

-- what each call leaves, from a record and a store on
abbrev pub outcomes : SessionRecord → List ℕ → List Call → List CallOutcome
outcomes r store [] = []
outcomes r store (c ∷ cs) = step_of r store c ∷ outcomes (step_of r store c).next (step_of r store c).store cs

-- behind open
abbrev pub run_on : ℕ → List Call → List CallOutcome
run_on n calls = outcomes (opened n).next (opened n).store calls

-- ---- what they leave

-- consumer 7's record: registered or not, its floor, how many pushes are queued
abbrev pub record_of : Bool → Option ℕ → ℕ → SessionRecord
record_of registered floor count =
    record {
      consumer_id = 7;
      incarnation = link;
      registered = registered;
      invalidated = false;
      epoch_floor = floor;
      queue_count = count;
      drain_positions = at_start;
    }

-- bytes with zeros behind them: a slot, an output
abbrev pub filled : ℕ → List ℕ → List ℕ
filled n l = take n (l ++ zeros n)

-- a store of three slots: the identity that open writes, a baseline and a list
abbrev pub store_of : (baseline list : List ℕ) → List ℕ
store_of baseline list =
    filled slot_size (0 ∷ 13 ∷ 0 ∷ 0 ∷ 0 ∷ 0 ∷ 0 ∷ parent) ++ (filled slot_size baseline ++ filled slot_size list)

abbrev pub output : List ℕ → List ℕ
output l = filled min_output l

-- row B's bytes at an epoch below 256, those of no segments, and row B's behind their length in the queue
abbrev pub epoch_bytes : ℕ → List ℕ
epoch_bytes epoch = 0 ∷ 0 ∷ 0 ∷ 0 ∷ 0 ∷ 0 ∷ 0 ∷ epoch ∷ []

abbrev pub half_bytes : List ℕ
half_bytes = 0 ∷ 0 ∷ 0 ∷ 0 ∷ 0 ∷ 0 ∷ 0 ∷ 0 ∷ 0 ∷ 0 ∷ 0x7f ∷ 0xff ∷ 0 ∷ 0 ∷ []

abbrev pub sheet_at : ℕ → List ℕ
sheet_at epoch = epoch_bytes epoch ++ (0 ∷ 1 ∷ half_bytes)

abbrev pub empty_at : ℕ → List ℕ
empty_at epoch = epoch_bytes epoch ++ (0 ∷ 0 ∷ [])

abbrev pub entry_at : ℕ → List ℕ
entry_at epoch = 0 ∷ 24 ∷ sheet_at epoch

-- an output with a delta of an epoch below 256 that gains row B's segment, and with one that has both counts 0
abbrev pub gains_half : ℕ → List ℕ
gains_half epoch = output (epoch_bytes epoch ++ (0 ∷ 0 ∷ 0 ∷ 1 ∷ half_bytes))

abbrev pub epoch_alone : ℕ → List ℕ
epoch_alone epoch = output (epoch_bytes epoch ++ (0 ∷ 0 ∷ 0 ∷ 0 ∷ []))

-- a response of epoch 2 without segments is accepted
abbrev pub registered : CallOutcome
registered = call_outcome (Ok Accepted) (record_of true (Some 2) 0) (store_of (empty_at 2) (empty_at 2)) []

-- over it: a push that is held, with its delta in the output; a push that is refused, and nothing changes
abbrev pub holds : ConsumerAssignment → CallOutcome
holds a =
    let d : AssignmentDelta = delta_between empty a in
    call_outcome (Ok (Delta (size_delta d))) (record_of true (Some a.layout_epoch) 0) (store_of (empty_at 2) (encode_assignment a)) (output (encode_delta d))

abbrev pub refuses : Refusal → CallOutcome
refuses x = call_outcome (Err x) (record_of true (Some 2) 0) (store_of (empty_at 2) (empty_at 2)) (zeros min_output)

-- rows C to F, byte by byte: row A's push is held; again; the same segments at epoch 4; row A's at epoch 2
abbrev pub holds_a : CallOutcome
holds_a = call_outcome (Ok (Delta 26)) (record_of true (Some 3) 0) (store_of (empty_at 2) (sheet_at 3)) (gains_half 3)

abbrev pub still_a : CallOutcome
still_a = call_outcome (Ok Unchanged) (record_of true (Some 3) 0) (store_of (empty_at 2) (sheet_at 3)) (zeros min_output)

abbrev pub holds_next : CallOutcome
holds_next = call_outcome (Ok (Delta 12)) (record_of true (Some 4) 0) (store_of (empty_at 2) (sheet_at 4)) (epoch_alone 4)

abbrev pub stale_a : CallOutcome
stale_a = call_outcome (Err (StaleEpoch 2 3)) (record_of true (Some 3) 0) (store_of (empty_at 2) (sheet_at 3)) (zeros min_output)

abbrev pub over_two : List ℕ → List CallOutcome
over_two message = run_on min_store (responded 2 ∷ pushed message ∷ [])

-- a push joins the queue: how many are then queued, and the bytes of the queue's area
abbrev pub joins : ℕ → List ℕ → CallOutcome
joins count area = call_outcome (Ok Unchanged) (record_of false None count) (store_of [] [] ++ area) (zeros min_output)

-- a push is refused for want of room behind one
abbrev pub no_room : List ℕ → CallOutcome
no_room area = call_outcome (Err (PreBaselineBufferFull 1)) (record_of false None 1) (store_of [] [] ++ area) (zeros min_output)

-- a drain of reader 0 hands out the entry behind which its position then is
abbrev pub replays : (place size position : ℕ) → (out : List ℕ) → CallOutcome
replays place size position out =
    call_outcome (Ok (Replay place size)) (with_position (record_of true (Some 4) 2) 0 position) (store_of (empty_at 2) (sheet_at 4) ++ (entry_at 3 ++ entry_at 4)) out

-- the response before
abbrev pub replayed : CallOutcome
replayed = call_outcome (Ok Accepted) (record_of true (Some 4) 2) (store_of (empty_at 2) (sheet_at 4) ++ (entry_at 3 ++ entry_at 4)) []

-- 1,024 pushes of row A's message, each 26 bytes in the queue, and a store with room for just those
abbrev pub pushes : List Call
pushes = replicate 1024 (pushed message_a)

abbrev pub roomy : ℕ
roomy = 32768

abbrev pub behind_pushes : End
behind_pushes = final (opened roomy).next (opened roomy).store pushes

-- ---- parents

-- topic://t/n//m and topic://t//m
abbrev pub slash_in_name : List ℕ
slash_in_name = topic_scheme ++ (0x74 ∷ 0x2f ∷ 0x6e ∷ 0x2f ∷ 0x2f ∷ 0x6d ∷ [])

abbrev pub no_namespace : List ℕ
no_namespace = topic_scheme ++ (0x74 ∷ 0x2f ∷ 0x2f ∷ 0x6d ∷ [])

-- topic://t?/n/m and topic://t/n#/m
abbrev pub marked_tenant : List ℕ
marked_tenant = topic_scheme ++ (0x74 ∷ 0x3f ∷ 0x2f ∷ 0x6e ∷ 0x2f ∷ 0x6d ∷ [])

abbrev pub marked_namespace : List ℕ
marked_namespace = topic_scheme ++ (0x74 ∷ 0x2f ∷ 0x6e ∷ 0x23 ∷ 0x2f ∷ 0x6d ∷ [])

pub record Rows : Type 0 where
  -- A: the message is valid, and says consumer 7, epoch 3, one segment
  pub a-valid : first_fault CommandScalableTopicAssignmentUpdate message_a ≡ Ok record {}
  pub a_read : update_of message_a
      ≡ record { consumer_id = 7; assignment = record { layout_epoch = 3; segments = wire_half 0 name [] ∷ [] } }
  -- B: under the parent topic://a/b/c it is taken, as a packed assignment of these bytes
  pub b-taken : content_of parent (update_of message_a).assignment ≡ taken (one_half 3)
  pub b-bytes : encode_assignment (one_half 3)
      ≡ 0 ∷ 0 ∷ 0 ∷ 0 ∷ 0 ∷ 0 ∷ 0 ∷ 3 ∷ 0 ∷ 1 ∷ 0 ∷ 0 ∷ 0 ∷ 0 ∷ 0 ∷ 0 ∷ 0 ∷ 0 ∷ 0 ∷ 0 ∷ 0x7f ∷ 0xff ∷ 0 ∷ 0 ∷ []
  -- open on the least store, of zeros
  pub opens : opened min_store ≡ record { answer = (Ok Accepted); next = record_of false None 0; store = store_of [] [] }
  -- C: row A's message over an empty baseline of epoch 2: the delta in the output has lost 0 and gained 1. D: again, and it answers none and
  -- writes nothing. E: epoch 4 with the same segments, and both counts are 0
  pub c-d-e : run_on min_store (responded 2 ∷ pushed message_a ∷ pushed message_a ∷ pushed (message_at 4) ∷ [])
      ≡ registered ∷ holds_a ∷ still_a ∷ holds_next ∷ []
  -- F: epoch 2 after 3 is 27, and nothing changes
  pub f-stale : run_on min_store (responded 2 ∷ pushed message_a ∷ pushed (message_at 2) ∷ []) ≡ registered ∷ holds_a ∷ stale_a ∷ []
  -- G: buckets 0-5 and 5-9 are 11, buckets 0-5 and 6-9 pass
  pub g-shared : over_two (message_of_two (bucket 0 5) (bucket 5 9)) ≡ registered ∷ refuses (OverlappingBucketRanges (record { 0 = 0 })) ∷ []
  pub g-apart : over_two (message_of_two (bucket 0 5) (bucket 6 9)) ≡ registered ∷ holds (of_three (half 0 (key_range 0 5 ∷ key_range 6 9 ∷ []) ∷ [])) ∷ []
  -- H: 145 segments without buckets pass, 146 are 15; one segment with 506 buckets passes, with 507 it is 15. Row A's is such a message
  pub h-written : written (one_half 3) ≡ message_a
  pub h-segments : over_two (written (of_three (rising 145 0))) ≡ registered ∷ holds (of_three (rising 145 0)) ∷ []
  pub h-segments-more : over_two (written (of_three (rising 146 0))) ≡ registered ∷ refuses AssignmentTooLong ∷ []
  pub h-buckets : over_two (written (bucketed 506)) ≡ registered ∷ holds (bucketed 506) ∷ []
  pub h-buckets-more : over_two (written (bucketed 507)) ≡ registered ∷ refuses AssignmentTooLong ∷ []
  -- I: each of 1,024 pushes joins the queue and answers none; one more is 28, and nothing changes
  pub i-queued : map (λ (e : Event). e.none) (trace (opened roomy).next (opened roomy).store pushes) ≡ replicate 1024 true
  pub i-count : behind_pushes.state ≡ record_of false None 1024
  pub i-full : step_of behind_pushes.state behind_pushes.store (pushed message_a)
      ≡ call_outcome (Err (PreBaselineBufferFull 1024)) behind_pushes.state behind_pushes.store (zeros min_output)
  -- and any assignment that the floor lets pass, in any session as full, in values
  pub i-any : (s : Session) (a : ConsumerAssignment) → s.state.queue_count ≡ 1024
      → floor_fault a.layout_epoch s.state.epoch_floor ≡ None → update_unregistered s a ≡ refuse (PreBaselineBufferFull 1024) s
  -- J: the parent topic://t/n//m is valid; topic://t//m is not, and is 12, for any segment, and so for row A's assignment
  pub j-valid : is_parent slash_in_name ≡ true
  pub j-not-valid : is_parent no_namespace ≡ false
  pub j-any : (w : WireSegment) → name_fault no_namespace w ≡ Some InvalidParent
  pub j-refused : content_of no_namespace (update_of message_a).assignment ≡ refused InvalidParent
  -- 02 h: "`topic://t?/n/m` becomes 12", for any segment, and so for row A's assignment; a mark in the namespace as well
  pub marked-tenant : is_parent marked_tenant ≡ false
  pub marked-namespace : is_parent marked_namespace ≡ false
  pub marked-any : (w : WireSegment) → name_fault marked_tenant w ≡ Some InvalidParent
  pub marked_refused : content_of marked_tenant (update_of message_a).assignment ≡ refused InvalidParent
  -- 02 j: row A's message twice, in a store with room for 52 bytes of queue, and with a byte less
  pub close-fits : run_on 6196 (pushed message_a ∷ pushed message_a ∷ []) ≡ joins 1 (entry_at 3 ++ zeros 26) ∷ joins 2 (entry_at 3 ++ entry_at 3) ∷ []
  pub close-short : run_on 6195 (pushed message_a ∷ pushed message_a ∷ []) ≡ joins 1 (entry_at 3 ++ zeros 25) ∷ no_room (entry_at 3 ++ zeros 25) ∷ []
  -- the place of each list, behind its length
  pub close-places : run_on 6196 (pushed message_a ∷ pushed (message_at 4) ∷ responded 2 ∷ drained ∷ drained ∷ [])
      ≡ joins 1 (entry_at 3 ++ zeros 26)
      ∷ joins 2 (entry_at 3 ++ entry_at 4)
      ∷ replayed
      ∷ replays 6146 26 1 (gains_half 3)
      ∷ replays 6172 12 2 (epoch_alone 4)
      ∷ []
