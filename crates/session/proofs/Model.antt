-- The session in values: what a call does to a session whose slots and queue are read as assignments, without bytes. proofs/ carry demand 3 over this model to bytes.
-- Assumes nothing.
use Rattle.std.specs.Prelude.{Option, Some, None}
use Prim.Native.Nat.{ℕ}
use mathlib.Core.Bool.{Bool, true, false, cond}
use mathlib.Core.List.{List, [], ◌∷◌, ◌++◌}
use lib.ListN.{length, take}
use lib.Dec.{eqb, ltb}
use Rattle.topic_types.specs.declared.ControllerIncarnation.{ControllerIncarnation}
use Rattle.refusal.specs.declared.Refusal.TheVariants.{NonAdvancingIncarnation}
use Rattle.packed.specs.Assignment.{ConsumerAssignment}
use Rattle.packed_delta.specs.Delta.{AssignmentDelta}
use Rattle.session.specs.Store.{baseline_slot, list_slot, Write, to_slot, push}
use Rattle.session.specs.Session.{Session, CallAnswer, refused, accepted, unchanged, changed, replayed, Result, refuse}
use Rattle.session.specs.Update.{update_call}
use Rattle.session.specs.Response.{response_call}
use Rattle.session.specs.Drain.{drain_call}
use Rattle.session.specs.Link.{unregistered}
use Rattle.session.specs.Trace.{Call, update, response, drain, begin, invalidate, Event}

-- ---- one call

abbrev pub begin_call : Session → ControllerIncarnation → Result
begin_call s incarnation =
    cond (ltb s.state.incarnation.0 incarnation.0)
    (record { reply = accepted; next = unregistered s.state incarnation false; writes = [] })
    (refuse (NonAdvancingIncarnation incarnation s.state.incarnation) s)

abbrev pub invalidate_call : Session → Result
invalidate_call s = record { reply = accepted; next = unregistered s.state s.state.incarnation true; writes = [] }

abbrev pub result_of : Session → Call → Result
result_of s (update message incarnation out) = update_call s message incarnation (length out)
result_of s (response message incarnation) = response_call s message incarnation
result_of s (drain reader out) = drain_call s reader (length out)
result_of s (begin incarnation) = begin_call s incarnation
result_of s invalidate = invalidate_call s

-- ---- the session behind it

-- what slot k holds behind the writes
abbrev pub in_slot : ℕ → List Write → ConsumerAssignment → ConsumerAssignment
in_slot k [] a = a
in_slot k (to_slot j b ∷ ws) a = in_slot k ws (cond (eqb j k) b a)
in_slot k (push place b ∷ ws) a = in_slot k ws a

-- what the writes put behind the queue
abbrev pub pushes : List Write → List ConsumerAssignment
pushes [] = []
pushes (to_slot k a ∷ ws) = pushes ws
pushes (push place a ∷ ws) = a ∷ pushes ws

abbrev pub after : Session → Result → Session
after s x =
    record {
      state = x.next;
      size = s.size;
      sound = s.sound;
      topic = s.topic;
      baseline = in_slot baseline_slot x.writes s.baseline;
      list = in_slot list_slot x.writes s.list;
      queue = take x.next.queue_count (s.queue ++ pushes x.writes);
    }

-- ---- seen from outside

abbrev pub accepts : CallAnswer → Bool
accepts (refused x) = false
accepts accepted = true
accepts unchanged = true
accepts (changed d) = true
accepts (replayed index place d) = true

abbrev pub is_unchanged : CallAnswer → Bool
is_unchanged (refused x) = false
is_unchanged accepted = false
is_unchanged unchanged = true
is_unchanged (changed d) = false
is_unchanged (replayed index place d) = false

abbrev pub handed : CallAnswer → Option AssignmentDelta
handed (refused x) = None
handed accepted = None
handed unchanged = None
handed (changed d) = Some d
handed (replayed index place d) = Some d

abbrev pub value_event : Session → Call → Event
value_event s c =
    record {
      call = c;
      accepted = accepts (result_of s c).reply;
      none = is_unchanged (result_of s c).reply;
      delta = handed (result_of s c).reply;
      baseline = (after s (result_of s c)).baseline;
    }

abbrev pub value_trace : Session → List Call → List Event
value_trace s [] = []
value_trace s (c ∷ cs) = value_event s c ∷ value_trace (after s (result_of s c)) cs

abbrev pub value_final : Session → List Call → Session
value_final s [] = s
value_final s (c ∷ cs) = value_final (after s (result_of s c)) cs

-- the list held
abbrev pub held_in : Session → Option ConsumerAssignment
held_in s = cond s.state.registered (Some s.list) None
