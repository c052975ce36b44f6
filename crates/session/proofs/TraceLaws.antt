-- Calls on bytes and calls in values go the same way.
--
-- In order: what each call's result leaves (`follow-update`, `follow-response`, `follow-drain`, `follow-begin`, `follow-call`); an answer and
-- an output say what the reply says (`accepted-is`, `none_is`, `handed-is`); a call on bytes is its result in values (`step_is`,
-- `event-is`); a list of calls of bytes (`bytes-of`) has the same events and the same end (`Same`, `same`).
-- Assumes nothing.
use Rattle.std.specs.Prelude as std
use Rattle.std.specs.Prelude.{Option, Some, None, ⊤, Ok, Err}
use Prim.Native.Nat.{ℕ, zero, suc, ◌+◌, ◌≤◌, ◌<◌}
use native.Mathlib.Omega.{arith}
use mathlib.Core.Path.{◌≡◌, refl, sym, ap, ap₂, ◌∙◌, subst}
use mathlib.Core.Logic.{◌≢◌}
use mathlib.Core.Bool.{Bool, true, false, not, false≢true}
use mathlib.Core.List.{List, [], ◌∷◌, append-nil}
use lib.ListN.{length, take}
use lib.Seq.{take_at}
use lib.Dec.{eqb, ltb, leb}
use lib.Pow.{are_bytes}
use borrow.Author.Tests.{ltb-true, ltb-false, eqb-false}
use Rattle.slice.specs.BoolLaws.{both_true}
use Rattle.topic_types.specs.declared.ControllerIncarnation.{ControllerIncarnation}
use Rattle.refusal.specs.declared.Refusal.{Refusal}
use Rattle.slice.proofs.PartLaws.{Bytes}
use Rattle.wire_schema.specs.declared.MessageKind.TheVariants.{CommandScalableTopicAssignmentUpdate, CommandScalableTopicSubscribeResponse}
use Rattle.wire_schema.specs.FirstFault.{first_fault}
use Rattle.wire_readers.specs.Messages.{WireAssignment, update_of, response_of}
use Rattle.slice_int.specs.Put.{put}
use Rattle.packed.specs.Assignment.{ConsumerAssignment}
use Rattle.packed.specs.Equal.{same_assignment}
use Rattle.packed_delta.specs.Delta.{AssignmentDelta, encode_delta, size_delta, decode_delta}
use Rattle.packed_delta.proofs.RoundLaws.{FitDelta, read-delta, length-encode_delta}
use Rattle.keyed.proofs.KeyedLaws.{choose}
use Rattle.intake_content.specs.Content as content
use Rattle.intake_content.specs.Content.{Content, content_of}
use Rattle.packed_queue.specs.Entries.{size_entry}
use Rattle.keyed.proofs.EachLaws.{Each}
use Rattle.packed_queue.proofs.EntryLaws.{Packable}
use Rattle.intake_content.proofs.WideLaws.{Wide, update-wide, response-wide}
use Rattle.intake_content.proofs.ContentLaws.{content-fits}
use Rattle.session.specs.declared.SessionRecord.{SessionRecord}
use Rattle.session.specs.Store.{max_queue, list_in, queue_in, queue_end, write_all}
use Rattle.session.specs.Session.{Session, readers, position_of, view, damaged, Result, refuse, unless, floor_fault}
use Rattle.session.specs.Session.{CallAnswer, refused, accepted, unchanged, changed, replayed}
use Rattle.session.specs.Update.{update_unregistered, update_registered, update_call}
use Rattle.session.specs.Tails.{update_content, update_valid, update_checked, response_assignment, response_content, response_valid, response_checked}
use Rattle.session.specs.Response.{stale_fault, last_list, replayable, response_call}
use Rattle.session.specs.Drain.{Found, end, entry, next_change, drained, drain_call}
use Rattle.session.specs.Link.{begin_of, invalidate_of}
use Rattle.session.specs.Calls.{CallOutcome, answer_of, output_of, effect_of, update_outcome, response_outcome, drain_outcome}
use Rattle.session.specs.Trace.{Call, update, response, drain, begin, invalidate, step_of}
use Rattle.session.specs.Trace.{is_accepted, is_none, handed_out, trace_event, trace, final}
use Rattle.session.specs.DemandThree.{OfBytes, AllOfBytes}
use Rattle.session.proofs.Model.{begin_call, result_of, accepts, is_unchanged, handed, value_event, value_trace, value_final}
use Rattle.session.proofs.PositionLaws.{within-start, within-moved}
use Rattle.session.proofs.SlotLaws.{queued-lists, queued-packable}
use Rattle.session.proofs.ViewLaws.{delta-fits, last-packable, stands-packable, Kept, FitAnswer, Follows}
use Rattle.session.proofs.ViewLaws.{follow-still, follow-hold, follow-enqueue, follow-register}

-- ---- what a drain finds: its delta can be packed, and its place is before that limit

abbrev FoundBefore : ℕ → Found → Type 0
FoundBefore limit end = Unit {0}
FoundBefore limit (entry i d) = FitDelta d × (i < limit)

found_before : (limit i : ℕ) (b : ConsumerAssignment) (q : List ConsumerAssignment) (k : ℕ) → limit ≡ i + length q
    → Packable b → Each Packable q → FoundBefore limit (next_change i b q k)
unfolding next_change
found_before limit i b [] k h p e = tt
found_before limit i b (a ∷ q) (suc k) h p e = found_before limit (suc i) a q k (omega arith) e.0 e.1
found_before limit i b (a ∷ q) zero h p e =
    let rest : FoundBefore limit (next_change (suc i) a q zero) = found_before limit (suc i) a q zero (omega arith) e.0 e.1 in
    choose (FoundBefore limit) (same_assignment b a) (λ t. rest) (λ t. (delta-fits b a p e.0, omega arith))

-- ---- what each call's result leaves

module _ (r : SessionRecord) (st : List ℕ) (k : Kept r st) where
  abbrev now : Session
  now = view r st

  abbrev queued : List ConsumerAssignment
  queued = queue_in st r.queue_count

  follow-refuse : (x : Refusal) → Follows r st (refuse x now)
  unfolding view
  follow-refuse x = follow-still r st k (refused x) r tt (λ t. t) (omega arith) k.positions

  follow-none : Follows r st (record { reply = unchanged; next = now.state; writes = [] })
  unfolding view
  follow-none = follow-still r st k unchanged r tt (λ t. t) (omega arith) k.positions

  follow-unless : (o : Option Refusal) (x : Result) → Follows r st x → Follows r st (unless o now x)
  follow-unless None x h = h
  follow-unless (Some y) x h = follow-refuse y

  -- an update's list
  follow-registered : 6144 ≤ length st → r.registered ≡ true → (a : ConsumerAssignment) → Packable a → Follows r st (update_registered now a)
  unfolding update_registered
  follow-registered big t a p =
      choose (Follows r st) (same_assignment now.list a) (λ e. follow-none) (λ e.
      choose (Follows r st) (ltb a.layout_epoch now.list.layout_epoch) (λ l. follow-refuse _) (λ l.
      follow-hold r st k big t a p))

  follow-unregistered : 6144 ≤ length st → (a : ConsumerAssignment) → Packable a → Follows r st (update_unregistered now a)
  unfolding update_unregistered view
  follow-unregistered big a p =
      follow-unless (floor_fault a.layout_epoch r.epoch_floor) _ (
      choose (Follows r st) (eqb r.queue_count max_queue) (λ e. follow-refuse _) (λ e.
      choose (Follows r st) (ltb (length st) (queue_end queued + size_entry a)) (λ f. follow-refuse _) (λ f.
      let d : r.queue_count ≢ max_queue = eqb-false _ _ e in
      follow-enqueue r st k big (omega (arith, k.count)) a p (ltb-false _ _ f))))

  module _ (big : 6144 ≤ length st) where
    follow-taken : (c : Content) → ((a : ConsumerAssignment) → c ≡ content.taken a → Packable a) → Follows r st (update_content now c)
    unfolding update_content view
    follow-taken (content.refused x) f = follow-refuse x
    follow-taken (content.taken a) f =
        choose (Follows r st) r.registered (λ t. follow-registered big t a (f a refl)) (λ t. follow-unregistered big a (f a refl))

    -- a response's list
    follow-baseline : (b : ConsumerAssignment) → Packable b → Follows r st (response_assignment now b)
    unfolding response_assignment view
    follow-baseline b p =
        follow-unless (floor_fault b.layout_epoch r.epoch_floor) _ (
        follow-unless (stale_fault b (replayable now)) _ (
        follow-register r st k big b (last_list b (replayable now)) p (last-packable b (replayable now) p queue)))
      where
        queue : Each Packable (replayable now)
        queue = choose (Each Packable) r.registered (λ t. tt) (λ t. queued-packable st r.queue_count k.queue)

    follow-based : (c : Content) → ((a : ConsumerAssignment) → c ≡ content.taken a → Packable a) → Follows r st (response_content now c)
    unfolding response_content
    follow-based (content.refused x) f = follow-refuse x
    follow-based (content.taken b) f = follow-baseline b (f b refl)

  -- what an assignment of a message comes to can be packed
  packable : (parent : List ℕ) (w : WireAssignment) → Wide w → (a : ConsumerAssignment) → content_of parent w ≡ content.taken a → Packable a
  packable parent w h a e = let f = content-fits parent w h a e in record { fits = f.0; ok = f.1 }

  module _ (message : List ℕ) (bytes : Bytes message) (incarnation : ControllerIncarnation) where
    update-checked : 6144 ≤ length st → (c : std.Result ⊤ Refusal) → Follows r st (update_checked now incarnation message c)
    unfolding update_valid
    update-checked big (Err x) = follow-refuse x
    update-checked big (Ok _) =
        choose (Follows r st) (not (eqb incarnation.0 now.state.incarnation.0)) (λ t. follow-refuse _) (λ t.
        choose (Follows r st) (not (eqb (update_of message).consumer_id now.state.consumer_id)) (λ t. follow-refuse _) (λ t.
        follow-taken big (content_of now.topic (update_of message).assignment)
        (packable now.topic (update_of message).assignment (update-wide message bytes))))

    pub follow-update : (output : ℕ) → Follows r st (update_call now message incarnation output)
    unfolding update_call view update_valid content_of update_content
    follow-update output =
        choose (Follows r st) (ltb (length st) 6144) (λ t. follow-refuse _) (λ small.
        choose (Follows r st) (ltb output 3210) (λ t. follow-refuse _) (λ t.
        choose (Follows r st) (damaged now) (λ t. follow-refuse _) (λ t.
        update-checked (ltb-false (length st) 6144 small) (first_fault CommandScalableTopicAssignmentUpdate message))))

    response-checked : 6144 ≤ length st → (c : std.Result ⊤ Refusal) → Follows r st (response_checked now incarnation message c)
    unfolding response_valid
    response-checked big (Err x) = follow-refuse x
    response-checked big (Ok _) =
        choose (Follows r st) (not (eqb incarnation.0 now.state.incarnation.0)) (λ t. follow-refuse _) (λ t.
        choose (Follows r st) (response_of message).has_assignment
        (λ t. follow-based big (content_of now.topic (response_of message).assignment)
        (packable now.topic (response_of message).assignment (response-wide message bytes)))
        (λ t. follow-refuse _))

    pub follow-response : Follows r st (response_call now message incarnation)
    unfolding response_call view response_valid content_of response_content response_assignment
    follow-response =
        choose (Follows r st) (ltb (length st) 6144) (λ t. follow-refuse _) (λ small.
        choose (Follows r st) (damaged now) (λ t. follow-refuse _) (λ t.
        response-checked (ltb-false (length st) 6144 small) (first_fault CommandScalableTopicSubscribeResponse message)))

  follow-found : (reader : ℕ) (f : Found) → FoundBefore r.queue_count f → Follows r st (drained now reader f)
  unfolding drained view
  follow-found reader end p =
      follow-still r st k unchanged _ tt (λ t. t) (omega arith)
      (within-moved r.queue_count r.queue_count r.drain_positions reader (omega arith) k.positions)
  follow-found reader (entry i d) p =
      follow-still r st k (replayed _ _ d) _ p.0 (λ t. t) (omega arith)
      (within-moved r.queue_count (suc i) r.drain_positions reader p.1 k.positions)

  pub follow-drain : (reader output : ℕ) → Follows r st (drain_call now reader output)
  unfolding drain_call view
  follow-drain reader output =
      choose (Follows r st) (ltb (length st) 6144) (λ t. follow-refuse _) (λ small.
      choose (Follows r st) (ltb output 3210) (λ t. follow-refuse _) (λ t.
      choose (Follows r st) (leb readers reader) (λ t. follow-refuse _) (λ t.
      choose (Follows r st) (damaged now) (λ t. follow-refuse _) (λ t.
      choose (Follows r st) r.registered
      (λ t. follow-found reader (next_change 0 (list_in st 1) queued (position_of r reader))
      (found_before r.queue_count 0 (list_in st 1) queued (position_of r reader) (omega (arith, k.queue.counted, ap length (queued-lists st r.queue_count k.queue)))
      (stands-packable st 1 (k.baseline t)) (queued-packable st r.queue_count k.queue)))
      (λ t. follow-none)))))

  pub follow-begin : (incarnation : ControllerIncarnation) → Follows r st (begin_call now incarnation)
  unfolding view
  follow-begin incarnation =
      choose (Follows r st) (ltb r.incarnation.0 incarnation.0)
      (λ t. follow-still r st k accepted _ tt (λ e. absurd (false≢true e)) (omega arith) (within-start 0))
      (λ t. follow-refuse _)

  pub follow-call : (c : Call) → OfBytes c → Follows r st (result_of now c)
  unfolding view
  follow-call (update message incarnation out) b = follow-update message b incarnation (length out)
  follow-call (response message incarnation) b = follow-response message b incarnation
  follow-call (drain reader out) b = follow-drain reader (length out)
  follow-call (begin incarnation) b = follow-begin incarnation
  follow-call invalidate b = follow-still r st k accepted _ tt (λ e. absurd (false≢true e)) (omega arith) (within-start 0)

-- ---- answer and output say what the reply says

pub accepted-is : (x : CallAnswer) → is_accepted (answer_of x) ≡ accepts x
accepted-is (refused x) = refl
accepted-is accepted = refl
accepted-is unchanged = refl
accepted-is (changed d) = refl
accepted-is (replayed index place d) = refl

pub none_is : (x : CallAnswer) → is_none (answer_of x) ≡ is_unchanged x
none_is (refused x) = refl
none_is accepted = refl
none_is unchanged = refl
none_is (changed d) = refl
none_is (replayed index place d) = refl

-- a delta is read back from the output's front
pub delta-back : (d : AssignmentDelta) (out : List ℕ) → FitDelta d → decode_delta (take (size_delta d) (put out 0 (encode_delta d))) ≡ d
unfolding put
delta-back d out f =
    ap decode_delta (take_at (encode_delta d) _ (size_delta d) (length-encode_delta d) ∙ sym (append-nil (encode_delta d))) ∙ read-delta d [] f

pub handed-is : (x : CallAnswer) (out : List ℕ) → FitAnswer x → handed_out (answer_of x) (output_of x out) ≡ handed x
handed-is (refused x) out f = refl
handed-is accepted out f = refl
handed-is unchanged out f = refl
handed-is (changed d) out f = ap Some (delta-back d out f)
handed-is (replayed index place d) out f = ap Some (delta-back d out f)

-- ---- one call

-- the output that a call is lent
abbrev pub out_of : Call → List ℕ
out_of (update message incarnation out) = out
out_of (response message incarnation) = []
out_of (drain reader out) = out
out_of (begin incarnation) = []
out_of invalidate = []

pub step_is : (r : SessionRecord) (st : List ℕ) (c : Call) → step_of r st c ≡ effect_of (result_of (view r st) c) st (out_of c)
unfolding update_outcome response_outcome drain_outcome begin_of invalidate_of view
step_is r st (update message incarnation out) = refl
step_is r st (response message incarnation) = refl
step_is r st (drain reader out) = refl
step_is r st (begin incarnation) = go (ltb r.incarnation.0 incarnation.0) refl
  where
    go : (b : Bool) → ltb r.incarnation.0 incarnation.0 ≡ b
        → step_of r st (begin incarnation) ≡ effect_of (result_of (view r st) (begin incarnation)) st []
    go true t = simp t
    go false t = simp t
step_is r st invalidate = refl

pub event-is : (r : SessionRecord) (st : List ℕ) (c : Call) → Follows r st (result_of (view r st) c)
    → trace_event c (effect_of (result_of (view r st) c) st (out_of c)) ≡ value_event (view r st) c
unfolding view
event-is r st c f = λ i.
    record {
      call = c;
      accepted = accepted-is (result_of (view r st) c).reply i;
      none = none_is (result_of (view r st) c).reply i;
      delta = handed-is (result_of (view r st) c).reply (out_of c) f.reply i;
      baseline = (f.session i).baseline;
    }

-- ---- a list of calls

-- bytes by a test
pub bytes-of : (l : List ℕ) → are_bytes l ≡ true → Bytes l
bytes-of [] e i = omega arith
bytes-of (x ∷ l) e zero = ltb-true x 256 (both_true (ltb x 256) (are_bytes l) e).0
bytes-of (x ∷ l) e (suc i) = bytes-of l (both_true (ltb x 256) (are_bytes l) e).1 i

pub record Same (r : SessionRecord) (st : List ℕ) (calls : List Call) : Type 0 where
  pub events : trace r st calls ≡ value_trace (view r st) calls
  pub ends : view (final r st calls).state (final r st calls).store ≡ value_final (view r st) calls
  pub kept : Kept (final r st calls).state (final r st calls).store

pub same : (calls : List Call) (r : SessionRecord) (st : List ℕ) → Kept r st → AllOfBytes calls → Same r st calls
same [] r st k b = record { events = refl; ends = refl; kept = k }
same (c ∷ cs) r st k b =
    let x : Result = result_of (view r st) c in
    let f : Follows r st x = follow-call r st k c b.0 in
    let h : Same x.next (write_all x.writes st) cs = same cs x.next (write_all x.writes st) f.kept b.1 in
    let e : step_of r st c ≡ effect_of x st (out_of c) = step_is r st c in
    record {
      events =
          ap (λ (o : CallOutcome). trace_event c o ∷ trace o.next o.store cs) e
          ∙ ap₂ ◌∷◌ (event-is r st c f) (h.events ∙ ap (λ s. value_trace s cs) f.session);
      ends =
          ap (λ (o : CallOutcome). view (final o.next o.store cs).state (final o.next o.store cs).store) e
          ∙ h.ends ∙ ap (λ s. value_final s cs) f.session;
      kept = subst (λ (o : CallOutcome). Kept (final o.next o.store cs).state (final o.next o.store cs).store) (sym e) h.kept;
    }
