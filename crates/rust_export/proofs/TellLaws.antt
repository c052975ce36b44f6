-- What a caller in C sees after an exported call is what is shown after the call of 01 (`sees`), and so after each of a list (`all_seen`), and
-- after each that none of ours refused (`fed-seen`).
-- Assumes nothing.
use Rattle.std.specs.Prelude.{option_map, Result, Ok, Err}
use Prim.Native.Nat.{ℕ}
use mathlib.Core.Path.{◌≡◌, refl, sym, ap, ap₂, ◌∙◌, subst}
use mathlib.Core.Bool.{Bool, true, false, cond, not, ◌&&◌, ◌||◌}
use mathlib.Core.List.{List, [], ◌∷◌, map}
use lib.Dec.{eqb}
use Rattle.refusal.specs.declared.Refusal.{Refusal}
use Rattle.refusal.specs.declared.Refusal.TheVariants as refusal
use Rattle.refusal.specs.Refusals.{number_of, values_of}
use Rattle.session.specs.declared.SessionRecord.{SessionRecord}
use Rattle.session.specs.declared.Answer.{Answer}
use Rattle.session.specs.declared.Answer.TheVariants as answer
use Rattle.session.specs.Store.{baseline_slot, max_queue, list_in, queue_in}
use Rattle.session.specs.Session.{position_of}
use Rattle.session.specs.Calls.{CallOutcome}
use Rattle.session.specs.Trace.{Call}
use Rattle.session.specs.DemandThree.{held}
use Rattle.export_reply.specs.Replies.{word_of, word_at, reply_with, refused_reply}
use Rattle.export_record.specs.declared.Record.{Record}
use Rattle.export_record.specs.Replies.{record_of, answer_reply, left_record, Lent, lent_of}
use Rattle.rust_session.specs.Values.{as_assignment, as_floor, replays}
use Rattle.rust_session.specs.Demand as rust
use Rattle.rust_session.specs.Demand.{Shown, topic_in, answered_by, port_shown, port_run, ours_by_number, no_room, fed_calls, fed_shown}
use Rattle.rust_export.specs.Calls.{ExportCall, update, response, drain, begin, invalidate, call_of, lent_step, Step, export_run}
use Rattle.rust_export.specs.Calls.{calls_of}
use Rattle.rust_export.specs.DemandTwo.{Tells, Sees, AllSeen, is_ours, fed}
use Rattle.rust_export.proofs.StepLaws.{stepped, lent_is, left_as, next-is, store_is, floor-is}

-- ---- what is told

tells : (c : ExportCall) (a : Result Answer Refusal) (state : Record) (st out : List ℕ)
    → Tells c (record { reply = answer_reply a; state = state; store = st; out = out }) (answered_by (call_of c) a st out)
unfolding answer_reply refused_reply reply_with word_at word_of
tells (update message incarnation out') (Err x) state st out = (refl, refl)
tells (response message incarnation) (Err x) state st out = (refl, refl)
tells (drain by out') (Err x) state st out = (refl, refl)
tells (begin incarnation) (Err x) state st out = (refl, refl)
tells invalidate (Err x) state st out = (refl, refl)
tells (update message incarnation out') (Ok answer.Accepted) state st out = refl
tells (response message incarnation) (Ok answer.Accepted) state st out = (refl, refl)
tells (drain by out') (Ok answer.Accepted) state st out = refl
tells (begin incarnation) (Ok answer.Accepted) state st out = refl
tells invalidate (Ok answer.Accepted) state st out = refl
tells c (Ok answer.Unchanged) state st out = refl
tells c (Ok (answer.Delta n)) state st out = (refl, refl)
tells c (Ok (answer.Replay place n)) state st out = (refl, refl)

-- ---- what is seen after a call

module _ (reader : ℕ) (c : ExportCall) (r : Record) (o : CallOutcome) (e : record_of (left_record r o.answer o.next) ≡ o.next) where
  abbrev state : Record
  state = left_record r o.answer o.next

  sees : Sees reader c (lent_of r o) (port_shown reader (call_of c) o)
  unfolding record_of
  sees =
      let parent = topic_in o.store in
      record {
        answered = tells c o.answer state o.store o.out;
        assignment = ap (λ (n : SessionRecord). option_map (as_assignment parent) (held (record { state = n; store = o.store }))) e;
        epoch-floor = ap as_floor (floor-is state ∙ ap (λ (n : SessionRecord). n.epoch_floor) e);
        incarnation = ap (λ (n : SessionRecord). n.incarnation) e;
        registered = ap (λ (n : SessionRecord). n.registered) e;
        invalidated = ap (λ (n : SessionRecord). n.invalidated) e;
        waiting = ap (λ (n : SessionRecord). cond n.registered [] (map (as_assignment parent) (queue_in o.store n.queue_count))) e;
        undrained =
            ap (λ (n : SessionRecord).
            cond n.registered
            (replays parent (list_in o.store baseline_slot) (queue_in o.store n.queue_count) (position_of n reader)) []) e;
      }

seen_step : (reader : ℕ) (r : Record) (st : List ℕ) (c : ExportCall) → Sees reader c (lent_step r st c) (port_shown reader (call_of c) (stepped r st c))
seen_step reader r st c =
    subst (λ (l : Lent). Sees reader c l (port_shown reader (call_of c) (stepped r st c))) (sym (lent_is r st c))
    (sees reader c r (stepped r st c) (left_as r st c))

pub all_seen : (reader : ℕ) (calls : List ExportCall) (r : Record) (st : List ℕ)
    → AllSeen reader (export_run r st calls) (port_run reader (record_of r) st (calls_of calls))
all_seen reader [] r st = tt
all_seen reader (c ∷ cs) r st = (
  seen_step reader r st c,
  subst (AllSeen reader (export_run (lent_step r st c).state (lent_step r st c).store cs))
      (ap₂ (λ a s. port_run reader a s (calls_of cs)) (next-is r st c) (store_is r st c))
      (all_seen reader cs (lent_step r st c).state (lent_step r st c).store),
)

-- ---- what one of ours refused

-- 28 by its max, which is no integer below 0
room-answered : (x : Refusal) → (eqb (number_of x) 28 && not (eqb (word_at 0 (values_of x)) max_queue)) ≡ no_room x
unfolding word_at word_of
room-answered refusal.StoreTooShort = refl
room-answered refusal.OutputTooShort = refl
room-answered refusal.InvalidWireFormat = refl
room-answered refusal.WrongWireType = refl
room-answered refusal.MissingField = refl
room-answered refusal.InvalidUtf8 = refl
room-answered refusal.IdentityTooLong = refl
room-answered (refusal.InvalidRange id source) = refl
room-answered (refusal.InvalidKeyRange source) = refl
room-answered (refusal.InvalidBucketRange id index start end) = refl
room-answered (refusal.OverlappingBucketRanges id) = refl
room-answered refusal.InvalidParent = refl
room-answered (refusal.AttachmentMismatch id) = refl
room-answered (refusal.DuplicateSegment id) = refl
room-answered refusal.AssignmentTooLong = refl
room-answered (refusal.Broker code) = refl
room-answered (refusal.Empty request) = refl
room-answered (refusal.EmptyUpdate watch) = refl
room-answered refusal.InvalidSegment = refl
room-answered (refusal.SegmentIdMismatch id topic) = refl
room-answered refusal.MalformedInput = refl
room-answered refusal.ResultTooLong = refl
room-answered refusal.MalformedStore = refl
room-answered (refusal.IncarnationMismatch got expected) = refl
room-answered (refusal.ConsumerMismatch got expected) = refl
room-answered (refusal.NonAdvancingIncarnation got prev) = refl
room-answered (refusal.CrossIncarnationEpochRegression got floor) = refl
room-answered (refusal.StaleEpoch got prev) = refl
room-answered (refusal.PreBaselineBufferFull max) = refl
room-answered (refusal.WatchMismatch got expected) = refl
room-answered refusal.MalformedSet = refl
room-answered refusal.SetTooLong = refl
room-answered refusal.KeyTooLong = refl
room-answered refusal.UnknownReader = refl
room-answered (refusal.BucketOutsideSegment id index) = refl
room-answered refusal.InvalidContract = refl
room-answered refusal.ChargeTooLarge = refl
room-answered refusal.InvalidLog = refl
room-answered refusal.InvalidWindow = refl
room-answered refusal.MalformedSave = refl

ours-answered : (a : Result Answer Refusal) → is_ours (answer_reply a) ≡ rust.is_ours a
unfolding answer_reply refused_reply reply_with
ours-answered (Err x) = ap (ours_by_number (number_of x) ||◌) (room-answered x)
ours-answered (Ok answer.Accepted) = refl
ours-answered (Ok answer.Unchanged) = refl
ours-answered (Ok (answer.Delta n)) = refl
ours-answered (Ok (answer.Replay place n)) = refl

ours-step : (r : Record) (st : List ℕ) (c : ExportCall) → is_ours (lent_step r st c).reply ≡ rust.is_ours (stepped r st c).answer
ours-step r st c = ap (λ (l : Lent). is_ours l.reply) (lent_is r st c) ∙ ours-answered (stepped r st c).answer

-- ---- the calls that none of ours refused

abbrev pub fed_of : List Step → List Call
fed_of steps = map (λ (s : Step). call_of s.call) steps

pub record Fed (reader : ℕ) (steps : List Step) (calls : List Call) (shown : List Shown) : Type 0 where
  pub same : fed_of steps ≡ calls
  pub seen : AllSeen reader steps shown

abbrev step : Record → List ℕ → ExportCall → Step
step r st c = record { call = c; left = lent_step r st c }

-- of a list of calls, those of 01 beside it
abbrev FedFrom : (reader : ℕ) → List ExportCall → Record → List ℕ → Type 0
FedFrom reader calls r st =
    Fed reader (fed (export_run r st calls)) (fed_calls (record_of r) st (calls_of calls)) (fed_shown reader (record_of r) st (calls_of calls))

fed-seen-by : (reader : ℕ) (t : Bool) (s : Step) (x : Shown) → Sees reader s.call s.left x → (ss : List Step) (cs : List Call) (xs : List Shown)
    → Fed reader ss cs xs → Fed reader (cond (not t) (s ∷ ss) ss) (cond t cs (call_of s.call ∷ cs)) (cond t xs (x ∷ xs))
fed-seen-by reader true s x h ss cs xs f = f
fed-seen-by reader false s x h ss cs xs f = record { same = ap (call_of s.call ∷◌) f.same; seen = (h, f.seen) }

-- a call, with what is known of the calls behind it
fed-seen-step : (reader : ℕ) (c : ExportCall) (cs : List ExportCall) (r : Record) (st : List ℕ)
    → FedFrom reader cs (lent_step r st c).state (lent_step r st c).store → FedFrom reader (c ∷ cs) r st
fed-seen-step reader c cs r st f =
    subst (λ (t : Bool). Fed reader (cond (not t) (step r st c ∷ rest) rest) (fed_calls (record_of r) st (calls_of (c ∷ cs)))
    (fed_shown reader (record_of r) st (calls_of (c ∷ cs)))) (sym (ours-step r st c))
    (fed-seen-by reader (rust.is_ours o.answer) (step r st c) (port_shown reader (call_of c) o) (seen_step reader r st c) rest
    (fed_calls o.next o.store (calls_of cs)) (fed_shown reader o.next o.store (calls_of cs)) behind)
  where
    o : CallOutcome
    o = stepped r st c

    rest : List Step
    rest = fed (export_run (lent_step r st c).state (lent_step r st c).store cs)

    behind : Fed reader rest (fed_calls o.next o.store (calls_of cs)) (fed_shown reader o.next o.store (calls_of cs))
    behind =
        subst (λ (n : SessionRecord). Fed reader rest (fed_calls n o.store (calls_of cs)) (fed_shown reader n o.store (calls_of cs)))
        (next-is r st c)
        (subst (λ (s : List ℕ). Fed reader rest (fed_calls (record_of (lent_step r st c).state) s (calls_of cs))
        (fed_shown reader (record_of (lent_step r st c).state) s (calls_of cs))) (store_is r st c) f)

pub fed-seen : (reader : ℕ) (calls : List ExportCall) (r : Record) (st : List ℕ) → FedFrom reader calls r st
fed-seen reader [] r st = record { same = refl; seen = tt }
fed-seen reader (c ∷ cs) r st = fed-seen-step reader c cs r st (fed-seen reader cs (lent_step r st c).state (lent_step r st c).store)
