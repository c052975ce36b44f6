-- What an exported call leaves is what the call of 01 leaves (`lent_is`, `next-is`), for a refused call gives the record back that it was given
-- (`step_stays`); so events and end of a list of them are those of 01's calls (`trace-is`, `ends-are`).
-- Assumes nothing.
use Rattle.std.specs.Prelude as std
use Rattle.std.specs.Prelude.{Some, None, Ok, Err}
use Prim.Native.Nat.{ℕ}
use mathlib.Core.Path.{◌≡◌, refl, sym, ap, ap₂, ◌∙◌, subst}
use mathlib.Core.Bool.{Bool, true, false, cond, not, true≢false}
use mathlib.Core.List.{List, [], ◌∷◌}
use lib.ListN.{length}
use lib.Dec.{eqb, ltb}
use Rattle.keyed.proofs.KeyedLaws.{choose}
use Rattle.session.specs.declared.SessionRecord.{SessionRecord}
use Rattle.session.specs.declared.Answer.{Answer}
use Rattle.session.specs.declared.Answer.TheVariants as answer
use Rattle.session.specs.Session.{Session, Result, view}
use Rattle.session.specs.Drain.{Found, end, entry, drained, next_for}
use Rattle.session.specs.Calls.{CallOutcome}
use Rattle.session.specs.Trace as trace
use Rattle.session.specs.Trace.{Call, step_of, is_accepted, is_none, handed_out, trace_event, End, final}
use Rattle.session.proofs.Model.{accepts, result_of}
use Rattle.session.proofs.CallLaws.{update-cases, response-cases, drain-cases}
use Rattle.session.proofs.TraceLaws.{accepted-is, step_is}
use Rattle.export_reply.specs.Replies.{word_of, word_at, reply_with, refused_reply, refused, unchanged}
use Rattle.export_record.specs.declared.Record.{Record}
use Rattle.export_record.specs.Replies.{is_set, floor_of, record_of, answer_reply, left_record, Lent, lent_of}
use Rattle.export_record.proofs.RecordLaws.{record-returns}
use Rattle.rust_export.specs.Calls.{ExportCall, update, response, drain, begin, invalidate, call_of, lent_step, export_final, ExportEnd}
use Rattle.rust_export.specs.Calls.{calls_of, export_floor, delta_in, export_event, export_trace}
use Rattle.refusal.specs.declared.Refusal.{Refusal}

-- ---- a refused call gives back the record that it was given

abbrev Stays : Session → Result → Type 0
Stays s x = accepts x.reply ≡ false → x.next ≡ s.state

found-stays : (s : Session) (by : ℕ) (f : Found) → Stays s (drained s by f)
unfolding drained
found-stays s by end = λ e. absurd (true≢false e)
found-stays s by (entry i d) = λ e. absurd (true≢false e)

call_stays : (s : Session) (w : Call) → Stays s (result_of s w)
call_stays s (trace.update message link out) =
    update-cases s (Stays s) (λ x e. refl) message link (length out)
    (λ t u e. refl) (λ t u e. absurd (true≢false e)) (λ t e. absurd (true≢false e))
call_stays s (trace.response message link) = response-cases s (Stays s) (λ x e. refl) message link (λ t u e. absurd (true≢false e))
call_stays s (trace.drain by out) =
    drain-cases s (Stays s) (λ x e. refl) by (length out) (λ t. found-stays s by (next_for s by)) (λ t e. refl)
call_stays s (trace.begin link) =
    choose (Stays s) (ltb s.state.incarnation.0 link.0) (λ t e. absurd (true≢false e)) (λ t e. refl)
call_stays s trace.invalidate = λ e. absurd (true≢false e)

state-view : (r : SessionRecord) (st : List ℕ) → (view r st).state ≡ r
unfolding view
state-view r st = refl

step_stays : (r : SessionRecord) (st : List ℕ) (w : Call) → is_accepted (step_of r st w).answer ≡ false → (step_of r st w).next ≡ r
step_stays r st w =
    subst (λ (o : CallOutcome). is_accepted o.answer ≡ false → o.next ≡ r) (sym (step_is r st w))
    (λ e. call_stays (view r st) w (sym (accepted-is (result_of (view r st) w).reply) ∙ e) ∙ state-view r st)

-- ---- one call

left_is : (r : Record) (a : std.Result Answer Refusal) (next : SessionRecord) → (is_accepted a ≡ false → next ≡ record_of r) → record_of (left_record r a next) ≡ next
unfolding left_record
left_is r (Err x) next stays = sym (stays refl)
left_is r (Ok answer.Accepted) next stays = record-returns next
left_is r (Ok answer.Unchanged) next stays = record-returns next
left_is r (Ok (answer.Delta n)) next stays = record-returns next
left_is r (Ok (answer.Replay place n)) next stays = record-returns next

module _ (r : Record) (st : List ℕ) where
  -- 01's call on the record that was given
  abbrev pub stepped : ExportCall → CallOutcome
  stepped c = step_of (record_of r) st (call_of c)

  pub lent_is : (c : ExportCall) → lent_step r st c ≡ lent_of r (stepped c)
  lent_is (update message incarnation out) = refl
  lent_is (response message incarnation) = refl
  lent_is (drain reader out) = refl
  lent_is (begin incarnation) = refl
  lent_is invalidate = refl

  pub left_as : (c : ExportCall) → record_of (left_record r (stepped c).answer (stepped c).next) ≡ (stepped c).next
  left_as c = left_is r (stepped c).answer (stepped c).next (step_stays (record_of r) st (call_of c))

  pub next-is : (c : ExportCall) → record_of (lent_step r st c).state ≡ (stepped c).next
  next-is c = ap (λ (l : Lent). record_of l.state) (lent_is c) ∙ left_as c

  pub store_is : (c : ExportCall) → (lent_step r st c).store ≡ (stepped c).store
  store_is c = ap (λ (l : Lent). l.store) (lent_is c)

-- ---- its event

accepted-answered : (a : std.Result Answer Refusal) → not (eqb (answer_reply a).answer refused) ≡ is_accepted a
unfolding answer_reply refused_reply reply_with
accepted-answered (Err x) = refl
accepted-answered (Ok answer.Accepted) = refl
accepted-answered (Ok answer.Unchanged) = refl
accepted-answered (Ok (answer.Delta n)) = refl
accepted-answered (Ok (answer.Replay place n)) = refl

none-answered : (a : std.Result Answer Refusal) → eqb (answer_reply a).answer unchanged ≡ is_none a
unfolding answer_reply refused_reply reply_with
none-answered (Err x) = refl
none-answered (Ok answer.Accepted) = refl
none-answered (Ok answer.Unchanged) = refl
none-answered (Ok (answer.Delta n)) = refl
none-answered (Ok (answer.Replay place n)) = refl

delta-answered : (a : std.Result Answer Refusal) (out : List ℕ) → delta_in (answer_reply a) out ≡ handed_out a out
unfolding answer_reply refused_reply reply_with word_at word_of
delta-answered (Err x) out = refl
delta-answered (Ok answer.Accepted) out = refl
delta-answered (Ok answer.Unchanged) out = refl
delta-answered (Ok (answer.Delta n)) out = refl
delta-answered (Ok (answer.Replay place n)) out = refl

event-answered : (c : ExportCall) (r : Record) (o : CallOutcome) → export_event (record { call = c; left = lent_of r o }) ≡ trace_event (call_of c) o
event-answered c r o = λ i.
    record {
      call = call_of c;
      accepted = accepted-answered o.answer i;
      none = none-answered o.answer i;
      delta = delta-answered o.answer o.out i;
      baseline = (trace_event (call_of c) o).baseline;
    }

-- ---- a list of calls

pub trace-is : (calls : List ExportCall) (r : Record) (st : List ℕ) → export_trace r st calls ≡ trace.trace (record_of r) st (calls_of calls)
trace-is [] r st = refl
trace-is (c ∷ cs) r st =
    ap₂ ◌∷◌ (ap (λ (l : Lent). export_event (record { call = c; left = l })) (lent_is r st c) ∙ event-answered c r (stepped r st c))
    (trace-is cs (lent_step r st c).state (lent_step r st c).store
    ∙ ap₂ (λ a s. trace.trace a s (calls_of cs)) (next-is r st c) (store_is r st c))

abbrev pub end_of : ExportEnd → End
end_of e = record { state = record_of e.state; store = e.store }

pub ends-are : (calls : List ExportCall) (r : Record) (st : List ℕ) → end_of (export_final r st calls) ≡ final (record_of r) st (calls_of calls)
ends-are [] r st = refl
ends-are (c ∷ cs) r st =
    ends-are cs (lent_step r st c).state (lent_step r st c).store
    ∙ ap₂ (λ a s. final a s (calls_of cs)) (next-is r st c) (store_is r st c)

-- ---- the floor that is read from a record

pub floor-is : (r : Record) → export_floor r ≡ (record_of r).epoch_floor
unfolding record_of
floor-is r = go (is_set r.has_floor)
  where
    go : (b : Bool) → cond b (Some r.epoch_floor) None ≡ floor_of b r.epoch_floor
    go true = refl
    go false = refl
