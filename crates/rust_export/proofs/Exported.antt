-- The statements of specs/DemandTwo and specs/DemandThree: those of crates/rust_open, carried over by proofs/StepLaws and proofs/TellLaws.
-- Assumes nothing.
use Rattle.std.specs.Prelude.{Result, Ok, Err}
use Prim.Native.Nat.{ℕ}
use native.Mathlib.Omega.{arith}
use mathlib.Core.Path.{◌≡◌, refl, sym, ap, ◌∙◌, subst}
use mathlib.Core.Bool.{true}
use mathlib.Core.List.{List, []}
use lib.IntN.{ℤ}
use Rattle.topic_types.specs.ConsumerTypes.{from_wire}
use Rattle.topic_types.specs.declared.ScalableConsumerType.{ScalableConsumerType}
use Rattle.session.specs.declared.SessionRecord.{SessionRecord}
use Rattle.session.specs.declared.Answer.{Answer}
use Rattle.session.specs.declared.Answer.TheVariants as answer
use Rattle.session.specs.Identity.{Identity}
use Rattle.session.specs.Calls.{OpenOutcome, open_outcome}
use Rattle.session.specs.Trace.{Call, Event, trace, End, final}
use Rattle.session.specs.Observers.{unseen, watch, all_drained}
use Rattle.session.specs.DemandThree.{held, Claim}
use Rattle.rust_magnetar.specs.Session.{new}
use Rattle.rust_names.proofs.RangeAgrees.{from-wire-agrees}
use Rattle.rust_session.specs.Demand.{Caller, rust_run, port_run, fed_calls, fed_shown}
use Rattle.rust_open.specs.FromOpen.{new_caller}
use Rattle.rust_open.proofs.Begun.{demand-two-fed-from-open, demand-two-of-inputs-from-open, demand-three-from-open}
use Rattle.export_reply.specs.Replies.{reply_with, refused_reply, accepted}
use Rattle.export_record.specs.declared.Record.{Record}
use Rattle.export_record.specs.Replies.{record_of, export_record, answer_reply}
use Rattle.export_record.proofs.RecordLaws.{record-returns}
use Rattle.export_record.specs.Exported.{link}
use Rattle.rust_export.specs.Calls.{calls_of, export_run, ExportEnd, export_final, export_trace}
use Rattle.rust_export.specs.DemandTwo.{AllSeen, fed, rust_new, DemandTwoFedExported, DemandTwoExported}
use Rattle.rust_export.specs.DemandThree.{DemandThreeExported}
use Rattle.rust_export.proofs.StepLaws.{trace-is, end_of, ends-are, floor-is}
use Rattle.rust_export.proofs.TellLaws.{all_seen, Fed, fed-seen}
use Rattle.refusal.specs.declared.Refusal.{Refusal}

-- an open that answers `accepted` is accepted
answered-accepted : (a : Result Answer Refusal) → (answer_reply a).answer ≡ accepted → a ≡ Ok answer.Accepted
unfolding answer_reply refused_reply reply_with
answered-accepted (Err x) e = absurd (omega (arith, e))
answered-accepted (Ok answer.Accepted) e = refl
answered-accepted (Ok answer.Unchanged) e = absurd (omega (arith, e))
answered-accepted (Ok (answer.Delta n)) e = absurd (omega (arith, e))
answered-accepted (Ok (answer.Replay place n)) e = absurd (omega (arith, e))

abbrev identity : (topic subscription consumer_name : List ℕ) → (kind : ℤ) → Identity
identity topic subscription consumer_name kind =
    record { topic = topic; subscription = subscription; consumer_name = consumer_name; consumer_type = from_wire kind }

-- the Rust reads the kind alike
new_is : (consumer incarnation : ℕ) (topic subscription consumer_name : List ℕ) (kind : ℤ)
    → new_caller consumer (link incarnation) (identity topic subscription consumer_name kind)
    ≡ rust_new consumer incarnation topic subscription consumer_name kind
new_is consumer incarnation topic subscription consumer_name kind =
    ap (λ (k : ScalableConsumerType). record { session = new consumer topic subscription consumer_name k (link incarnation); taken = [] })
    (sym (from-wire-agrees kind))

-- ---- demand 3

pub demand-three-exported : DemandThreeExported
unfolding record_of
demand-three-exported consumer incarnation topic subscription consumer_name kind st e reader low calls bytes drained =
    subst (λ f. Claim (held (end_of end)) f (watch reader unseen events)) (sym (floor-is end.state))
    (subst (λ (x : End). Claim (held x) x.state.epoch_floor (watch reader unseen events)) (sym same_end)
    (subst (λ (es : List Event). Claim (held (final o.next o.store cs)) (final o.next o.store cs).state.epoch_floor
    (watch reader unseen es)) (sym same-events)
    (demand-three-from-open consumer (link incarnation) i st (answered-accepted o.answer e) reader low cs bytes
    (subst (λ (es : List Event). all_drained reader es ≡ true) same-events drained))))
  where
    i : Identity
    i = identity topic subscription consumer_name kind

    o : OpenOutcome
    o = open_outcome consumer (link incarnation) i st

    r : Record
    r = export_record o.next

    cs : List Call
    cs = calls_of calls

    events : List Event
    events = export_trace r o.store calls

    end : ExportEnd
    end = export_final r o.store calls

    same-events : events ≡ trace o.next o.store cs
    same-events = trace-is calls r o.store ∙ ap (λ (n : SessionRecord). trace n o.store cs) (record-returns o.next)

    same_end : end_of end ≡ final o.next o.store cs
    same_end = ends-are calls r o.store ∙ ap (λ (n : SessionRecord). final n o.store cs) (record-returns o.next)

-- ---- demand 2

pub demand-two-fed-exported : DemandTwoFedExported
demand-two-fed-exported consumer incarnation topic subscription consumer_name kind st e unmarked calls bytes reader one =
    let i = identity topic subscription consumer_name kind in
    let o : OpenOutcome = open_outcome consumer (link incarnation) i st in
    let cs : List Call = calls_of calls in
    let f : Fed reader (fed (export_run (export_record o.next) o.store calls)) (fed_calls o.next o.store cs)
    (fed_shown reader o.next o.store cs) =
    subst (λ (n : SessionRecord).
    Fed reader (fed (export_run (export_record o.next) o.store calls)) (fed_calls n o.store cs) (fed_shown reader n o.store cs))
    (record-returns o.next) (fed-seen reader calls (export_record o.next) o.store) in
    subst (AllSeen reader (fed (export_run (export_record o.next) o.store calls)))
    (demand-two-fed-from-open consumer (link incarnation) i st (answered-accepted o.answer e) unmarked cs bytes reader one
    ∙ ap (λ (c : Caller). rust_run c (fed_calls o.next o.store cs)) (new_is consumer incarnation topic subscription consumer_name kind)
    ∙ ap (rust_run (rust_new consumer incarnation topic subscription consumer_name kind)) (sym f.same))
    f.seen

pub demand-two-exported : DemandTwoExported
demand-two-exported consumer incarnation topic subscription consumer_name kind st e unmarked room most big calls bytes reader one roomy =
    let i = identity topic subscription consumer_name kind in
    let o : OpenOutcome = open_outcome consumer (link incarnation) i st in
    let cs : List Call = calls_of calls in
    let d = demand-two-of-inputs-from-open consumer (link incarnation) i st (answered-accepted o.answer e) unmarked room most big cs bytes reader one
    roomy in
    subst (AllSeen reader (export_run (export_record o.next) o.store calls))
    (ap (λ (n : SessionRecord). port_run reader n o.store cs) (record-returns o.next) ∙ d.1
    ∙ ap (λ (c : Caller). rust_run c cs) (new_is consumer incarnation topic subscription consumer_name kind))
    (all_seen reader calls (export_record o.next) o.store)
