-- What an exported call gives, from what the call under it gives and its answer in numbers: with an output, with a window, an opening, a log, a kind.
-- Assumes nothing.
use Rattle.std.specs.Prelude.{Bool, Option, Result, Ok, Err}
use Prim.Native.Nat.{ℕ}
use native.Mathlib.Omega.{arith}
use mathlib.Core.Path.{◌≡◌, refl, ap, ◌∙◌}
use mathlib.Core.List.{List}
use lib.IntN.{ℤ}
use mir.Syntax.{w32}
use mir.Val.{SFits, to_z, of_z}
use mir.Facts.{to_z-of_z}
use Rattle.topic_types.specs.declared.ScalableConsumerType.{ScalableConsumerType}
use Rattle.topic_types.specs.declared.ScalableConsumerType.TheVariants.{Stream, Checkpoint}
use Rattle.topic_types.specs.ConsumerTypes.{to_wire}
use Rattle.name_topic.specs.Build as build
use Rattle.output.specs.Output as output
use Rattle.churn.specs.Churn as window
use Rattle.attach_entries.specs.Passes.{Checked}
use Rattle.session.specs.declared.SessionRecord.{SessionRecord}
use Rattle.session.specs.declared.Answer.{Answer}
use Rattle.session.specs.Calls.{OpenOutcome}
use Rattle.hours.specs.Hours.{Earliest}
use Rattle.watch.specs.Watch as watch
use Rattle.export_reply.specs.declared.Reply.{Reply}
use Rattle.export_record.specs.declared.SessionReply.{SessionReply}
use Rattle.export_record.specs.Replies.{open_reply}
use Rattle.export_record.specs.Exported.{Opening, open_of}
use Rattle.export.specs.Exports.{Output, write_reply, write_of, name_reply, name_of}
use Rattle.export.specs.Exports.{Watched, watch_reply, watch_of, earliest_reply, EarliestReply, log_reply, LogReply, answered_reply, hours_reply}
use Rattle.export.specs.Exports.{Windowed, churn_reply, window_of}
use Rattle.refusal.specs.declared.Refusal.{Refusal}
use Rattle.churn.specs.declared.Totals.{Totals}

abbrev pub outputs : Reply → List ℕ → Output
outputs x out = record { reply = x; out = out }

abbrev pub opening : SessionReply → List ℕ → Opening
opening x store = record { call = x; store = store }

pub write-call :
    {x : Reply} {a : Result ℕ Refusal} {out : List ℕ} {o : output.Outcome} → x ≡ write_reply a → output.outcome a out ≡ o → outputs x out ≡ write_of o
write-call {out = out} e f = ap (λ (y : Reply). outputs y out) e ∙ ap write_of f

-- a name that is written is told as a list that is written
written-name : (a : Result ℕ Refusal) → write_reply a ≡ name_reply a
unfolding write_reply name_reply
written-name (Ok n) = refl
written-name (Err x) = refl

pub name-call :
    {x : Reply} {a : Result ℕ Refusal} {out : List ℕ} {o : build.NameOutcome} → x ≡ write_reply a → build.name_outcome a out ≡ o → outputs x out ≡ name_of o
name-call {a = a} {out = out} e f = ap (λ (y : Reply). outputs y out) (e ∙ written-name a) ∙ ap name_of f

abbrev pub windowed : Reply → List ℕ → Windowed
windowed x window = record { reply = x; window = window }

pub window-call :
    {x : Reply} {a : Result Totals Refusal} {w : List ℕ} {o : window.ChurnOutcome} → x ≡ churn_reply a → window.churn_outcome a w ≡ o → windowed x w ≡ window_of o
window-call {w = w} e f = ap (λ (y : Reply). windowed y w) e ∙ ap window_of f

pub open-call :
    {x : SessionReply} {a : Result Answer Refusal} {r : SessionRecord} {store : List ℕ} {o : OpenOutcome} →
    x ≡ open_reply a r → record { answer = a; next = r; store = store } ≡ o → opening x store ≡ open_of o
open-call {store = store} e f = ap (λ (y : SessionReply). opening y store) e ∙ ap open_of f

pub earliest-call :
    {contract : List ℕ} {second : ℕ} {x : Reply} (a : Result (Option ℕ) Refusal) →
    Earliest contract second a → x ≡ earliest_reply a → EarliestReply contract second x
earliest-call a h e = record { answer = a; earliest = h; reply-is = e }

abbrev pub watched : Reply → List ℕ → List ℕ → Watched
watched x buffer out = record { reply = x; buffer = buffer; out = out }

pub watch-call :
    {x : Reply} {a : Result (ℕ × ℕ) Refusal} {buffer out : List ℕ} {o : watch.WatchOutcome} →
    x ≡ watch_reply a → watch.outcome a buffer out ≡ o → watched x buffer out ≡ watch_of o
watch-call {buffer = buffer} {out = out} e f = ap (λ (y : Reply). watched y buffer out) e ∙ ap watch_of f

-- a log's answer and that of hours are told as a range's
answered-log : (a : Result Bool Refusal) → answered_reply a ≡ log_reply a
unfolding answered_reply log_reply
answered-log (Ok b) = refl
answered-log (Err x) = refl

pub answered-hours : (a : Result Bool Refusal) → answered_reply a ≡ hours_reply a
unfolding answered_reply hours_reply
answered-hours (Ok b) = refl
answered-hours (Err x) = refl

pub log-call : {deltas entries : List ℕ} {x : Reply} (a : Result Bool Refusal) → Checked deltas entries a → x ≡ answered_reply a → LogReply deltas entries x
log-call a h e = record { answer = a; checked = h; reply-is = e ∙ answered-log a }

-- the integer of a kind, as its 32 bits read back
wire-fits : (k : ScalableConsumerType) → SFits w32 (to_wire k)
unfolding to_wire
wire-fits Stream = record { sfits = omega arith }
wire-fits Checkpoint = record { sfits = omega arith }

pub kind-call : {z : ℤ} (k : ScalableConsumerType) → z ≡ to_wire k → to_z w32 (of_z w32 z) ≡ to_wire k
kind-call k e = ap (λ (z : ℤ). to_z w32 (of_z w32 z)) e ∙ to_z-of_z (wire-fits k)
