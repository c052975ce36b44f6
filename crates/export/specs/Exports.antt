-- Public: the exported calls: each is a call of 01, its answer in numbers and the record as a plain struct.
-- Assumes nothing.
use Rattle.std.specs.Prelude.{ℕ, ◌≡◌, List, [], ◌∷◌, pos, Bool, true, false, Option, Some, None, Result, Ok, Err}
use Rattle.name_topic.specs.Build as build
use Rattle.output.specs.Output as output
use Rattle.key_for_hash.specs.declared.TestKey.{TestKey}
use Rattle.churn.specs.Churn as window
use Rattle.hours.specs.Hours.{Earliest}
use Rattle.attach_entries.specs.Passes.{Checked}
use Rattle.watch.specs.Watch as watch
use Rattle.export_reply.specs.declared.Reply.{Reply}
use Rattle.export_reply.specs.Replies.{written, yes, no, found, refused_reply, taken_reply, test_reply}
use Rattle.refusal.specs.declared.Refusal.{Refusal}
use Rattle.topic_types.specs.declared.SegmentId.{SegmentId}
use Rattle.name_source.specs.declared.SegmentSource.{SegmentSource}
use Rattle.churn.specs.declared.Totals.{Totals}

-- ---- answers in numbers

unfoldable pub write_reply : Result ℕ Refusal → Reply
write_reply (Ok n) = taken_reply written (pos n ∷ [])
write_reply (Err x) = refused_reply x

unfoldable pub name_reply : Result ℕ Refusal → Reply
name_reply (Ok n) = taken_reply written (pos n ∷ [])
name_reply (Err x) = refused_reply x

unfoldable pub length_reply : Result ℕ Refusal → Reply
length_reply (Ok n) = taken_reply found (pos n ∷ [])
length_reply (Err x) = refused_reply x

unfoldable pub answered_reply : Result Bool Refusal → Reply
answered_reply (Ok b) = test_reply b
answered_reply (Err x) = refused_reply x

unfoldable pub source_reply : Result SegmentSource Refusal → Reply
source_reply (Ok s) = taken_reply found (pos s.key_range.start ∷ pos s.key_range.end ∷ [])
source_reply (Err x) = refused_reply x

unfoldable pub segment_reply : Result (Option SegmentId) Refusal → Reply
segment_reply (Ok (Some id)) = taken_reply found (pos id.0 ∷ [])
segment_reply (Ok None) = taken_reply no []
segment_reply (Err x) = refused_reply x

-- the key's bytes in their order, a value each
unfoldable pub key_reply : TestKey → Reply
key_reply k = taken_reply found (pos k.first ∷ pos k.second ∷ pos k.third ∷ pos k.fourth ∷ [])

unfoldable pub key_in_reply : Result (Option TestKey) Refusal → Reply
key_in_reply (Ok (Some k)) = key_reply k
key_in_reply (Ok None) = taken_reply no []
key_in_reply (Err x) = refused_reply x

-- the charge and the next remainder
unfoldable pub charge_reply : Result (ℕ × ℕ) Refusal → Reply
charge_reply (Ok (amount, next)) = taken_reply found (pos amount ∷ pos next ∷ [])
charge_reply (Err x) = refused_reply x

-- sum and largest
unfoldable pub churn_reply : Result Totals Refusal → Reply
churn_reply (Ok t) = taken_reply found (pos t.sum ∷ pos t.largest ∷ [])
churn_reply (Err x) = refused_reply x

-- whether a second is open
unfoldable pub hours_reply : Result Bool Refusal → Reply
hours_reply (Ok b) = test_reply b
hours_reply (Err x) = refused_reply x

-- the earliest open second
unfoldable pub earliest_reply : Result (Option ℕ) Refusal → Reply
earliest_reply (Ok (Some s)) = taken_reply found (pos s ∷ [])
earliest_reply (Ok None) = taken_reply no []
earliest_reply (Err x) = refused_reply x

unfoldable pub log_reply : Result Bool Refusal → Reply
log_reply (Ok b) = test_reply b
log_reply (Err x) = refused_reply x

unfoldable pub match_reply : Result Bool Refusal → Reply
match_reply (Ok true) = taken_reply yes []
match_reply (Ok false) = taken_reply no []
match_reply (Err x) = refused_reply x

unfoldable pub watch_reply : Result (ℕ × ℕ) Refusal → Reply
watch_reply (Ok (set, out)) = taken_reply written (pos set ∷ pos out ∷ [])
watch_reply (Err x) = refused_reply x

-- ---- what a call leaves

-- the one answer that `Earliest` has, in numbers
pub record EarliestReply (contract : List ℕ) (second : ℕ) (x : Reply) : Type 0 where
  pub answer : Result (Option ℕ) Refusal
  pub earliest : Earliest contract second answer
  pub reply-is : x ≡ earliest_reply answer

-- reply and output
pub record Output : Type 0 where
  pub reply : Reply
  pub out : List ℕ

abbrev pub write_of : output.Outcome → Output
write_of o = record { reply = write_reply o.answer; out = o.out }

abbrev pub name_of : build.NameOutcome → Output
name_of o = record { reply = name_reply o.answer; out = o.out }

-- reply and window
pub record Windowed : Type 0 where
  pub reply : Reply
  pub window : List ℕ

abbrev pub window_of : window.ChurnOutcome → Windowed
window_of o = record { reply = churn_reply o.answer; window = o.window }

-- the reply of the answer that a log gets
pub record LogReply (deltas entries : List ℕ) (x : Reply) : Type 0 where
  pub answer : Result Bool Refusal
  pub checked : Checked deltas entries answer
  pub reply-is : x ≡ log_reply answer

-- reply, the set's buffer, output
pub record Watched : Type 0 where
  pub reply : Reply
  pub buffer : List ℕ
  pub out : List ℕ

abbrev pub watch_of : watch.WatchOutcome → Watched
watch_of o = record { reply = watch_reply o.answer; buffer = o.buffer; out = o.out }
