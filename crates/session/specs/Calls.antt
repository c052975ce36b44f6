-- Public: the calls on bytes: what each gives over every record, store, message and output. The contracts of the
-- programs are these equations.
-- Assumes nothing.
use Rattle.std.specs.Prelude as std
use Rattle.std.specs.Prelude.{ℕ, Bool, false, cond, ◌&&◌, List, length, ltb, leb, eqb, true, None, Ok, Err}
use Rattle.topic_types.specs.declared.ControllerIncarnation.{ControllerIncarnation}
use Rattle.refusal.specs.declared.Refusal.{Refusal}
use Rattle.refusal.specs.declared.Refusal.TheVariants.{StoreTooShort, InvalidUtf8, IdentityTooLong, MalformedStore}
use Rattle.refusal.specs.Steps.{◌>>◌, refuse_if, refuse_unless}
use Rattle.slice.specs.Same.{same_bytes}
use Rattle.utf8.specs.Table.{is_utf8}
use Rattle.slice_int.specs.Put.{put}
use Rattle.packed_delta.specs.Delta.{encode_delta, size_delta}
use Rattle.session.specs.declared.SessionRecord.{SessionRecord}
use Rattle.session.specs.declared.Answer.{Answer}
use Rattle.session.specs.declared.Answer.TheVariants as answer
use Rattle.session.specs.Store.{min_store, identity_slot, slot, write_all}
use Rattle.session.specs.Identity.{Identity, max_texts, kind_byte, texts_length, encode_identity, identity_topic, subscription_of, consumer_name_of, identity_kind, is_identity}
use Rattle.session.specs.Session.{at_start, view, CallAnswer, refused, accepted, unchanged, changed, replayed, Result}
use Rattle.session.specs.Update.{update_call}
use Rattle.session.specs.Response.{response_call}
use Rattle.session.specs.Drain.{drain_call}

-- what a call leaves: answer, record, store, output
pub record CallOutcome : Type 0 where
  pub answer : std.Result Answer Refusal
  pub next : SessionRecord
  pub store : List ℕ
  pub out : List ℕ

abbrev pub call_outcome : std.Result Answer Refusal → SessionRecord → (store out : List ℕ) → CallOutcome
call_outcome answer next store out = record { answer = answer; next = next; store = store; out = out }

abbrev pub answer_of : CallAnswer → std.Result Answer Refusal
answer_of (refused x) = Err x
answer_of accepted = Ok answer.Accepted
answer_of unchanged = Ok answer.Unchanged
answer_of (changed d) = Ok (answer.Delta (size_delta d))
answer_of (replayed index place d) = Ok (answer.Replay place (size_delta d))

-- "An output is written from its first byte, its length is answered, and the bytes behind it stay."
abbrev pub output_of : CallAnswer → List ℕ → List ℕ
output_of (refused x) out = out
output_of accepted out = out
output_of unchanged out = out
output_of (changed d) out = put out 0 (encode_delta d)
output_of (replayed index place d) out = put out 0 (encode_delta d)

-- a result on bytes
abbrev pub effect_of : Result → (store out : List ℕ) → CallOutcome
effect_of result store out =
    call_outcome (answer_of result.reply) result.next (write_all result.writes store) (output_of result.reply out)

unfoldable pub update_outcome : (r : SessionRecord) (store message : List ℕ) (incarnation : ControllerIncarnation) (out : List ℕ) → CallOutcome
update_outcome r store message incarnation out = effect_of (update_call (view r store) message incarnation (length out)) store out

-- no output is lent: none is written
unfoldable pub response_outcome : (r : SessionRecord) (store message : List ℕ) (incarnation : ControllerIncarnation) (out : List ℕ) → CallOutcome
response_outcome r store message incarnation out = effect_of (response_call (view r store) message incarnation) store out

unfoldable pub drain_outcome : (r : SessionRecord) (store : List ℕ) (reader : ℕ) (out : List ℕ) → CallOutcome
drain_outcome r store reader out = effect_of (drain_call (view r store) reader (length out)) store out

-- ---- open: 1, 7, 8

-- a refused open leaves a record with its numbers, which is no session
pub record OpenOutcome : Type 0 where
  pub answer : std.Result Answer Refusal
  pub next : SessionRecord
  pub store : List ℕ

-- "Fresh record: unregistered, no floor, not invalidated, queue 0, drain position 0": of every reader (02 d)
abbrev pub fresh_record : ℕ → ControllerIncarnation → SessionRecord
fresh_record consumer incarnation =
    record {
      consumer_id = consumer;
      incarnation = incarnation;
      registered = false;
      invalidated = false;
      epoch_floor = None;
      queue_count = 0;
      drain_positions = at_start;
    }

abbrev pub not_opened : Refusal → SessionRecord → List ℕ → OpenOutcome
not_opened x r store = record { answer = Err x; next = r; store = store }

abbrev pub unopened : SessionRecord → (store : List ℕ) → Refusal → OpenOutcome
unopened r store x = not_opened x r store

abbrev pub all_utf8 : Identity → Bool
all_utf8 i = is_utf8 i.topic && (is_utf8 i.subscription && is_utf8 i.consumer_name)

unfoldable pub open_outcome : (consumer : ℕ) (incarnation : ControllerIncarnation) (i : Identity) (store : List ℕ) → OpenOutcome
open_outcome consumer incarnation i store = do
  let fresh = fresh_record consumer incarnation
  refuse_if (unopened fresh store) (ltb (length store) min_store) StoreTooShort  -- 1
  refuse_unless (unopened fresh store) (all_utf8 i) InvalidUtf8  -- 7
  refuse_unless (unopened fresh store) (leb (texts_length i) max_texts) IdentityTooLong  -- 8
  record { answer = (Ok answer.Accepted); next = fresh; store = put store 0 (encode_identity i) }

-- ---- matches_registration: 1, then 22 for the identity slot alone

-- nothing is asked of the texts that are lent: those that are no identity's just do not match
abbrev pub same_identity : List ℕ → Identity → Bool
same_identity l i =
    same_bytes (identity_topic l) i.topic
    && (same_bytes (subscription_of l) i.subscription
    && (same_bytes (consumer_name_of l) i.consumer_name && eqb (identity_kind l) (kind_byte i.consumer_type)))

unfoldable pub match_of : List ℕ → Identity → std.Result Bool Refusal
match_of store i = do
  refuse_if Err (ltb (length store) min_store) StoreTooShort  -- 1
  refuse_unless Err (is_identity (slot store identity_slot)) MalformedStore  -- 22
  cond (same_identity (slot store identity_slot) i) (Ok true) (Ok false)
