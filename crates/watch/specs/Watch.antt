-- Public: the topics watch (01, Watch): `ScalableTopicsWatch::handle_update` on a lent set.
--
-- "a lent set at the front of its buffer, its byte length given and answered ... A snapshot replaces; a diff removes, then adds." Refused in order: 30, 3, 4, 7, 6, 29, 16, 17,
-- 31, 21; a refusal changes nothing.
-- Assumes nothing.
use Rattle.std.specs.Prelude.{ℕ, ◌^◌, not, ◌&&◌, List, ◌∷◌, ◌++◌, length, take, leb, ltb, eqb, ℤ, ⊤, Option, Some, None, Result, Ok, Err}
use Rattle.refusal.specs.declared.Refusal.{Refusal}
use Rattle.refusal.specs.declared.Refusal.TheVariants.{MalformedSet, WatchMismatch, Broker, EmptyUpdate, SetTooLong, ResultTooLong}
use Rattle.refusal.specs.Steps.{◌>>◌, ◌>>=◌, refuse_if, refuse_unless}
use Rattle.slice_int.specs.Be.{bytes_of}
use Rattle.slice_int.specs.Put.{put}
use Rattle.wire.specs.Fields.{Field, fields_of}
use Rattle.wire_values.specs.Values.{parts_of, merged_fields}
use Rattle.wire_schema.specs.declared.MessageKind.TheVariants.{CommandWatchScalableTopicsUpdate}
use Rattle.wire_schema.specs.FirstFault.{first_fault}
use Rattle.wire_schema.specs.Steps.{refuse_fault}
use Rattle.wire_readers.specs.Messages.{WireEvent, none, snapshot, diff, WireWatchUpdate, watch_update_of}
use Rattle.watch_topics.specs.Topics.{insert_all, sorted, all_short}
use Rattle.watch_topics.specs.Packed.{decode_topics, encode_topics, size_topics, is_set}
use Rattle.watch_window.specs.Lists.{kept, added_of, removed_of}

-- ---- what an event asks for, over lists of topics

-- the topics that it names, the set behind it, the packed length of its added list, and the output
pub record Change : Type 0 where
  pub named : List (List ℕ)
  pub topics : List (List ℕ)
  pub added : ℕ
  pub output : List ℕ

-- "A snapshot replaces ... Output: byte 0, then the set"
unfoldable pub snapshot_change : List (List ℕ) → Change
snapshot_change topics = record { named = topics; topics = sorted topics; added = 0; output = 0 ∷ encode_topics (sorted topics) }

-- "byte 1, 32-bit byte length of the added list, added, removed, each entry packed as in the set"
abbrev pub diff_output : (added removed : List (List ℕ)) → List ℕ
diff_output added removed = 1 ∷ (bytes_of 4 (size_topics added) ++ (encode_topics added ++ encode_topics removed))

-- "a diff removes, then adds ... Removed lists, once each, topics that were in the set; added lists those not in it after the removals."
unfoldable pub diff_change : (old added removed : List (List ℕ)) → Change
diff_change old added removed =
    record {
      named = added ++ removed;
      topics = insert_all added (kept old removed);
      added = size_topics (added_of old removed added);
      output = diff_output (added_of old removed added) (removed_of old removed);
    }

-- field 1 of an event are the topics of a snapshot, or those added; field 2 those removed
abbrev pub snapshot_by : List Field → Change
snapshot_by fs = snapshot_change (parts_of 1 fs)

abbrev pub diff_by : List (List ℕ) → List Field → Change
diff_by old fs = diff_change old (parts_of 1 fs) (parts_of 2 fs)

-- the same of an event that is all the parts of its field in p
abbrev pub snapshot_in : List ℕ → Change
snapshot_in p = snapshot_by (merged_fields 2 (fields_of p))

abbrev pub diff_in : List (List ℕ) → List ℕ → Change
diff_in old p = diff_by old (merged_fields 3 (fields_of p))

-- ---- the call

-- the answer, and the bytes of the set's buffer and of the output behind it
pub record WatchOutcome : Type 0 where
  pub answer : Result (ℕ × ℕ) Refusal
  pub buffer : List ℕ
  pub out : List ℕ

abbrev pub outcome : Result (ℕ × ℕ) Refusal → (buffer out : List ℕ) → WatchOutcome
outcome answer buffer out = record { answer = answer; buffer = buffer; out = out }

-- 16 where there is an error code, else 17
abbrev pub no_event : ℕ → Option ℤ → Refusal
no_event id (Some code) = Broker code
no_event id None = EmptyUpdate id

module _ (buffer out : List ℕ) where
  -- a refusal changes nothing
  abbrev pub refuse : Refusal → WatchOutcome
  refuse x = outcome (Err x) buffer out

  -- what the event asks for, where there is one
  abbrev pub take_event : (old : List (List ℕ)) → WireWatchUpdate → WireEvent → (Change → WatchOutcome) → WatchOutcome
  take_event old u (snapshot fs) rest = rest (snapshot_by fs)
  take_event old u (diff fs) rest = rest (diff_by old fs)
  take_event old u none rest = refuse (no_event u.watch_id u.error)

  -- the new set and the output are written, each from its first byte, and their lengths answered
  abbrev pub done : Change → WatchOutcome
  done c =
      outcome (Ok (size_topics c.topics, length c.output)) (put buffer 0 (encode_topics c.topics)) (put out 0 c.output)

  -- 31: "new set longer than its buffer, or any topic in the message's event above 65,535 bytes"; 21: "result longer than the output ... or an added list of 2^32 bytes
  -- or more"
  unfoldable pub handle_update : (id used : ℕ) (message : List ℕ) → WatchOutcome
  handle_update id used message = do
    refuse_unless refuse (leb used (length buffer) && is_set (take used buffer)) MalformedSet  -- 30
    refuse_fault refuse (first_fault CommandWatchScalableTopicsUpdate message)  -- 3, 4, 7, 6
    let u = watch_update_of message
    refuse_if refuse (not (eqb u.watch_id id)) (WatchMismatch u.watch_id id)  -- 29
    c ← take_event (decode_topics (take used buffer)) u u.event  -- 16 or 17
    refuse_unless refuse (all_short c.named && leb (size_topics c.topics) (length buffer)) SetTooLong  -- 31
    refuse_unless refuse (ltb c.added (2 ^ 32) && leb (length c.output) (length out)) ResultTooLong  -- 21
    done c

  -- ---- Internal: the tails from 31, from 16, from 29 and from 3 on, which the contracts of helpers and laws cite

  unfoldable pub settle : Change → WatchOutcome
  settle c = do
    refuse_unless refuse (all_short c.named && leb (size_topics c.topics) (length buffer)) SetTooLong
    refuse_unless refuse (ltb c.added (2 ^ 32) && leb (length c.output) (length out)) ResultTooLong
    done c

  unfoldable pub by_event : (old : List (List ℕ)) → WireWatchUpdate → WireEvent → WatchOutcome
  by_event old u e = do
    c ← take_event old u e
    settle c

  unfoldable pub for_watch : (id : ℕ) (old : List (List ℕ)) → WireWatchUpdate → WatchOutcome
  for_watch id old u = do
    refuse_if refuse (not (eqb u.watch_id id)) (WatchMismatch u.watch_id id)
    by_event old u u.event

  abbrev pub when_checked : (id : ℕ) (old : List (List ℕ)) (message : List ℕ) → Result ⊤ Refusal → WatchOutcome
  when_checked id old message c = do
    refuse_fault refuse c
    for_watch id old (watch_update_of message)
