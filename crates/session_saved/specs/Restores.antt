-- Public: a session that was saved is the session that is restored (`SaveRestores`, proved in proofs/RestoreLaws).
-- Assumes nothing.
use Rattle.std.specs.Prelude.{ℕ, ◌-◌, ◌^◌, ◌≤◌, ◌<◌, ◌≡◌, false, List, length, take, drop, Ok}
use Rattle.slice.specs.Bytes.{Bytes}
use Rattle.session.specs.declared.SessionRecord.{SessionRecord}
use Rattle.session.specs.declared.Answer.TheVariants.{Accepted}
use Rattle.session.specs.Session.{Session, readers, view, damaged}
use Rattle.session.specs.Calls.{OpenOutcome}
use Rattle.session_record.specs.Floors.{floor_value}
use Rattle.session_saved.specs.Form.{frame}
use Rattle.session_saved.specs.Saved.{save_outcome, restore_outcome}

-- the numbers that 8 bytes hold, and a position for each reader: of a record of the program they do
pub record Fits (r : SessionRecord) : Type 0 where
  pub consumer : r.consumer_id < 2 ^ 64
  pub incarnation : r.incarnation.0 < 2 ^ 64
  pub floor : floor_value r.epoch_floor < 2 ^ 64
  pub positions : length r.drain_positions ≡ readers

-- the same session, on a store of any length
pub record SameSession (s t : Session) : Type 0 where
  pub state : s.state ≡ t.state
  pub sound : s.sound ≡ t.sound
  pub topic : s.topic ≡ t.topic
  pub baseline : s.baseline ≡ t.baseline
  pub list : s.list ≡ t.list
  pub queue : s.queue ≡ t.queue

-- what a restore into the store t leaves of the session of r and store, whose part has n bytes
pub record Restored (r : SessionRecord) (store t : List ℕ) (n : ℕ) (o : OpenOutcome) : Type 0 where
  pub answer : o.answer ≡ Ok Accepted
  pub next : o.next ≡ r
  pub same : SameSession (view r o.store) (view r store)
  pub undamaged : damaged (view r o.store) ≡ false
  -- the bytes behind it stay
  pub behind : drop n o.store ≡ drop n t
  pub size : length o.store ≡ length t
  -- on a store of the same length the two sessions are one
  pub whole : length t ≡ length store → view r o.store ≡ view r store

-- whatever the save's output held behind the form, and whatever stood in the store that is lent to restore
abbrev pub SaveRestores : Type 0
SaveRestores =
    (r : SessionRecord) (store out t : List ℕ) (n : ℕ) → Fits r → Bytes store → (save_outcome r store out).answer ≡ Ok n
    → n - frame ≤ length t
    → Restored r store t (n - frame) (restore_outcome (take n (save_outcome r store out).out) t)
