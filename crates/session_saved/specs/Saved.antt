-- Public: the calls `save` and `restore`, over any bytes. The contracts of the programs are these equations.
-- Assumes nothing.
use Rattle.std.specs.Prelude.{ℕ, not, List, length, ltb, Ok}
use Rattle.refusal.specs.declared.Refusal.TheVariants.{StoreTooShort, MalformedStore, MalformedSave}
use Rattle.refusal.specs.Steps.{◌>>◌, refuse_if}
use Rattle.slice_int.specs.Put.{put}
use Rattle.output.specs.Output.{Outcome, unwritten, written}
use Rattle.session.specs.declared.SessionRecord.{SessionRecord}
use Rattle.session.specs.declared.Answer.TheVariants.{Accepted}
use Rattle.session.specs.Store.{min_store}
use Rattle.session.specs.Session.{view, damaged}
use Rattle.session.specs.Calls.{OpenOutcome, fresh_record, unopened}
use Rattle.session_saved.specs.Form.{encode_saved, is_saved, saved_record, saved_store}

-- ---- save. Refused in order: 1, 22, 21.

-- the session at the front of the output
unfoldable pub save_outcome : (r : SessionRecord) (store out : List ℕ) → Outcome
save_outcome r store out = do
  refuse_if (unwritten out) (ltb (length store) min_store) StoreTooShort  -- 1
  refuse_if (unwritten out) (damaged (view r store)) MalformedStore  -- 22
  written (encode_saved r store) out  -- 21

-- ---- restore: like open, it is given no record, and gives one. Refused in order: 64, 22, 1.

-- the record beside a refusal is no session's
abbrev pub no_session : SessionRecord
no_session = fresh_record 0 (record { 0 = 0 })

-- record and store's part of a form: the part at the store's front, the bytes behind it stay
unfoldable pub restore_part : (r : SessionRecord) (part store : List ℕ) → OpenOutcome
restore_part r part store = do
  refuse_if (unopened no_session store) (damaged (view r part)) MalformedStore  -- 22
  refuse_if (unopened no_session store) (ltb (length store) (length part)) StoreTooShort  -- 1
  record { answer = (Ok Accepted); next = r; store = put store 0 part }

unfoldable pub restore_outcome : (bytes store : List ℕ) → OpenOutcome
restore_outcome bytes store = do
  refuse_if (unopened no_session store) (not (is_saved bytes)) MalformedSave  -- 64
  restore_part (saved_record bytes) (saved_store bytes) store
