-- Public: whether record and store are a session's: what the calls over a store ask first.
-- Assumes nothing.
use Rattle.std.specs.Prelude.{ℕ, List, length, ltb, Result, Ok, Err}
use Rattle.refusal.specs.declared.Refusal.TheVariants.{StoreTooShort, MalformedStore}
use Rattle.refusal.specs.Steps.{◌>>◌, refuse_if}
use Rattle.session.specs.declared.SessionRecord.{SessionRecord}
use Rattle.session.specs.declared.Answer.{Answer}
use Rattle.session.specs.declared.Answer.TheVariants as answer
use Rattle.session.specs.Store.{min_store}
use Rattle.session.specs.Session.{view, damaged}
use Rattle.refusal.specs.declared.Refusal.{Refusal}

unfoldable pub check_of : SessionRecord → (store : List ℕ) → Result Answer Refusal
check_of r store = do
  refuse_if Err (ltb (length store) min_store) StoreTooShort  -- 1
  refuse_if Err (damaged (view r store)) MalformedStore  -- 22
  (Ok answer.Accepted)
