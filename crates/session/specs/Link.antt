-- Public: begin and invalidate: `begin_incarnation` and `invalidate_authority`.
--
-- "unregistered, queue and position 0, no store byte touched, floor kept. Begin sets the incarnation and clears invalidated; invalidate sets it." Begin: 25;
-- "invalidate refuses nothing". The position is every reader's (02 d). Neither looks at the store.
-- Assumes nothing.
use Rattle.std.specs.Prelude.{Bool, true, false, ltb, Ok, Err}
use Rattle.topic_types.specs.declared.ControllerIncarnation.{ControllerIncarnation}
use Rattle.refusal.specs.declared.Refusal.{Refusal}
use Rattle.refusal.specs.declared.Refusal.TheVariants.{NonAdvancingIncarnation}
use Rattle.refusal.specs.Steps.{◌>>◌, refuse_unless}
use Rattle.session.specs.declared.SessionRecord.{SessionRecord}
use Rattle.session.specs.declared.Answer.TheVariants.{Accepted}
use Rattle.session.specs.declared.Changed.{Changed}
use Rattle.session.specs.Session.{with_fields, at_start}

abbrev pub unregistered : SessionRecord → ControllerIncarnation → Bool → SessionRecord
unregistered r incarnation invalidated =
    with_fields r incarnation false invalidated r.epoch_floor 0 at_start

-- a refusal leaves the record
abbrev pub unbegun : SessionRecord → Refusal → Changed
unbegun r x = record { next = r; answer = Err x }

unfoldable pub begin_of : SessionRecord → ControllerIncarnation → Changed
begin_of r incarnation = do
  refuse_unless (unbegun r) (ltb r.incarnation.0 incarnation.0) (NonAdvancingIncarnation incarnation r.incarnation)  -- 25
  record { next = unregistered r incarnation false; answer = (Ok Accepted) }

unfoldable pub invalidate_of : SessionRecord → Changed
invalidate_of r = record { next = unregistered r r.incarnation true; answer = (Ok Accepted) }
