-- Internal: the tails of update and response, from a test on, as the contracts of helpers cite them. Whoever reads the claims may skip it.
-- Assumes nothing.
use Rattle.std.specs.Prelude as std
use Rattle.std.specs.Prelude.{cond, not, List, ℕ, eqb, ⊤}
use Rattle.topic_types.specs.declared.ControllerIncarnation.{ControllerIncarnation}
use Rattle.refusal.specs.declared.Refusal.TheVariants.{IncarnationMismatch, ConsumerMismatch}
use Rattle.refusal.specs.Steps.{◌>>◌, ◌>>=◌}
use Rattle.wire_readers.specs.Messages.{WireUpdate, update_of, WireResponse, response_of}
use Rattle.packed.specs.Assignment.{ConsumerAssignment}
use Rattle.intake_content.specs.Content.{Content, content_of}
use Rattle.session.specs.Session.{Session, Result, floor_fault}
use Rattle.session.specs.Steps.{refuse_if, refuse_unless, refuse_due, refuse_fault, take_content}
use Rattle.session.specs.Update.{update_registered, update_unregistered}
use Rattle.session.specs.Response.{stale_fault, last_list, replayable, register, denied}
use Rattle.refusal.specs.declared.Refusal.{Refusal}

-- ---- update

unfoldable pub update_content : Session → Content → Result
update_content s c = do
  a ← take_content s c
  cond s.state.registered (update_registered s a) (update_unregistered s a)

unfoldable pub update_valid : Session → ControllerIncarnation → WireUpdate → Result
update_valid s incarnation u = do
  refuse_if s (not (eqb incarnation.0 s.state.incarnation.0)) (IncarnationMismatch incarnation s.state.incarnation)
  refuse_if s (not (eqb u.consumer_id s.state.consumer_id)) (ConsumerMismatch u.consumer_id s.state.consumer_id)
  update_content s (content_of s.topic u.assignment)

abbrev pub update_checked : Session → ControllerIncarnation → List ℕ → std.Result ⊤ Refusal → Result
update_checked s incarnation message c = do
  refuse_fault s c
  update_valid s incarnation (update_of message)

-- ---- response

unfoldable pub response_assignment : Session → ConsumerAssignment → Result
response_assignment s baseline = do
  refuse_due s (floor_fault baseline.layout_epoch s.state.epoch_floor)
  refuse_due s (stale_fault baseline (replayable s))
  register s baseline (last_list baseline (replayable s))

unfoldable pub response_content : Session → Content → Result
response_content s c = do
  baseline ← take_content s c
  response_assignment s baseline

unfoldable pub response_valid : Session → ControllerIncarnation → WireResponse → Result
response_valid s incarnation w = do
  refuse_if s (not (eqb incarnation.0 s.state.incarnation.0)) (IncarnationMismatch incarnation s.state.incarnation)
  refuse_unless s w.has_assignment (denied w w.error)
  response_content s (content_of s.topic w.assignment)

abbrev pub response_checked : Session → ControllerIncarnation → List ℕ → std.Result ⊤ Refusal → Result
response_checked s incarnation message c = do
  refuse_fault s c
  response_valid s incarnation (response_of message)
