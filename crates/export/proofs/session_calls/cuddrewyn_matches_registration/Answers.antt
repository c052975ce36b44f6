-- `cuddrewyn_matches_registration` meets its contract: what the call under it gives, in numbers.
-- Assumes nothing.
use Rattle.std.specs.Prelude.{Bool, Result, Ok}
use mathlib.Core.Path.{◌≡◌, ap, sym, ◌∙◌}
use mir.Facts.{to_z-of_z}
use Rattle.topic_types.specs.ConsumerTypes.{from_wire}
use Rattle.session.specs.Calls.{match_of}
use Rattle.export.specs.Exports.{match_reply}
use Rattle.export.proofs.session_calls.cuddrewyn_matches_registration.Goals.{After-matches_registration}
use Rattle.export.proofs.session_calls.cuddrewyn_matches_registration.Goals as goal
use Rattle.refusal.specs.declared.Refusal.{Refusal}

-- what the call under it gives
abbrev called : After-matches_registration → Result Bool Refusal
called k =
    let a = k.args in
    match_of a.store.now
    (record {
      topic = a.topic.now;
      subscription = a.subscription.now;
      consumer_name = a.consumer_name.now;
      consumer_type = from_wire a.kind;
    })

-- the arm of an answer m
told :
    (k : After-matches_registration) {m : Result Bool Refusal} → k.matches_registration.result ≡ m →
    match_reply m ≡ match_reply (called k)
told k e = ap match_reply (sym e ∙ rw (k.from_pb_i32-kind.ensures, to_z-of_z k.ranges.kind) at k.matches_registration.ensures)

pub returns-in-Ok-true : goal.returns-in-Ok-true
unfolding match_reply
returns-in-Ok-true c = c.plain.ensures ∙ told (goal.at.returns-in-Ok-true c).After-matches_registration (c.in-Ok-true.is ∙ ap Ok c.in-Ok-true.field-0-test)

pub returns-in-Ok-false : goal.returns-in-Ok-false
unfolding match_reply
returns-in-Ok-false c = c.plain-in-Ok-false.ensures ∙ told (goal.at.returns-in-Ok-false c).After-matches_registration (c.in-Ok-false.is ∙ ap Ok c.in-Ok-false.field-0-test)

pub returns-in-Err : goal.returns-in-Err
unfolding match_reply
returns-in-Err c = c.refused.ensures ∙ told (goal.at.returns-in-Err c).After-matches_registration c.in-Err.is
