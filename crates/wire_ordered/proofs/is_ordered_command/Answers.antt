-- `is_ordered_command` meets its contract: each arm is what its callee tells. Assumes nothing.
use mathlib.Core.Bool.{false≢true}
use Rattle.wire_schema.proofs.SoundLaws.{update-row, response-row}
use Rattle.wire_ordered.proofs.is_ordered_command.Goals as goal

pub returns-in-CommandScalableTopicAssignmentUpdate : goal.returns-in-CommandScalableTopicAssignmentUpdate
returns-in-CommandScalableTopicAssignmentUpdate c = λ e.
    let q = c.ordered_carrier.ensures e in
    rw c.in-CommandScalableTopicAssignmentUpdate.is (update-row _ q.head q.part (q.sound 3) q.fields)

pub returns-in-CommandScalableTopicSubscribeResponse : goal.returns-in-CommandScalableTopicSubscribeResponse
returns-in-CommandScalableTopicSubscribeResponse c = λ e.
    let q = c.ordered_carrier-in-CommandScalableTopicSubscribeResponse.ensures e in
    rw c.in-CommandScalableTopicSubscribeResponse.is (response-row _ q.head q.part (q.sound 3) q.fields)

pub returns-in_default : goal.returns-in_default
returns-in_default c = λ e. absurd (false≢true e)
