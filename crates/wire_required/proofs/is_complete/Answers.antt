-- `is_complete` meets its contract: each arm is what its callee says. Assumes nothing.
use mathlib.Core.Path.{sym, ◌∙◌}
use Rattle.wire_schema.specs.Required.{is_complete}
use Rattle.wire_schema.proofs.RequiredLaws.{watch-is}
use Rattle.wire_required.proofs.is_complete.Goals as goal

pub returns-in-ScalableConsumerAssignment : goal.returns-in-ScalableConsumerAssignment
unfolding is_complete
returns-in-ScalableConsumerAssignment c = rw c.in-ScalableConsumerAssignment.is c.list_complete.ensures

pub returns-in-ScalableAssignedSegment : goal.returns-in-ScalableAssignedSegment
unfolding is_complete
returns-in-ScalableAssignedSegment c = rw c.in-ScalableAssignedSegment.is c.segment_complete.ensures

pub returns-in-IntRange : goal.returns-in-IntRange
unfolding is_complete
returns-in-IntRange c = rw c.in-IntRange.is c.range_complete.ensures

pub returns-in-CommandWatchScalableTopicsUpdate : goal.returns-in-CommandWatchScalableTopicsUpdate
returns-in-CommandWatchScalableTopicsUpdate c = rw c.in-CommandWatchScalableTopicsUpdate.is (c.has_number.ensures ∙ sym (watch-is _))

pub returns-in-ScalableTopicsSnapshot : goal.returns-in-ScalableTopicsSnapshot
unfolding is_complete
returns-in-ScalableTopicsSnapshot c = rw c.in-ScalableTopicsSnapshot.is

pub returns-in-ScalableTopicsDiff : goal.returns-in-ScalableTopicsDiff
unfolding is_complete
returns-in-ScalableTopicsDiff c = rw c.in-ScalableTopicsDiff.is

pub returns-in-CommandScalableTopicAssignmentUpdate : goal.returns-in-CommandScalableTopicAssignmentUpdate
returns-in-CommandScalableTopicAssignmentUpdate c = rw c.in-CommandScalableTopicAssignmentUpdate.is c.update_complete.ensures

pub returns-in-CommandScalableTopicSubscribeResponse : goal.returns-in-CommandScalableTopicSubscribeResponse
returns-in-CommandScalableTopicSubscribeResponse c = rw c.in-CommandScalableTopicSubscribeResponse.is c.response_complete.ensures
