-- `field_value` meets its contract: in each arm the kind and the number are known, and one of two laws says what the field holds.
-- Assumes nothing.
use mathlib.Core.Path.{refl}
use native.Mathlib.Omega.{arith}
use Rattle.wire_schema.proofs.SchemaLaws.{value-known, value-unknown}
use Rattle.wire_schema.proofs.field_value.Goals as goal

pub returns-in-1 : goal.returns-in-1
returns-in-1 c = value-known c.in-CommandScalableTopicAssignmentUpdate.is c.in-1.is refl

pub returns-in-2 : goal.returns-in-2
returns-in-2 c = value-known c.in-CommandScalableTopicAssignmentUpdate.is c.in-2.is refl

pub returns-in_default : goal.returns-in_default
returns-in_default c = value-unknown _ c.in-CommandScalableTopicAssignmentUpdate.is (omega arith) refl

pub returns-in-1-f : goal.returns-in-1-f
returns-in-1-f c = value-known c.in-CommandScalableTopicSubscribeResponse.is c.in-1-f.is refl

pub returns-in-2-f : goal.returns-in-2-f
returns-in-2-f c = value-known c.in-CommandScalableTopicSubscribeResponse.is c.in-2-f.is refl

pub returns-in-3 : goal.returns-in-3
returns-in-3 c = value-known c.in-CommandScalableTopicSubscribeResponse.is c.in-3.is refl

pub returns-in-4 : goal.returns-in-4
returns-in-4 c = value-known c.in-CommandScalableTopicSubscribeResponse.is c.in-4.is refl

pub returns-in_default-f : goal.returns-in_default-f
returns-in_default-f c = value-unknown _ c.in-CommandScalableTopicSubscribeResponse.is (omega arith) refl

pub returns-in-1-f-2 : goal.returns-in-1-f-2
returns-in-1-f-2 c = value-known c.in-ScalableConsumerAssignment.is c.in-1-f-2.is refl

pub returns-in-2-f-2 : goal.returns-in-2-f-2
returns-in-2-f-2 c = value-known c.in-ScalableConsumerAssignment.is c.in-2-f-2.is refl

pub returns-in_default-f-2 : goal.returns-in_default-f-2
returns-in_default-f-2 c = value-unknown _ c.in-ScalableConsumerAssignment.is (omega arith) refl

pub returns-in-1-f-3 : goal.returns-in-1-f-3
returns-in-1-f-3 c = value-known c.in-ScalableAssignedSegment.is c.in-1-f-3.is refl

pub returns-in-2-f-3 : goal.returns-in-2-f-3
returns-in-2-f-3 c = value-known c.in-ScalableAssignedSegment.is c.in-2-f-3.is refl

pub returns-in-3-f : goal.returns-in-3-f
returns-in-3-f c = value-known c.in-ScalableAssignedSegment.is c.in-3-f.is refl

pub returns-in-4-f : goal.returns-in-4-f
returns-in-4-f c = value-known c.in-ScalableAssignedSegment.is c.in-4-f.is refl

pub returns-in-5 : goal.returns-in-5
returns-in-5 c = value-known c.in-ScalableAssignedSegment.is c.in-5.is refl

pub returns-in_default-f-3 : goal.returns-in_default-f-3
returns-in_default-f-3 c = value-unknown _ c.in-ScalableAssignedSegment.is (omega arith) refl

pub returns-in-1-f-4 : goal.returns-in-1-f-4
returns-in-1-f-4 c = value-known c.in-IntRange.is c.in-1-f-4.is refl

pub returns-in-2-f-4 : goal.returns-in-2-f-4
returns-in-2-f-4 c = value-known c.in-IntRange.is c.in-2-f-4.is refl

pub returns-in_default-f-4 : goal.returns-in_default-f-4
returns-in_default-f-4 c = value-unknown _ c.in-IntRange.is (omega arith) refl

pub returns-in-1-f-5 : goal.returns-in-1-f-5
returns-in-1-f-5 c = value-known c.in-CommandWatchScalableTopicsUpdate.is c.in-1-f-5.is refl

pub returns-in-2-f-5 : goal.returns-in-2-f-5
returns-in-2-f-5 c = value-known c.in-CommandWatchScalableTopicsUpdate.is c.in-2-f-5.is refl

pub returns-in-3-f-2 : goal.returns-in-3-f-2
returns-in-3-f-2 c = value-known c.in-CommandWatchScalableTopicsUpdate.is c.in-3-f-2.is refl

pub returns-in-4-f-2 : goal.returns-in-4-f-2
returns-in-4-f-2 c = value-known c.in-CommandWatchScalableTopicsUpdate.is c.in-4-f-2.is refl

pub returns-in-5-f : goal.returns-in-5-f
returns-in-5-f c = value-known c.in-CommandWatchScalableTopicsUpdate.is c.in-5-f.is refl

pub returns-in_default-f-5 : goal.returns-in_default-f-5
returns-in_default-f-5 c = value-unknown _ c.in-CommandWatchScalableTopicsUpdate.is (omega arith) refl

pub returns-in-1-f-6 : goal.returns-in-1-f-6
returns-in-1-f-6 c = value-known c.in-ScalableTopicsSnapshot.is c.in-1-f-6.is refl

pub returns-in_default-f-6 : goal.returns-in_default-f-6
returns-in_default-f-6 c = value-unknown _ c.in-ScalableTopicsSnapshot.is (omega arith) refl

pub returns-in-1-f-7 : goal.returns-in-1-f-7
returns-in-1-f-7 c = value-known c.in-ScalableTopicsDiff.is c.in-1-f-7.is refl

pub returns-in-2-f-6 : goal.returns-in-2-f-6
returns-in-2-f-6 c = value-known c.in-ScalableTopicsDiff.is c.in-2-f-6.is refl

pub returns-in_default-f-7 : goal.returns-in_default-f-7
returns-in_default-f-7 c = value-unknown _ c.in-ScalableTopicsDiff.is (omega arith) refl
