-- Public: the number and the attached numbers of each refusal (01, Refused for the input, Refused for the state).
--
-- `number_of` is 01's number. `values_of` are the attached numbers, "those of the Rust's variant, else none", in the order of the Rust's fields,
-- as integers: bucket ends and broker codes may be negative. Of an invalid range the kind comes before that kind's own numbers. 34 (02 e) has
-- "segment id and bucket index (from 0)". "Number 5 is retired" (02 b): no refusal has it. Numbers from 64 on are
-- no paper's but this project's own.
-- Assumes nothing.
use Rattle.std.specs.Prelude.{ℕ, List, [], ◌∷◌, map, ℤ, pos}
use Rattle.topic_types.specs.declared.SegmentId.{SegmentId}
use Rattle.topic_types.specs.declared.ControllerIncarnation.{ControllerIncarnation}
use Rattle.topic_types.specs.declared.KeyRangeError.{KeyRangeError}
use Rattle.topic_types.specs.KeyRanges.{error_kind, error_numbers}
use Rattle.refusal.specs.declared.Refusal.{Refusal}
use Rattle.refusal.specs.declared.Refusal.TheVariants.{StoreTooShort, OutputTooShort, InvalidWireFormat, WrongWireType}
use Rattle.refusal.specs.declared.Refusal.TheVariants.{MissingField, InvalidUtf8, IdentityTooLong, InvalidRange, InvalidKeyRange}
use Rattle.refusal.specs.declared.Refusal.TheVariants.{InvalidBucketRange, OverlappingBucketRanges, InvalidParent, AttachmentMismatch}
use Rattle.refusal.specs.declared.Refusal.TheVariants.{DuplicateSegment, AssignmentTooLong, Broker, Empty, EmptyUpdate, InvalidSegment}
use Rattle.refusal.specs.declared.Refusal.TheVariants.{SegmentIdMismatch, MalformedInput, ResultTooLong, MalformedStore, IncarnationMismatch}
use Rattle.refusal.specs.declared.Refusal.TheVariants.{ConsumerMismatch, NonAdvancingIncarnation, CrossIncarnationEpochRegression, StaleEpoch}
use Rattle.refusal.specs.declared.Refusal.TheVariants.{PreBaselineBufferFull, WatchMismatch, MalformedSet, SetTooLong, KeyTooLong}
use Rattle.refusal.specs.declared.Refusal.TheVariants.{UnknownReader, BucketOutsideSegment, InvalidContract, ChargeTooLarge, InvalidLog}
use Rattle.refusal.specs.declared.Refusal.TheVariants.{InvalidWindow, MalformedSave}

abbrev pub number_of : Refusal → ℕ
number_of StoreTooShort = 1
number_of OutputTooShort = 2
number_of InvalidWireFormat = 3
number_of WrongWireType = 4
number_of MissingField = 6
number_of InvalidUtf8 = 7
number_of IdentityTooLong = 8
number_of (InvalidRange id source) = 9
number_of (InvalidKeyRange source) = 9
number_of (InvalidBucketRange id index start end) = 10
number_of (OverlappingBucketRanges id) = 11
number_of InvalidParent = 12
number_of (AttachmentMismatch id) = 13
number_of (DuplicateSegment id) = 14
number_of AssignmentTooLong = 15
number_of (Broker code) = 16
number_of (Empty request) = 17
number_of (EmptyUpdate watch) = 17
number_of InvalidSegment = 18
number_of (SegmentIdMismatch id topic) = 19
number_of MalformedInput = 20
number_of ResultTooLong = 21
number_of MalformedStore = 22
number_of (IncarnationMismatch got expected) = 23
number_of (ConsumerMismatch got expected) = 24
number_of (NonAdvancingIncarnation got prev) = 25
number_of (CrossIncarnationEpochRegression got floor) = 26
number_of (StaleEpoch got prev) = 27
number_of (PreBaselineBufferFull max) = 28
number_of (WatchMismatch got expected) = 29
number_of MalformedSet = 30
number_of SetTooLong = 31
number_of KeyTooLong = 32
number_of UnknownReader = 33
number_of (BucketOutsideSegment id index) = 34
number_of InvalidContract = 35
number_of ChargeTooLarge = 36
number_of InvalidLog = 37
number_of InvalidWindow = 38
number_of MalformedSave = 64

-- the kind of an invalid range, then that kind's numbers
abbrev pub source_values : KeyRangeError → List ℤ
source_values e = pos (error_kind e) ∷ map pos (error_numbers e)

abbrev pub id_value : SegmentId → ℤ
id_value id = pos id.0

abbrev pub link_value : ControllerIncarnation → ℤ
link_value link = pos link.0

abbrev pub values_of : Refusal → List ℤ
values_of StoreTooShort = []
values_of OutputTooShort = []
values_of InvalidWireFormat = []
values_of WrongWireType = []
values_of MissingField = []
values_of InvalidUtf8 = []
values_of IdentityTooLong = []
values_of (InvalidRange id source) = id_value id ∷ source_values source
values_of (InvalidKeyRange source) = source_values source
values_of (InvalidBucketRange id index start end) = id_value id ∷ pos index ∷ start ∷ end ∷ []
values_of (OverlappingBucketRanges id) = id_value id ∷ []
values_of InvalidParent = []
values_of (AttachmentMismatch id) = id_value id ∷ []
values_of (DuplicateSegment id) = id_value id ∷ []
values_of AssignmentTooLong = []
values_of (Broker code) = code ∷ []
values_of (Empty request) = pos request ∷ []
values_of (EmptyUpdate watch) = pos watch ∷ []
values_of InvalidSegment = []
values_of (SegmentIdMismatch id topic) = id_value id ∷ id_value topic ∷ []
values_of MalformedInput = []
values_of ResultTooLong = []
values_of MalformedStore = []
values_of (IncarnationMismatch got expected) = link_value got ∷ link_value expected ∷ []
values_of (ConsumerMismatch got expected) = pos got ∷ pos expected ∷ []
values_of (NonAdvancingIncarnation got prev) = link_value got ∷ link_value prev ∷ []
values_of (CrossIncarnationEpochRegression got floor) = pos got ∷ pos floor ∷ []
values_of (StaleEpoch got prev) = pos got ∷ pos prev ∷ []
values_of (PreBaselineBufferFull max) = pos max ∷ []
values_of (WatchMismatch got expected) = pos got ∷ pos expected ∷ []
values_of MalformedSet = []
values_of SetTooLong = []
values_of KeyTooLong = []
values_of UnknownReader = []
values_of (BucketOutsideSegment id index) = id_value id ∷ pos index ∷ []
values_of InvalidContract = []
values_of ChargeTooLarge = []
values_of InvalidLog = []
values_of InvalidWindow = []
values_of MalformedSave = []
