-- The record that goes out: it comes in again as it was, and each of its fields tells the field of its name.
-- Assumes nothing.
use Rattle.std.specs.Prelude.{ℕ, Option, Some, None}
use mathlib.Core.Path.{◌≡◌, refl}
use mathlib.Core.Bool.{Bool, true, false}
use Rattle.session.specs.declared.SessionRecord.{SessionRecord}
use Rattle.session_record.specs.Floors.{floor_value}
use Rattle.export_record.specs.Replies.{is_set, flag, floor_of, floor_is_set, record_of, export_record, RecordReturns, FieldsAgree}

flag-told : (b : Bool) → is_set (flag b) ≡ b
flag-told true = refl
flag-told false = refl

floor-agrees : (f : Option ℕ) → floor_of (floor_is_set f) (floor_value f) ≡ f
floor-agrees None = refl
floor-agrees (Some n) = refl

pub fields_told : (r : SessionRecord) → FieldsAgree r
unfolding export_record
fields_told r =
    record {
      consumer-agrees = refl;
      incarnation-agrees = refl;
      registered-agrees = flag-told r.registered;
      invalidated-agrees = flag-told r.invalidated;
      has-floor-agrees = flag-told (floor_is_set r.epoch_floor);
      floor-agrees = refl;
      queue-agrees = refl;
      positions-agrees = refl;
    }

pub record-returns : RecordReturns
unfolding record_of export_record
record-returns r =
    rw (flag-told r.registered) (rw (flag-told r.invalidated) (rw (flag-told (floor_is_set r.epoch_floor))
    (rw (floor-agrees r.epoch_floor) refl)))
