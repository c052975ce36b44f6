-- The floor: an epoch that lies below it is refused by 26, any other is not.
-- Assumes nothing.
use Rattle.std.specs.Prelude.{Option, Some, None}
use Prim.Native.Nat.{ℕ}
use mathlib.Core.Path.{◌≡◌, refl}
use mathlib.Core.Bool.{true, false, false≢true}
use Rattle.refusal.specs.declared.Refusal.TheVariants.{CrossIncarnationEpochRegression}
use Rattle.session.specs.Session.{floor_fault}
use Rattle.session_record.specs.Floors.{below_floor, floor_value}

pub floor-below : (epoch : ℕ) (floor : Option ℕ) → below_floor epoch floor ≡ true
    → floor_fault epoch floor ≡ Some (CrossIncarnationEpochRegression epoch (floor_value floor))
floor-below epoch None e = absurd (false≢true e)
floor-below epoch (Some v) e = rw e

pub floor-met : (epoch : ℕ) (floor : Option ℕ) → below_floor epoch floor ≡ false → floor_fault epoch floor ≡ None
floor-met epoch None e = refl
floor-met epoch (Some v) e = rw e
