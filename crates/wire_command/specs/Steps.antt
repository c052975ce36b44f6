-- Internal: cited by the contracts of helpers alone; whoever reads the claims may skip it.
-- Assumes nothing.
use Rattle.std.specs.Prelude.{ℕ, ◌+◌, cond, List, [], ◌∷◌, drop, Option, Some, None, Result, Ok, Err}
use Rattle.refusal.specs.declared.Refusal.TheVariants.{InvalidWireFormat, WrongWireType}
use Rattle.wire.specs.declared.Body.{Body}
use Rattle.wire.specs.declared.Body.TheVariants as body
use Rattle.wire.specs.Field.{body_of}
use Rattle.wire_schema.specs.Schema.{fits_wire}
use Rattle.wire_command.specs.declared.Found.{Found}
use Rattle.wire_command.specs.Shell.{shell_value}
use Rattle.wire_command.specs.Places.{Place}
use Rattle.refusal.specs.declared.Refusal.{Refusal}
use Rattle.wire.specs.declared.WireType.{WireType}

-- a field behind a key of n bytes
abbrev pub step_after : ℕ → Option Body → Result ℕ Refusal
step_after n (Some (body.Number v m)) = Ok (n + m)
step_after n (Some (body.Fixed m)) = Ok (n + m)
step_after n (Some (body.Part m len)) = Ok (n + (m + len))
step_after n None = Err InvalidWireFormat

-- the field at the front of a list, by its key
abbrev pub step_by : Option (ℕ × WireType × ℕ) → List ℕ → Result ℕ Refusal
step_by (Some (f, w, n)) l = cond (fits_wire (shell_value f) w) (step_after n (body_of w (drop n l))) (Err WrongWireType)
step_by None l = Err InvalidWireFormat

-- the number of places, and the last of them, behind those that were found before
abbrev pub found_after : Found → List Place → Found
found_after x [] = x
found_after x (p ∷ ps) = found_after (record { count = x.count + 1; start = p.start; length = p.length }) ps

unfoldable pub found_in : List Place → Found
found_in ps = found_after (record { count = 0; start = 0; length = 0 }) ps
