-- `check_fields` meets its contract. The invariant: the fields from `at` on decide. The measure is what is left of the command. Assumes nothing.
use Prim.Native.Nat.{◌-◌}
use mathlib.Core.Path.{◌≡◌}
use lib.ListN.{length, drop}
use Rattle.wire.specs.Fields.{fields_of}
use Rattle.wire_command.specs.Shell.{shell_fields}
use Rattle.wire_command.proofs.check_fields.Given as goal

abbrev pub invariant-loop-at : goal.invariant-loop-at
invariant-loop-at l = shell_fields (fields_of l.s) ≡ shell_fields (fields_of (drop l.at l.s))

abbrev pub decreases-loop-at : goal.decreases-loop-at
decreases-loop-at l = length l.s - l.at
