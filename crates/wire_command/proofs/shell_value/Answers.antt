-- `shell_value` meets its contract: each number has its row of the table, any other none. Assumes nothing.
use mathlib.Core.Path.{refl}
use native.Mathlib.Omega.{arith}
use Rattle.wire_command.proofs.ShellLaws.{shell-known, shell-unknown}
use Rattle.wire_command.proofs.shell_value.Goals as goal

pub returns-in-1 : goal.returns-in-1
returns-in-1 c = shell-known c.in-1.is refl

pub returns-in-74 : goal.returns-in-74
returns-in-74 c = shell-known c.in-74.is refl

pub returns-in-75 : goal.returns-in-75
returns-in-75 c = shell-known c.in-75.is refl

pub returns-in-77 : goal.returns-in-77
returns-in-77 c = shell-known c.in-77.is refl

pub returns-in_default : goal.returns-in_default
returns-in_default c = shell-unknown _ (omega arith)
