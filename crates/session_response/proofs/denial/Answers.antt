-- `session_response::denial` meets its contract.
-- Assumes nothing.
use borrow.Author.Rules.{rules}
use mathlib.Core.Path.{◌≡◌, ap}
use mir.Syntax.{w32}
use mir.Val.{to_z, of_z}
use Rattle.refusal.specs.declared.Refusal.TheVariants.{Broker}
use Rattle.session_response.proofs.denial.Goals as goal

pub returns-in-Some : goal.returns-in-Some
returns-in-Some c =
    let a : to_z w32 (of_z w32 c.in-Some.code) ≡ c.in-Some.code = search rules in
    rw c.in-Some.is (ap Broker a)

pub returns-in-None : goal.returns-in-None
returns-in-None c = rw c.in-None.is
