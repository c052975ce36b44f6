-- `read_command` meets its contract: the first 3 or 4, then the type or 6, then what stands in the type's field. Assumes nothing.
use Rattle.std.proofs.lemmas.Result.{err_from_is_err_and}
use Rattle.std.specs.Prelude.{Some, None}
use native.Mathlib.Omega.{arith}
use mathlib.Core.Path.{◌≡◌, sym, ◌∙◌}
use mir.Syntax.{w32}
use mir.Facts.{to_z-of_z}
use Rattle.wire_command.proofs.CommandLaws.{command-broken, command-typed, command-untyped}
use Rattle.wire_command.proofs.read_command.Goals as goal

pub returns-in_err-check_fields : goal.returns-in_err-check_fields
returns-in_err-check_fields c =
    let p = err_from_is_err_and c.from_residual.result c.from_residual.ensures.1 in
    rw (p.1, p.2) (command-broken _ _ (sym c.check_fields.ensures ∙ c.in_err-check_fields.was))

pub returns : goal.returns
returns c =
    let valid = sym c.check_fields.ensures ∙ c.in_ok-check_fields.was in
    let e : c.last_number.result ≡ Some c.in_ok-v.v = grind (arith, c.in_ok-v.was) in
    let number = sym e ∙ c.last_number.ensures in
    c.by_type.ensures ∙ command-typed _ valid _ number _ (to_z-of_z {w = w32} (record { sfits = c.int32.type_inv }) ∙ c.int32.ensures)

pub returns-in_err-v : goal.returns-in_err-v
returns-in_err-v c =
    let valid = sym c.check_fields.ensures ∙ c.in_ok-check_fields.was in
    let e : c.last_number.result ≡ None = grind (arith, c.in_err-v.was) in
    let h = command-untyped _ valid (sym e ∙ c.last_number.ensures) in
    grind (arith, h)
