-- `first_fault` meets its contract: the usual form, or `scan` to the depth of the kind, then the look for required fields. Assumes nothing.
use Rattle.std.proofs.lemmas.Result.{err_from_is_err_and}
use mathlib.Core.Path.{sym, ◌∙◌}
use mathlib.Core.Bool.{true, false}
use Rattle.wire_messages.proofs.ScanLaws.{first-refused, first-complete}
use Rattle.wire_messages.proofs.first_fault.Goals as goal

pub returns-else-is_complete : goal.returns-else-is_complete
returns-else-is_complete c =
    let p = c in
    first-complete _ _ _ p.nesting-depth.ensures (sym p.scan.ensures ∙ c.in_ok-scan.was) false
    (sym c.is_complete.ensures ∙ c.if-is_complete.false)

pub returns-then-is_ordered_command : goal.returns-then-is_ordered_command
returns-then-is_ordered_command c = sym (c.is_ordered_command.ensures c.if-is_ordered_command.true)

pub returns-in_err-scan : goal.returns-in_err-scan
returns-in_err-scan c = let p = c in
    let r = err_from_is_err_and c.from_residual.result c.from_residual.ensures.1 in rw (r.1, r.2) (first-refused _ _ _ p.nesting-depth.ensures _ (sym p.scan.ensures ∙ c.in_err-scan.was))

pub returns-then-is_complete : goal.returns-then-is_complete
returns-then-is_complete c = let p = c in
    first-complete _ _ _ p.nesting-depth.ensures (sym p.scan.ensures ∙ c.in_ok-scan.was) true
    (sym c.is_complete.ensures ∙ c.if-is_complete.true)
