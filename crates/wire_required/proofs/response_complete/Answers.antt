-- `response_complete` meets its contract: the number and the assignment are looked for. Assumes nothing.
use mathlib.Core.Path.{sym, ◌∙◌}
use Rattle.wire_schema.proofs.RequiredLaws.{response-is}
use Rattle.wire_required.proofs.response_complete.Goals as goal

pub returns : goal.returns
returns c =
    let r = c in
    c.both.ensures
    ∙ rw (
      c.either.ensures,
      r.has_part-there.ensures,
      r.assignment_complete-assignment.ensures,
      r.has_number-request.ensures,
    )
    (sym (response-is _))
