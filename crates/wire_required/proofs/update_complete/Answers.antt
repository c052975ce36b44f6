-- `update_complete` meets its contract: the number and the assignment are looked for. Assumes nothing.
use mathlib.Core.Path.{sym, ◌∙◌}
use Rattle.wire_schema.proofs.RequiredLaws.{update-is}
use Rattle.wire_required.proofs.update_complete.Goals as goal

pub returns : goal.returns
returns c =
    let r = c in
    c.both-2.ensures
    ∙ rw (
      c.both.ensures,
      r.has_part-there.ensures,
      r.assignment_complete-assignment.ensures,
      r.has_number-consumer.ensures,
    )
    (sym (update-is _))
