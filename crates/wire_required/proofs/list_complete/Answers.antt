-- `list_complete` meets its contract: the epoch and the segments are looked for. Assumes nothing.
use mathlib.Core.Path.{sym, ◌∙◌}
use Rattle.wire.specs.Fields.{fields_of}
use Rattle.wire_schema.proofs.RequiredLaws.{assignment-is}
use Rattle.wire_required.proofs.list_complete.Goals as goal

pub returns : goal.returns
returns c =
    c.both.ensures
    ∙ rw (c.look-whole.ensures.0, c.look-whole.ensures.1)
    (sym (assignment-is 2 (fields_of c.args.s.now)))
