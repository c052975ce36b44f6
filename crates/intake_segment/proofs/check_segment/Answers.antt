-- `check_segment` meets its contract. Assumes nothing.
use mathlib.Core.Path.{sym, ◌∙◌}
use Rattle.intake_segment.proofs.CheckLaws.{range-bad, range-valid}
use Rattle.intake_segment.proofs.check_segment.Goals as goal

pub returns-in-Err : goal.returns-in-Err
returns-in-Err c =
    range-bad _ c.requires.scan_of.head (sym c.new.ensures ∙ c.in-Err.is)

pub returns-in-Ok : goal.returns-in-Ok
returns-in-Ok c =
    range-valid _ c.requires.scan_of.head (sym c.new.ensures ∙ c.in-Ok.is)
    c.check_buckets.ensures
