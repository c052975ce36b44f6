-- `check_inside` meets its contract. Assumes nothing.
use Rattle.intake_segment.proofs.CheckLaws.{outside-found, outside-none}
use Rattle.intake_segment.proofs.check_inside.Goals as goal

pub returns-in-Some : goal.returns-in-Some
returns-in-Some c =
    outside-found _ c.requires.segment_is c.first_outside.ensures c.in-Some.is

pub returns-in-None : goal.returns-in-None
returns-in-None c =
    outside-none _ c.requires.segment_is c.first_outside.ensures c.in-None.is c.check_name.ensures
