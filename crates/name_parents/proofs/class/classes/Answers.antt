-- `classes` meets its contract: the table's 256 entries are the values of `class_of`, which antt computes.
-- Assumes nothing.
use Rattle.name_parents.specs.Classes.{class_of}
use Rattle.name_parents.proofs.Table.{values-at}
use Rattle.name_parents.proofs.class.classes.Goals as goal

pub returns : goal.returns
unfolding class_of
returns c = values-at class_of 256
