-- `class_in` meets its contract: the table has the class of each byte at its place.
-- Assumes nothing.
use borrow.Author.Rules.{rules}
use Rattle.name_parents.proofs.class.class_in.Goals as goal

pub returns : goal.returns
returns c = c.requires c.args.b (search rules)
