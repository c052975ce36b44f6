-- `hex_word` meets its contract: the values of four digits and, of those that are letters, 39 more.
-- Assumes nothing.
use borrow.Author.Rules.{rules}
use Rattle.name_topic.proofs.CompareLaws.{letters-most, hex-word}
use Rattle.name_topic.proofs.descriptor.hex_word.Goals as goal

pub overflow_mul-result : goal.overflow_mul-result
overflow_mul-result c = search (rules, letters-most c.args.v)

pub overflow_add-result-2 : goal.overflow_add-result-2
overflow_add-result-2 c = search (rules, letters-most c.args.v)

pub returns : goal.returns
returns c = hex-word c.args.v
