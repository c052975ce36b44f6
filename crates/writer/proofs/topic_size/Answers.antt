-- `topic_size` meets its contract. Assumes nothing.
use native.Mathlib.Omega.{arith}
use Rattle.name_topic.proofs.NameLaws.{decimal-length}
use Rattle.writer.proofs.SizeLaws.{length-topic}
use Rattle.writer.proofs.topic_size.Goals as goal

pub overflow_add-result-2 : goal.overflow_add-result-2
overflow_add-result-2 c = let a = c.args in omega (arith, c.well_formed, c.decimal_size.ensures, decimal-length a.id)

pub returns : goal.returns
returns c =
    let a = c.args in
    omega (arith, c.decimal_size.ensures, length-topic a.path.now a.range (record { 0 = a.id }))
