-- `write_head` meets its contract: three numbers, one behind the other. Assumes nothing.
use Rattle.intake_ordered.proofs.TakeLaws.{head-written}
use Rattle.intake_ordered.proofs.write_head.Goals as goal

pub returns : goal.returns
returns c =
    head-written c.args.id c.args.start c.args.end c.args.count _ _ _ _ c.args.at c.requires.record_head_in_bounds c.requires.start_bound.1
    c.write_u64.ensures c.write_u32.ensures c.write_u16.ensures
