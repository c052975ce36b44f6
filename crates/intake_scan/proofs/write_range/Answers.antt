-- `write_range` meets its contract: two bytes, and two behind them. Assumes nothing.
use Rattle.intake_scan.proofs.ScanLaws.{range-written}
use Rattle.intake_scan.proofs.write_range.Goals as goal

pub returns : goal.returns
returns c =
    range-written _ _ _ c.args.at c.args.range c.requires.bucket_size_in_bounds c.write_u16.ensures c.write_u16-2.ensures
