-- `hours::span_at` meets its contract: the two numbers that were read are the span.
-- Assumes nothing.
use Rattle.hours.proofs.SpanLaws.{span-read}
use Rattle.hours.proofs.span_at.Goals as goal

pub returns : goal.returns
returns c = let a = c.args in
    span-read a.s.now a.at c.read_u64-start.result c.read_u64-end.result c.read_u64-start.ensures
    c.read_u64-end.ensures
