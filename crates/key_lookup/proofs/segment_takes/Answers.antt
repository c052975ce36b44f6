-- `lookup::segment_takes` meets its contract: the range, then the count, pick the case of `takes` (proofs/TakesLaws).
-- Assumes nothing.
use native.Mathlib.Omega.{arith}
use mathlib.Core.Path.{sym, ◌∙◌}
use lib.ListN.{drop}
use borrow.Author.Tests.{eq-eqb}
use Rattle.key_lookup.proofs.TakesLaws.{counted-size, takes-outside, takes_whole, takes-bucketed}
use Rattle.packed.specs.Assignment.{decode_segment}
use Rattle.packed.proofs.AssignmentLaws.{size-least}
use Rattle.key_lookup.proofs.segment_takes.Goals as goal

pub range_at-requires : goal.range_at-requires
range_at-requires c = omega (arith, size-least (decode_segment (drop c.args.p c.args.s.now)))

pub returns-then-not-holds_hash : goal.returns-then-not-holds_hash
returns-then-not-holds_hash c =
    takes-outside c.args.s.now c.args.p c.args.hash c.range_at.result c.range_at.ensures
    (sym c.holds_hash.ensures ∙ c.if-not-holds_hash.true)

pub read_u16-count-requires : goal.read_u16-count-requires
read_u16-count-requires c = omega (arith, size-least (decode_segment (drop c.args.p c.args.s.now)))

pub returns-then-count-eq0 : goal.returns-then-count-eq0
returns-then-count-eq0 c =
    eq-eqb c.read_u16-count.result 0 c.if-count-eq0.true
    ∙ takes_whole c.args.s.now c.args.p c.args.hash c.range_at.result c.range_at.ensures c.read_u16-count.result c.read_u16-count.ensures
    (sym c.holds_hash.ensures ∙ c.if-not-holds_hash.false) c.if-count-eq0.true

pub bucket_holds-requires : goal.bucket_holds-requires
bucket_holds-requires c =
    omega (arith, counted-size c.args.s.now c.args.p c.read_u16-count.result c.read_u16-count.ensures)

pub returns-else-count-eq0 : goal.returns-else-count-eq0
returns-else-count-eq0 c =
    c.bucket_holds.ensures
    ∙ takes-bucketed c.args.s.now c.args.p c.args.hash c.range_at.result c.range_at.ensures c.read_u16-count.result c.read_u16-count.ensures
    (sym c.holds_hash.ensures ∙ c.if-not-holds_hash.false) c.if-count-eq0.false
