-- `segment_outside` meets its contract: range and count are read from the record's head. Assumes nothing.
use native.Mathlib.Omega.{arith}
use mathlib.Core.Path.{refl}
use Rattle.slice_int.specs.Be.{be_at}
use Rattle.packed.proofs.AssignmentLaws.{Seen}
use Rattle.writer.proofs.FieldLaws.{head-inside, buckets-inside}
use Rattle.writer.proofs.OutsideLaws.{outside-at}
use Rattle.writer.proofs.segment_outside.Goals as goal

pub range_at-range-requires : goal.range_at-range-requires
range_at-range-requires c = omega (arith, head-inside c.args.s.now c.args.p c.requires)

pub read_u16-count-requires : goal.read_u16-count-requires
read_u16-count-requires c = omega (arith, head-inside c.args.s.now c.args.p c.requires)

pub bucket_outside-requires : goal.bucket_outside-requires
bucket_outside-requires c =
    let a = c.args in
    let x : Seen a.s.now a.p (be_at 8 a.s.now a.p) c.range_at-range.result c.read_u16-count.result =
    record { id-is = refl; range-is = c.range_at-range.ensures; count-is = c.read_u16-count.ensures } in
    omega (arith, buckets-inside a.s.now a.p _ _ _ x c.requires)

pub returns : goal.returns
returns c =
    outside-at c.args.s.now c.args.p _ _ c.range_at-range.ensures c.read_u16-count.ensures c.bucket_outside.ensures
