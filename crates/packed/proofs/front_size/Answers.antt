-- `packed::front_size` meets its contract: a test after the other. Assumes nothing.
use native.Mathlib.Omega.{arith}
use Rattle.packed.proofs.FrontLaws.{size-short, size_room, size-empty, size-records}
use Rattle.packed.proofs.front_size.Goals as goal

pub returns-then-end-lt-ASSIGNMENT_HEAD : goal.returns-then-end-lt-ASSIGNMENT_HEAD
returns-then-end-lt-ASSIGNMENT_HEAD c = size-short c.args.s.now (rw c.min-end.ensures at c.if-end-lt-ASSIGNMENT_HEAD.true)

pub returns-then-end-count : goal.returns-then-end-count
returns-then-end-count c =
    let r = c in
    let m = r in
    size_room m.args.s.now _ _ m.min-end.ensures r.read_u16-count.ensures c.if-end-count.true

pub returns-then-count-eq0 : goal.returns-then-count-eq0
returns-then-count-eq0 c =
    let r = c in
    let m = r in
    size-empty m.args.s.now _ _ m.min-end.ensures r.read_u16-count.ensures c.if-count-eq0.true r.if-end-lt-ASSIGNMENT_HEAD.false

pub returns : goal.returns
returns c =
    let r = c in
    let m = r in
    size-records m.args.s.now _ _ m.min-end.ensures r.read_u16-count.ensures c.records_end.ensures

pub read_u16-count-requires : goal.read_u16-count-requires
read_u16-count-requires c = omega (arith, c.min-end.ensures)

pub records_end-requires : goal.records_end-requires
records_end-requires c = (omega arith, omega arith, omega (arith, c.min-end.ensures))
