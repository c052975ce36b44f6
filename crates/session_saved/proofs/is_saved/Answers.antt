-- `saved::is_saved` meets its contract: a test after the other.
-- Assumes nothing.
use Prim.Native.Nat.{◌-◌}
use native.Mathlib.Omega.{arith}
use mathlib.Core.Path.{sym}
use lib.ListN.{length}
use lib.Seq.{length-take-le}
use Rattle.session_saved.proofs.CallLaws.{saved-short, no-mark, no_length, sum-decides}
use Rattle.session_saved.proofs.is_saved.Goals as goal

pub returns-then-size : goal.returns-then-size
returns-then-size c = saved-short _ c.if-size.true

pub returns-then-read_u32-ne-MARK : goal.returns-then-read_u32-ne-MARK
returns-then-read_u32-ne-MARK c =
    let a = c in no-mark _ a.if-size.false a.read_u32.result a.read_u32.ensures c.if-read_u32-ne-MARK.true

pub returns-then-read_u32-size : goal.returns-then-read_u32-size
returns-then-read_u32-size c =
    let b = c in
    let m = b in
    let a = m in
    no_length _ a.if-size.false a.read_u32.result a.read_u32.ensures m.if-read_u32-ne-MARK.false b.read_u32-2.result
    b.read_u32-2.ensures c.if-read_u32-size.true

pub slice_bounds-crc32-length : goal.slice_bounds-crc32-length
slice_bounds-crc32-length c =
    let f = c.args.bytes.now in
    sym (length-take-le (length f - 4) f (omega arith))

pub returns : goal.returns
returns c =
    let d = c in
    let l = d in
    let b = l in
    let m = b in
    let a = m in
    sum-decides _ a.if-size.false a.read_u32.result a.read_u32.ensures m.if-read_u32-ne-MARK.false b.read_u32-2.result
    b.read_u32-2.ensures l.if-read_u32-size.false d.read_u32-3.result c.crc32.result d.read_u32-3.ensures c.crc32.ensures
