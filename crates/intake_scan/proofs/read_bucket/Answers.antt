-- `read_bucket` meets its contract: a range in its usual form has the two numbers that are read; any other is left to `read_range`.
-- Assumes nothing.
use Prim.Native.Nat.{◌+◌}
use native.Mathlib.Omega.{arith}
use mathlib.Core.Path.{◌≡◌, sym, ◌∙◌}
use borrow.Author.Rules.{rules}
use mir.Syntax.{w32}
use mir.Val.{to_z, of_z}
use Rattle.intake_scan.proofs.RangeLaws.{varint-at, usual-range}
use Rattle.intake_scan.proofs.read_bucket.Goals as goal

pub returns : goal.returns
returns c =
    let a : to_z w32 (of_z w32 c.int32.result) ≡ c.int32.result = search rules in
    let b : to_z w32 (of_z w32 c.int32-2.result) ≡ c.int32-2.result = search rules in
    let h = c.if-p-lt4.false in
    rw (a, b, c.int32.ensures, c.int32-2.ensures)
    (usual-range (omega arith) c.if-p-ne8.false (varint-at _ _ _ _ (sym c.read_short_varint.ensures ∙ c.in-Some.is)) c.if-p-second.false c.if-p-second-ne16.false (varint-at _ _ _ _ (sym c.read_short_varint-2.ensures ∙ c.in-Some-read_short_varint.is))
    c.if-third-n.false)

pub overflow_add-second : goal.overflow_add-second
overflow_add-second c = let h = varint-at c.args.p.now 1 c.in-Some.start c.in-Some.m (sym c.read_short_varint.ensures ∙ c.in-Some.is) in omega arith

pub overflow_add-third-2 : goal.overflow_add-third-2
overflow_add-third-2 c = let k = c.in-Some-read_short_varint in
    let h = varint-at c.args.p.now (1 + c.in-Some.m + 1) k.end k.n (sym c.read_short_varint-2.ensures ∙ k.is) in omega arith
