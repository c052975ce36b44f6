-- `is_bucket` meets its contract: each return is the case of `bucket_ok` that the tests before it leave. Assumes nothing.
use mathlib.Core.Path.{◌≡◌}
use borrow.Author.Rules.{rules}
use Rattle.std.specs.Int.Signed.{lt_z}
use lib.IntN.{pos}
use mathlib.Core.Bool.{false}
use mir.Syntax.{w32}
use mir.Val.{to_z, of_z}
use Rattle.intake_scan.proofs.BucketLaws.{negative-fails, high-fails, order-decides}
use Rattle.intake_scan.proofs.is_bucket.Goals as goal

pub returns-then-r-lt0 : goal.returns-then-r-lt0
returns-then-r-lt0 c =
    let r = c.args.r in
    let a : to_z w32 (of_z w32 r.start) ≡ r.start = search rules in
    negative-fails r.start r.end (rw a at c.if-r-lt0.true)

pub returns-then-r : goal.returns-then-r
returns-then-r c =
    let r = c.args.r in
    let a : to_z w32 (of_z w32 r.end) ≡ r.end = search rules in
    high-fails r.start r.end (rw a at c.if-r.true)

pub returns : goal.returns
returns c =
    let r = c.args.r in
    let a : to_z w32 (of_z w32 r.start) ≡ r.start = search rules in
    let b : to_z w32 (of_z w32 r.end) ≡ r.end = search rules in
    let low : lt_z (to_z w32 (of_z w32 r.start)) (pos 0) ≡ false = search rules in
    rw (a, b) (order-decides r.start r.end (rw a at low) (rw b at c.if-r.false))
