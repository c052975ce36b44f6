-- `next_bucket` meets its contract: behind a bucket that failed nothing happens, a bucket that fails is not written. Assumes nothing.
use native.Mathlib.Omega.{arith}
use mathlib.Core.Path.{◌≡◌, sym, ◌∙◌}
use mathlib.Core.Bool.{true, false}
use borrow.Author.Tests.{not-true, not-false}
use Rattle.intake_content.specs.Content.{bucket_ok}
use Rattle.intake_scan.proofs.BucketLaws.{bucket-fits}
use Rattle.intake_scan.proofs.RunLaws.{bucket-behind, bucket-valid, bucket-bad}
use Rattle.intake_scan.proofs.next_bucket.Goals as goal

pub returns-then-not-run : goal.returns-then-not-run
returns-then-not-run c =
    let a = c.args in
    let g : a.run.valid ≡ false = not-true _ c.if-not-run.true in
    (sym (bucket-behind a.run a.r g), rw g)

pub returns-then-not-is_bucket : goal.returns-then-not-is_bucket
returns-then-not-is_bucket c =
    let a = c.args in
    let g : a.run.valid ≡ true = not-false _ c.if-not-run.false in
    let o : bucket_ok a.r ≡ false = sym c.is_bucket.ensures ∙ c.if-not-is_bucket.true in
    (sym (bucket-bad a.run a.r g o), rw (g, o))

pub write_bucket-requires : goal.write_bucket-requires
write_bucket-requires c =
    let a = c.args in
    let o : bucket_ok a.r ≡ true = sym c.is_bucket.ensures ∙ c.if-not-is_bucket.false in
    let f = bucket-fits a.r.start a.r.end o in
    record { room_in_bounds = c.requires.room_in_bounds; start_bound = rw c.key_range_of-range.ensures (omega arith, f.1) }

pub returns : goal.returns
returns c =
    let a = c.args in
    let g : a.run.valid ≡ true = not-false _ c.if-not-run.false in
    let o : bucket_ok a.r ≡ true = sym c.is_bucket.ensures ∙ c.if-not-is_bucket.false in
    let k = c.key_range_of-range.ensures in (
      rw (c.above.ensures, k) (sym (bucket-valid a.run a.r g o)),
      rw (g, o) (rw k at c.write_bucket.ensures),
    )
