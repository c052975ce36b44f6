-- `wide_bucket` meets its contract: each test of the word is one of a byte. Assumes nothing.
use native.Mathlib.Omega.{arith}
use mathlib.Core.Path.{refl}
use Rattle.intake_ordered_bucket.specs.Buckets.{WordIs}
use Rattle.intake_ordered_bucket.proofs.BucketLaws.{wide-bucket, wide-told}
use Rattle.intake_ordered_bucket.proofs.wide_bucket.Goals as goal

pub returns : goal.returns
returns c =
    wide-told c.range_of.result c.range_of.ensures
    (wide-bucket (λ i. (c.type_inv.p i).fits) (c.bucket_word-w.ensures (omega (arith, c.if-w-ne8.false))) c.if-p-at-ne42.false c.if-p-at-ne8.false c.if-w-ne8.false c.if-w-ne16.false
    c.if-w-ne1.false c.if-w-ne1-2.false c.if-w-ne0.false c.if-w-ne1-3.false c.if-w-ne1-4.false c.if-w-ne0-2.false refl refl)

pub bounds-p-at : goal.bounds-p-at
bounds-p-at c = let h : WordIs c.args.p.now c.args.at c.bucket_word-w.result = c.bucket_word-w.ensures (omega (arith, c.if-w-ne8.false)) in omega (arith, h.within)

pub overflow_add-at : goal.overflow_add-at
overflow_add-at c = let h : WordIs c.args.p.now c.args.at c.bucket_word-w.result = c.bucket_word-w.ensures (omega (arith, c.if-w-ne8.false)) in omega (arith, h.within)

pub bounds-p-at-else-p-at-ne42 : goal.bounds-p-at-else-p-at-ne42
bounds-p-at-else-p-at-ne42 c = let h : WordIs c.args.p.now c.args.at c.bucket_word-w.result = c.bucket_word-w.ensures (omega (arith, c.if-w-ne8.false)) in omega (arith, h.within)
