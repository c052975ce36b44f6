-- Laws of `run_of`, the tests of a row of bucket ranges, over plain lists.
--
-- In order: one more bucket (`bucket-behind`, `bucket-valid`, `bucket-bad`, `valid-next`, `count_most`); more buckets behind any (`after`);
-- a whole row: where it is not valid, its fault (`run-bad`); where it is valid, it has none (`run-valid`), as many buckets as were counted
-- (`run-count`), each in order and inside the key space (`run_ok`), and where it rises no two share a value (`run-rising`).
-- Assumes nothing.
use Rattle.std.specs.Prelude.{Some, None}
use Prim.Native.Nat.{◌+◌, ◌≤◌}
use native.Mathlib.Omega.{arith}
use mathlib.Core.Path.{◌≡◌, refl, sym, ap, ◌∙◌}
use mathlib.Core.Bool.{Bool, true, false, cond, true≢false, false≢true}
use mathlib.Core.List.{List, [], ◌∷◌, map, foldl}
use lib.ListN.{length}
use lib.Dec.{leb}
use borrow.Author.Tests.{le-leb}
use Rattle.slice.specs.BoolLaws.{both_true}
use Rattle.topic_types.specs.declared.SegmentId.{SegmentId}
use Rattle.refusal.specs.declared.Refusal.TheVariants.{InvalidBucketRange}
use Rattle.ranges.specs.Overlap.{any_overlap, starts_from, rising_from}
use Rattle.ranges.proofs.OverlapLaws.{rising-apart}
use Rattle.packed.specs.Assignment.{all_in_order}
use Rattle.packed.proofs.AssignmentLaws.{rising-further}
use Rattle.packed.proofs.RoundLaws.{FitRanges}
use Rattle.wire_readers.specs.declared.IntRange.{IntRange}
use Rattle.intake_content.specs.Content.{bucket_ok, bucket_of, bucket_fault}
use Rattle.intake_scan.specs.declared.BucketRun.{BucketRun}
use Rattle.intake_scan.specs.Scan.{no_buckets, counted, failed, with_bucket, run_of}
use Rattle.intake_scan.proofs.BucketLaws.{bucket-fits}

-- ---- one more bucket

module _ (run : BucketRun) (r : IntRange) where
  pub bucket-behind : run.valid ≡ false → with_bucket run r ≡ run
  unfolding with_bucket
  bucket-behind g = rw g

  module _ (g : run.valid ≡ true) where
    pub bucket-valid : bucket_ok r ≡ true → with_bucket run r ≡ counted run r
    unfolding with_bucket
    bucket-valid o = rw (g, o)

    pub bucket-bad : bucket_ok r ≡ false → with_bucket run r ≡ failed run r
    unfolding with_bucket
    bucket-bad o = rw (g, o)

  -- valid again: it was valid before, and the bucket is
  pub valid-next : (with_bucket run r).valid ≡ true → (run.valid ≡ true) × (bucket_ok r ≡ true)
  valid-next e = go run.valid (bucket_ok r) refl refl
    where
      go : (s t : Bool) → run.valid ≡ s → bucket_ok r ≡ t → (run.valid ≡ true) × (bucket_ok r ≡ true)
      go true true g o = (g, o)
      go true false g o = absurd (false≢true (sym (ap (λ (x : BucketRun). x.valid) (bucket-bad g o)) ∙ e))
      go false t g o = absurd (false≢true (sym g ∙ sym (ap (λ (x : BucketRun). x.valid) (bucket-behind g)) ∙ e))

  pub count_most : (with_bucket run r).count ≤ run.count + 1
  unfolding with_bucket
  count_most = go run.valid (bucket_ok r)
    where
      go : (s t : Bool) → (cond s (cond t (counted run r) (failed run r)) run).count ≤ run.count + 1
      go true true = omega arith
      go true false = omega arith
      go false t = omega arith

-- ---- more buckets, behind any

abbrev after : BucketRun → List IntRange → BucketRun
after run rs = foldl with_bucket run rs

behind : (run : BucketRun) (rs : List IntRange) → run.valid ≡ false → after run rs ≡ run
behind run [] g = refl
behind run (r ∷ rs) g = ap (λ (x : BucketRun). after x rs) (bucket-behind run r g) ∙ behind run rs g

after-valid : (run : BucketRun) (r : IntRange) (rs : List IntRange) → run.valid ≡ true → bucket_ok r ≡ true
    → after run (r ∷ rs) ≡ after (counted run r) rs
after-valid run r rs g o = ap (λ (x : BucketRun). after x rs) (bucket-valid run r g o)

after-bad : (run : BucketRun) (r : IntRange) (rs : List IntRange) → run.valid ≡ true → bucket_ok r ≡ false
    → after run (r ∷ rs) ≡ failed run r
after-bad run r rs g o = ap (λ (x : BucketRun). after x rs) (bucket-bad run r g o) ∙ behind (failed run r) rs refl

-- what a valid row says of its first bucket, and of those behind it
record Parts (run : BucketRun) (r : IntRange) (rs : List IntRange) : Type 0 where
  ok : bucket_ok r ≡ true
  is : after run (r ∷ rs) ≡ after (counted run r) rs
  valid : (after (counted run r) rs).valid ≡ true

parts : (run : BucketRun) (r : IntRange) (rs : List IntRange) → run.valid ≡ true → (after run (r ∷ rs)).valid ≡ true → Parts run r rs
parts run r rs g e = go (bucket_ok r) refl
  where
    go : (t : Bool) → bucket_ok r ≡ t → Parts run r rs
    go true o = record { ok = o; is = after-valid run r rs g o; valid = sym (ap (λ (x : BucketRun). x.valid) (after-valid run r rs g o)) ∙ e }
    go false o = absurd (false≢true (sym (ap (λ (x : BucketRun). x.valid) (after-bad run r rs g o)) ∙ e))

count-after : (run : BucketRun) (rs : List IntRange) → run.valid ≡ true → (after run rs).valid ≡ true
    → (after run rs).count ≡ run.count + length rs
count-after run [] g e = omega arith
count-after run (r ∷ rs) g e =
    let p = parts run r rs g e in
    let q : (after (counted run r) rs).count ≡ run.count + 1 + length rs = count-after (counted run r) rs refl p.valid in
    ap (λ (x : BucketRun). x.count) p.is ∙ q ∙ omega arith

module _ (id : SegmentId) where
  none_after : (run : BucketRun) (rs : List IntRange) → run.valid ≡ true → (after run rs).valid ≡ true → bucket_fault id run.count rs ≡ None
  unfolding bucket_fault
  none_after run [] g e = refl
  none_after run (r ∷ rs) g e = let p = parts run r rs g e in rw p.ok (none_after (counted run r) rs refl p.valid)

  abbrev FaultAfter : BucketRun → List IntRange → Type 0
  FaultAfter run rs =
      (after run rs).valid ≡ false
      → bucket_fault id run.count rs
      ≡ Some (InvalidBucketRange id (after run rs).count (after run rs).last.start (after run rs).last.end)

  -- a row's first bucket, with what holds of those behind it
  fault-first : (run : BucketRun) (r : IntRange) (rs : List IntRange) → run.valid ≡ true → FaultAfter (counted run r) rs
      → (t : Bool) → bucket_ok r ≡ t → FaultAfter run (r ∷ rs)
  unfolding bucket_fault
  fault-first run r rs g k true o e =
      let f = after-valid run r rs g o in
      rw (o, f) (k (sym (ap (λ (x : BucketRun). x.valid) f) ∙ e))
  fault-first run r rs g k false o e = rw (o, after-bad run r rs g o)

  fault-after : (run : BucketRun) (rs : List IntRange) → run.valid ≡ true → FaultAfter run rs
  fault-after run [] g e = absurd (true≢false (sym g ∙ e))
  fault-after run (r ∷ rs) g e = fault-first run r rs g (fault-after (counted run r) rs refl) (bucket_ok r) refl e

-- each range in order, and its ends of two bytes
ok-after : (run : BucketRun) (rs : List IntRange) → run.valid ≡ true → (after run rs).valid ≡ true
    → (all_in_order (map bucket_of rs) ≡ true) × FitRanges (map bucket_of rs)
unfolding all_in_order
ok-after run [] g e = (refl, tt)
ok-after run (r ∷ rs) g e =
    let p = parts run r rs g e in
    let q = ok-after (counted run r) rs refl p.valid in
    let f = bucket-fits r.start r.end p.ok in
    (rw (le-leb (bucket_of r).start (bucket_of r).end f.0) q.0, (record { start = omega arith; end = omega arith }, q.1))

-- a row that rises rose before, and its ranges rise from there on
rising-after : (run : BucketRun) (rs : List IntRange) → run.valid ≡ true → (after run rs).valid ≡ true → (after run rs).rising ≡ true
    → (run.rising ≡ true) × (rising_from run.above (map bucket_of rs) ≡ true)
unfolding rising_from
rising-after run [] g e h = (h, refl)
rising-after run (r ∷ rs) g e h =
    let p = parts run r rs g e in
    let q = rising-after (counted run r) rs refl p.valid (sym (ap (λ (x : BucketRun). x.rising) p.is) ∙ h) in
    let w = both_true run.rising (leb run.above (bucket_of r).start) q.0 in
    let f = bucket-fits r.start r.end p.ok in
    let s : starts_from run.above (bucket_of r) ≡ true = rw w.1 (le-leb (bucket_of r).start (bucket_of r).end f.0) in
    (w.0, rising-further (bucket_of r) (map bucket_of rs) run.above ((bucket_of r).end + 1) s refl ∙ q.1)

-- ---- a whole row

module _ (rs : List IntRange) where
  pub run-bad : (id : SegmentId) → (run_of rs).valid ≡ false
      → bucket_fault id 0 rs ≡ Some (InvalidBucketRange id (run_of rs).count (run_of rs).last.start (run_of rs).last.end)
  unfolding run_of
  run-bad id g = fault-after id no_buckets rs refl g

  module _ (g : (run_of rs).valid ≡ true) where
    pub run-valid : (id : SegmentId) → bucket_fault id 0 rs ≡ None
    unfolding run_of
    run-valid id = none_after id no_buckets rs refl g

    pub run-count : (run_of rs).count ≡ length rs
    unfolding run_of
    run-count = count-after no_buckets rs refl g ∙ omega arith

    pub run_ok : (all_in_order (map bucket_of rs) ≡ true) × FitRanges (map bucket_of rs)
    unfolding run_of
    run_ok = ok-after no_buckets rs refl g

    pub run-rising : (run_of rs).rising ≡ true → any_overlap (map bucket_of rs) ≡ false
    unfolding run_of
    run-rising h = rising-apart 0 (map bucket_of rs) (rising-after no_buckets rs refl g h).1
