-- Laws of the walk over a segment: what it has kept of the buckets and written of them.
--
-- In order: what is written, of a range (`range-written`) and of a bucket (`written-by`, and from it the length, what is kept, and the
-- bytes of a valid one); the ranges from a place on (`ranges_from`, `ranges-next`); the walk's state (`Scanned`) at the start
-- (`scanned-start`), where no bucket stands (`scanned-stays`), at a bucket (`scanned-next`) and at the end (`scanned-done`).
-- Assumes nothing.
use Prim.Native.Nat.{ℕ, ◌+◌, ◌-◌, ◌*◌, ◌/◌, ◌≤◌, ◌<◌}
use native.Mathlib.Nat.{add-sub_cancel_left}
use native.Mathlib.Omega.{arith}
use mathlib.Core.Path.{◌≡◌, refl, sym, ap, subst, ◌∙◌}
use mathlib.Core.Bool.{Bool, true, false, cond, ◌&&◌}
use mathlib.Core.List.{List, [], ◌∷◌, ◌++◌, map}
use lib.ListN.{length, take, drop, length-append, length-map}
use lib.Seq.{take-append-le, take-take, length-take-le}
use lib.Dec.{ltb}
use borrow.Author.Tests.{lt-ltb, ltb-true}
use Rattle.topic_types.specs.declared.KeyRange.{KeyRange}
use Rattle.slice_int.specs.Be.{bytes_of}
use Rattle.slice_int.specs.Put.{put}
use Rattle.slice_int.proofs.BeLaws.{length-bytes_of}
use Rattle.slice_int.proofs.PutLaws.{length-put, put-nil, put-after}
use Rattle.packed.specs.Assignment.{encode_range, encode_ranges}
use Rattle.wire_values.proofs.FrontLaws.{parts_from, PartAt, part_same}
use Rattle.wire_values.proofs.WalkLaws.{Kept, kept-done, kept_next}
use Rattle.wire_readers.specs.declared.IntRange.{IntRange}
use Rattle.wire_readers.specs.declared.SegmentHead.{SegmentHead}
use Rattle.wire_readers.specs.Messages.{int_range_of, read_segment}
use Rattle.wire_readers.specs.Places.{SegmentIs}
use Rattle.intake_content.specs.Content.{bucket_ok, bucket_of}
use Rattle.intake_scan.specs.declared.BucketRun.{BucketRun}
use Rattle.intake_scan.specs.declared.SegmentScan.{SegmentScan}
use Rattle.intake_scan.specs.Scan.{no_buckets, with_bucket, run_of, bucket_written, ScanIs}
use Rattle.intake_scan.proofs.RunLaws.{bucket-valid, valid-next, count_most, run-count}

-- ---- what is written

length-range : (r : KeyRange) → length (encode_range r) ≡ 4
unfolding encode_range
length-range r = length-append (bytes_of 2 r.start) (bytes_of 2 r.end) ∙ simp length-bytes_of

length-ranges : (rs : List KeyRange) → length (encode_ranges rs) ≡ 4 * length rs
unfolding encode_ranges
length-ranges [] = refl
length-ranges (r ∷ rs) = length-append (encode_range r) (encode_ranges rs) ∙ omega (arith, length-range r, length-ranges rs)

-- two bytes and two bytes, one behind the other
pub range-written : (o p q : List ℕ) (at : ℕ) (r : KeyRange) → at + 4 ≤ length o → p ≡ put o at (bytes_of 2 r.start)
    → q ≡ put p (at + 2) (bytes_of 2 r.end) → q ≡ put o at (encode_range r)
unfolding encode_range
range-written o p q at r h e g =
    let A : List ℕ = bytes_of 2 r.start in
    let B : List ℕ = bytes_of 2 r.end in
    let a : length A ≡ 2 = length-bytes_of 2 r.start in
    let b : length B ≡ 2 = length-bytes_of 2 r.end in
    g
    ∙ ap (λ (l : List ℕ). put l (at + 2) B) e
    ∙ ap (λ (k : ℕ). put (put o at A) (at + k) B) (sym a)
    ∙ put-after o at A B (omega arith)

-- what stands before the place is as before
take-before : (o : List ℕ) (at k : ℕ) (A : List ℕ) → at ≤ k → k ≤ length o → take at (put o k A) ≡ take at o
unfolding put
take-before o at k A h g =
    take-append-le at (take k o) (A ++ drop (k + length A) o) (omega (arith, length-take-le k o g)) ∙ take-take at k o h

-- a bucket behind others, in a buffer with room for some from the place at on
module _ (o b : List ℕ) (at : ℕ) (h : at ≤ length o) (l : length b ≡ length o) (run : BucketRun) (r : IntRange) where
  abbrev room : ℕ
  room = (length o - at) / 4

  -- what holds of the buffer as it was, and of the buffer with the bucket, holds of what is written
  written-by : (P : List ℕ → Type 0) → P b
      → (at + 4 * run.count + 4 ≤ length o → P (put b (at + 4 * run.count) (encode_range (bucket_of r))))
      → P (bucket_written run r b at room)
  written-by P x y = go (run.valid && bucket_ok r) (ltb run.count room) refl
    where
      go : (s t : Bool) → ltb run.count room ≡ t
          → P (cond s (cond t (put b (at + 4 * run.count) (encode_range (bucket_of r))) b) b)
      go true true e = y (let g : run.count < room = ltb-true run.count room e in omega arith)
      go true false e = x
      go false t e = x

  written-long : length (bucket_written run r b at room) ≡ length o
  written-long =
      written-by (λ m. length m ≡ length o) l
      (λ g. length-put b (at + 4 * run.count) (encode_range (bucket_of r)) (omega (arith, length-range (bucket_of r))) ∙ l)

  written-kept : take at b ≡ take at o → take at (bucket_written run r b at room) ≡ take at o
  written-kept e =
      written-by (λ m. take at m ≡ take at o) e
      (λ g. take-before b at (at + 4 * run.count) (encode_range (bucket_of r)) (omega arith) (omega arith) ∙ e)

  -- a valid bucket, with room for it and for those behind it
  written-valid : (rs : List KeyRange) → run.valid ≡ true → bucket_ok r ≡ true → at + 4 * (run.count + (1 + length rs)) ≤ length o
      → put b (at + 4 * run.count) (encode_ranges (bucket_of r ∷ rs))
      ≡ put (bucket_written run r b at room) (at + 4 * (run.count + 1)) (encode_ranges rs)
  unfolding encode_ranges
  written-valid rs g k e =
      let E : List ℕ = encode_range (bucket_of r) in
      let z : length E ≡ 4 = length-range (bucket_of r) in
      let n : at + 4 * run.count + length E ≡ at + 4 * (run.count + 1) = omega arith in
      let t : run.count < room = omega arith in
      sym (put-after b (at + 4 * run.count) E (encode_ranges rs) (omega (arith, length-ranges rs)))
      ∙ rw (n, g, k, lt-ltb run.count room t)

-- none are left
written_none : (b : List ℕ) (at : ℕ) → put b at (encode_ranges []) ≡ b
unfolding encode_ranges
written_none b at = put-nil b at

-- ---- the state of the walk

abbrev pub ranges_from : List ℕ → ℕ → List IntRange
ranges_from p at = map int_range_of (parts_from 5 p at)

abbrev pub ranges_in : List ℕ → List IntRange
ranges_in p = (read_segment p).bucket_ranges

-- the part of a bucket, `&p[begin..end]`
pub ranges-next : {p : List ℕ} {at f start len : ℕ} {r : IntRange} → PartAt p at f start len → f ≡ 5
    → r ≡ int_range_of (take (at + start + len - (at + start)) (drop (at + start) p))
    → ranges_from p at ≡ r ∷ ranges_from p (at + start + len)
ranges-next {p} {at} {f} {start} {len} q e g =
    rw (g, add-sub_cancel_left (at + start) len) (ap (map int_range_of) (part_same q 5 e))

-- at the place from, left being still to come of all the ranges, with the buffer b that was o
pub record Scanned (all left : List IntRange) (at : ℕ) (o b : List ℕ) (from : ℕ) (run : BucketRun) : Type 0 where
  pub ran : Kept with_bucket (run_of all) run left
  pub few : run.count ≤ from
  -- where there is room for all: with those that are left, all are written
  pub wrote : run.valid ≡ true → at + 4 * (run.count + length left) ≤ length o
      → put o at (encode_ranges (map bucket_of all)) ≡ put b (at + 4 * run.count) (encode_ranges (map bucket_of left))
  pub kept : take at b ≡ take at o
  pub long : length b ≡ length o

pub scanned-start : (p : List ℕ) (at : ℕ) (o : List ℕ) → Scanned (ranges_in p) (ranges_from p 0) at o o 0 no_buckets
unfolding run_of read_segment
scanned-start p at o =
    let z : at + 4 * 0 ≡ at = omega arith in
    record { ran = record { is = refl }; few = omega arith; wrote = λ g h. rw z; kept = refl; long = refl }

module _ {all left : List IntRange} {at : ℕ} {o b : List ℕ} {from : ℕ} {run : BucketRun} where
  pub scanned-stays : {rest : List IntRange} {next : ℕ} → left ≡ rest → from ≤ next → Scanned all left at o b from run
      → Scanned all rest at o b next run
  scanned-stays {rest} {next} e h k =
      let m = subst (λ (l : List IntRange). Scanned all l at o b from run) e k in
      record { ran = m.ran; few = omega (arith, k.few); wrote = m.wrote; kept = k.kept; long = k.long }

  -- one more bucket
  pub scanned-next : {rest : List IntRange} {next : ℕ} {r : IntRange} {run' : BucketRun} {b' : List ℕ} → left ≡ r ∷ rest → from < next
      → run' ≡ with_bucket run r → at ≤ length o → b' ≡ bucket_written run r b at ((length o - at) / 4) → Scanned all left at o b from run
      → Scanned all rest at o b' next run'
  scanned-next {rest} {next} {r} {run'} {b'} e h f i w k =
      let m = subst (λ (l : List IntRange). Scanned all l at o b from run) e k in
      record {
        ran = kept_next refl f m.ran;
        few = rw f (omega (arith, k.few, count_most run r));
        wrote = λ g j.
            let s = valid-next run r (rw f at g) in
            let n : run'.count ≡ run.count + 1 = ap (λ (x : BucketRun). x.count) (f ∙ bucket-valid run r s.0 s.1) in
            let l : length (map bucket_of rest) ≡ length rest = length-map rest bucket_of in
            m.wrote s.0 (omega arith)
            ∙ written-valid o b at i k.long run r (map bucket_of rest) s.0 s.1 (omega arith)
            ∙ rw (n, w);
        kept = rw w (written-kept o b at i k.long run r k.kept);
        long = rw w (written-long o b at i k.long run r);
      }

-- nothing is left
pub scanned-done : {p : List ℕ} {at : ℕ} {o b : List ℕ} {from : ℕ} {run : BucketRun} {head : SegmentHead} {r : SegmentScan}
    → r ≡ record { head = head; run = run } → SegmentIs p head → ranges_from p from ≡ []
    → Scanned (ranges_in p) (ranges_from p from) at o b from run → ScanIs p at o r b
scanned-done {p} {at} {o} {b} {from} {run} {head} {r} f s e k =
    let m = subst (λ (l : List IntRange). Scanned (ranges_in p) l at o b from run) e k in
    let u : run ≡ run_of (ranges_in p) = kept-done refl m.ran in
    rw f
    (record {
      head = s;
      run = u;
      wrote = λ g h.
          let n : (run_of (ranges_in p)).count ≡ length (ranges_in p) = run-count (ranges_in p) (rw u at g) in
          let c : run.count ≡ (run_of (ranges_in p)).count = ap (λ (x : BucketRun). x.count) u in
          sym (m.wrote g (omega arith) ∙ written_none b (at + 4 * run.count));
      kept = k.kept;
      long = k.long;
    })
