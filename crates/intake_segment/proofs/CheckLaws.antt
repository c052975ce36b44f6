-- Laws of the verdict on a segment, one for each way through its tests: the name (12, 13), the buckets inside the range (34), the buckets
-- (10, 11), the range (9).
--
-- What a test has said stands as an equation; the segment's numbers and buckets are those of the walk over it (`SegmentIs`, `ScanOf`).
-- Assumes nothing.
use Rattle.std.specs.Prelude.{Option, Some, None, ⊤, Result, Ok, Err}
use Prim.Native.Nat.{ℕ, ◌+◌, ◌-◌}
use native.Mathlib.Nat.{add-sub_cancel_left}
use native.Mathlib.Omega.{arith}
use mathlib.Core.Path.{◌≡◌, refl, sym, ap, subst, ◌∙◌}
use mathlib.Core.Bool.{Bool, true, false, cond}
use mathlib.Core.List.{List, [], ◌∷◌, map}
use lib.ListN.{length, take, drop}
use borrow.Author.Tests.{leb-true}
use Rattle.slice.specs.BoolLaws.{both_true}
use Rattle.slice.specs.Same.{same_bytes}
use Rattle.slice.proofs.PartLaws.{rest}
use Rattle.topic_types.specs.declared.KeyRange.{KeyRange}
use Rattle.topic_types.specs.declared.KeyRangeError.{KeyRangeError}
use Rattle.topic_types.specs.declared.SegmentId.{SegmentId}
use Rattle.topic_types.specs.KeyRanges.{key_range, new_key_range}
use Rattle.refusal.specs.declared.Refusal.{Refusal}
use Rattle.refusal.specs.declared.Refusal.TheVariants.{InvalidRange, InvalidBucketRange, OverlappingBucketRanges}
use Rattle.refusal.specs.declared.Refusal.TheVariants.{InvalidParent, AttachmentMismatch, BucketOutsideSegment}
use Rattle.ranges.specs.Overlap.{any_overlap}
use Rattle.ranges_marks.specs.Marks.{AllValid, more}
use Rattle.packed.specs.Assignment.{is_in_order, all_in_order}
use Rattle.packed.proofs.RoundLaws.{FitRanges}
use Rattle.name_parents.specs.Parents.{is_parent}
use Rattle.name_topic.specs.Names.{segment_topic}
use Rattle.keyed.specs.Keyed.{or_else}
use Rattle.wire_readers.specs.declared.SegmentHead.{SegmentHead}
use Rattle.wire_readers.specs.Messages.{read_segment}
use Rattle.wire_readers.specs.Places.{SegmentIs}
use Rattle.intake_content.specs.Content.{wire_id, bucket_fault, bucket_of, buckets_of, overlap_fault, first_outside, outside_of, outside_fault, name_fault, segment_fault}
use Rattle.intake_content.proofs.OutsideLaws.{place_found, place_none}
use Rattle.intake_scan.specs.declared.SegmentScan.{SegmentScan}
use Rattle.intake_scan.proofs.RunLaws.{run-bad, run-valid, run-count, run_ok, run-rising}
use Rattle.intake_buckets.specs.Rows.{buckets_from}
use Rattle.intake_segment.specs.Verdicts.{verdict_of, ScanOf}

abbrev id_of : SegmentHead → SegmentId
id_of head = record { 0 = head.segment_id }

-- ---- the name

pub name-no-parent : (parent p : List ℕ) → is_parent parent ≡ false → Err InvalidParent ≡ verdict_of (name_fault parent (read_segment p))
unfolding name_fault
name-no-parent parent p e = rw e

module _ (parent : List ℕ) {p : List ℕ} {head : SegmentHead} (S : SegmentIs p head) where
  -- `&p[from..to]` against the name below `&parent[8..]`
  abbrev same : Bool
  same =
      let from = head.topic_start in
      same_bytes
      (take (from + head.topic_len - from) (drop from p))
      (segment_topic (take (length parent - 8) (drop 8 parent)) (key_range head.hash_start head.hash_end) (id_of head))

  module _ (g : is_parent parent ≡ true) {t : Bool} (said : t ≡ same) where
    opened : name_fault parent (read_segment p) ≡ cond t None (Some (AttachmentMismatch (id_of head)))
    unfolding name_fault
    opened =
        rw (g, said, add-sub_cancel_left head.topic_start head.topic_len, rest parent 8, S.topic, S.start, S.end, S.id)

    pub name-valid : t ≡ true → (Ok record {}) ≡ verdict_of (name_fault parent (read_segment p))
    name-valid y = sym (ap verdict_of opened ∙ rw y)

    pub name-other : t ≡ false → Err (AttachmentMismatch (id_of head)) ≡ verdict_of (name_fault parent (read_segment p))
    name-other y = sym (ap verdict_of opened ∙ rw y)

-- ---- the buckets inside the range, then the name

buckets-are : (p : List ℕ) → buckets_of (read_segment p) ≡ buckets_from p 0
unfolding read_segment
buckets-are p = refl

-- what is left of the tests behind 11
abbrev pub inside_fault : List ℕ → List ℕ → Option Refusal
inside_fault parent p = or_else (outside_fault (read_segment p)) (name_fault parent (read_segment p))

module _ (parent : List ℕ) {p : List ℕ} {head : SegmentHead} (S : SegmentIs p head) {r : Option ℕ}
    (said : r ≡ outside_of (first_outside (key_range head.hash_start head.hash_end) 0 (buckets_from p 0))) where
  -- the place that the walk found, in the segment's terms
  abbrev place : Option ℕ
  place = first_outside (key_range (read_segment p).hash_start (read_segment p).hash_end) 0 (buckets_of (read_segment p))

  place_is : r ≡ outside_of place
  place_is = rw (← S.start, ← S.end, buckets-are p) said

  pub outside-found : {i : ℕ} → r ≡ Some i → Err (BucketOutsideSegment (id_of head) i) ≡ verdict_of (inside_fault parent p)
  outside-found {i} e = rw (place_found place i (sym e ∙ place_is), S.id)

  pub outside-none : r ≡ None → {v : Result ⊤ Refusal} → v ≡ verdict_of (name_fault parent (read_segment p)) → v ≡ verdict_of (inside_fault parent p)
  outside-none e f = rw (place_none place (sym e ∙ place_is)) f

-- ---- the buckets, then the others

-- in order, with ends of two bytes: such ranges can be marked
all_valid : (rs : List KeyRange) → all_in_order rs ≡ true → FitRanges rs → AllValid rs
unfolding all_in_order
all_valid [] o f = AllValid.none
all_valid (r ∷ rs) o f =
    let p = both_true (is_in_order r) (all_in_order rs) o in
    let e = f.0.end in
    more (record { in_order = leb-true r.start r.end p.0; small = omega arith }) (all_valid rs p.1 f.1)

none_left : {A : Type 0} (xs : List A) → length xs ≡ 0 → xs ≡ []
none_left [] e = refl
none_left (x ∷ xs) e = absurd (omega arith)

-- what is left of the tests behind the range
abbrev pub buckets_fault : List ℕ → List ℕ → Option Refusal
buckets_fault parent p =
    let w = read_segment p in
    or_else (bucket_fault (wire_id w) 0 w.bucket_ranges) (or_else (overlap_fault w) (inside_fault parent p))

module _ (parent : List ℕ) {p : List ℕ} {scan : SegmentScan} (S : ScanOf p scan) where
  pub bucket-bad : scan.run.valid ≡ false
      → Err (InvalidBucketRange (id_of scan.head) scan.run.count scan.run.last.start scan.run.last.end)
      ≡ verdict_of (buckets_fault parent p)
  bucket-bad g =
      let b = run-bad (read_segment p).bucket_ranges (wire_id (read_segment p)) (rw S.run at g) in
      rw (b, S.run, S.head.id)

  module _ (g : scan.run.valid ≡ true) where
    valid : (id : SegmentId) → bucket_fault id 0 (read_segment p).bucket_ranges ≡ None
    valid = run-valid (read_segment p).bucket_ranges (rw S.run at g)

    pub buckets-valid : AllValid (buckets_from p 0)
    buckets-valid =
        let o = run_ok (read_segment p).bucket_ranges (rw S.run at g) in
        subst AllValid (buckets-are p) (all_valid (buckets_of (read_segment p)) o.0 o.1)

    -- no two share a value
    apart : any_overlap (buckets_of (read_segment p)) ≡ false → {r : Result ⊤ Refusal} → r ≡ verdict_of (inside_fault parent p)
        → r ≡ verdict_of (buckets_fault parent p)
    apart a e = rw (valid (wire_id (read_segment p)), a) e

    -- there are none
    pub buckets-none : scan.run.count ≡ 0 → {r : Result ⊤ Refusal} → r ≡ verdict_of (name_fault parent (read_segment p))
        → r ≡ verdict_of (buckets_fault parent p)
    unfolding any_overlap first_outside
    buckets-none h e =
        let w = read_segment p in
        let n : length w.bucket_ranges ≡ 0 = sym (run-count w.bucket_ranges (rw S.run at g)) ∙ (rw S.run at h) in
        let b : buckets_of w ≡ [] = ap (map bucket_of) (none_left w.bucket_ranges n) in
        let o : first_outside (key_range w.hash_start w.hash_end) 0 (buckets_of w) ≡ None =
        ap (first_outside (key_range w.hash_start w.hash_end) 0) b in
        apart (ap any_overlap b) (rw o e)

    pub buckets-rise : scan.run.rising ≡ true → {r : Result ⊤ Refusal} → r ≡ verdict_of (inside_fault parent p)
        → r ≡ verdict_of (buckets_fault parent p)
    buckets-rise h e = apart (run-rising (read_segment p).bucket_ranges (rw S.run at g) (rw S.run at h)) e

    module _ {t : Bool} (said : t ≡ any_overlap (buckets_from p 0)) where
      pub buckets-apart : t ≡ false → {r : Result ⊤ Refusal} → r ≡ verdict_of (inside_fault parent p) → r ≡ verdict_of (buckets_fault parent p)
      buckets-apart y e = apart (ap any_overlap (buckets-are p) ∙ sym said ∙ y) e

      pub buckets-overlap : t ≡ true → Err (OverlappingBucketRanges (id_of scan.head)) ≡ verdict_of (buckets_fault parent p)
      buckets-overlap y =
          let a : any_overlap (buckets_of (read_segment p)) ≡ true = ap any_overlap (buckets-are p) ∙ sym said ∙ y in
          rw (valid (wire_id (read_segment p)), a, S.head.id)

-- ---- the range, then the others

module _ (parent : List ℕ) {p : List ℕ} {head : SegmentHead} (S : SegmentIs p head) where
  -- what `KeyRange::new` said of the numbers of the walk, it says of the segment's
  range-is : {q : Result KeyRange KeyRangeError} → new_key_range head.hash_start head.hash_end ≡ q
      → new_key_range (read_segment p).hash_start (read_segment p).hash_end ≡ q
  range-is h = rw (← S.start, ← S.end) h

  pub range-bad : {e : KeyRangeError} → new_key_range head.hash_start head.hash_end ≡ Err e
      → Err (InvalidRange (id_of head) e) ≡ verdict_of (segment_fault parent (read_segment p))
  unfolding segment_fault
  range-bad h = rw (range-is h, S.id)

  pub range-valid : {k : KeyRange} {r : Result ⊤ Refusal} → new_key_range head.hash_start head.hash_end ≡ Ok k
      → r ≡ verdict_of (buckets_fault parent p) → r ≡ verdict_of (segment_fault parent (read_segment p))
  unfolding segment_fault
  range-valid h e = rw (range-is h) e
