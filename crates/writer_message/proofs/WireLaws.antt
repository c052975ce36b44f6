-- What the readers say of the written messages, and that it passes the tests of a content.
--
-- In order: the values of a row whose fields each hold a part (`row-numbers`, `row-parts`, `row-others`); a range, a segment and an
-- assignment as they are read (`wire_range`, `wire_segment`, `wire_assignment`), of which the readers say the first two, by their rows
-- (`range-row-says`, `segment-row-says`) and as they are written (`segment-says`); they stand for what was written (`segment-back`,
-- `segments-back`); a valid segment passes (`valid-passes`), and so a written one (`Written`, `each-written`, `written-passes`); what is read of an
-- assignment, by its row (`assignment-row-says`) and as it is written (`assignment-says`), and what it comes to (`content-says`).
-- Assumes nothing.
use Rattle.std.specs.Prelude.{None}
use Prim.Native.Nat.{ℕ, suc, ◌+◌, ◌%◌, ◌^◌, ◌≤◌, ◌<◌}
use native.Mathlib.Omega.{arith}
use mathlib.Core.Path.{◌≡◌, refl, ap, ◌∙◌}
use mathlib.Core.Bool.{Bool, true, false, not, false≢true}
use mathlib.Core.List.{List, [], ◌∷◌, map}
use lib.IntN.{pos}
use lib.ListN.{length}
use lib.Dec.{eqb}
use borrow.Author.Tests.{eq-eqb, lt-ltb, leb-true}
use Rattle.slice.specs.BoolLaws.{both_true}
use Rattle.topic_types.specs.declared.SegmentId.{SegmentId}
use Rattle.topic_types.specs.declared.KeyRange.{KeyRange}
use Rattle.topic_types.proofs.KeyRangeLaws.{valid-new}
use Rattle.slice.proofs.SameLaws.{same_refl}
use Rattle.ranges.specs.Overlap.{any_overlap}
use Rattle.utf8.specs.Table.{is_utf8}
use Rattle.name_parents.specs.Parents.{is_parent, path_of}
use Rattle.name_topic.specs.Names.{segment_topic}
use Rattle.wire.specs.Fields.{Field, fields_of}
use Rattle.wire_values.specs.Values.{numbers_of, parts_of}
use Rattle.wire_values.specs.Integers.{int32_of}
use Rattle.wire_readers.specs.Messages.{int_range_of, read_segment, WireAssignment, read_assignment}
use Rattle.packed.specs.Assignment.{AssignedSegment, ConsumerAssignment, is_in_order, all_in_order, ok_buckets, ok_segment}
use Rattle.packed.specs.Assignment.{ok_from, ok_assignment}
use Rattle.packed.proofs.AssignmentLaws.{ok-segment, ok-tail}
use Rattle.packed.proofs.RoundLaws.{FitRange, FitRanges, FitSegment, FitSegments}
use Rattle.intake_content.specs.Content.{first_outside, outside_fault_by, outside_in, range_fault_by, bucket_fault, bucket_of, segment_fault, assigned_segment, taken, content_of}
use Rattle.keyed.proofs.EachLaws.{Each}
use Rattle.intake_content.proofs.SoundLaws.{or-both, no-outside, passes}
use Rattle.intake_content.proofs.OrderLaws.{Passing}
use Rattle.intake_content.proofs.ContentLaws.{content-rising}
use Rattle.writer_message.specs.Message.{range_message, segment_message, segment_fields}
pub use Rattle.writer_message.specs.WireRows.{wire_range, wire_segment}
use Rattle.writer_message.proofs.RowLaws.{numbered, part_row, range-row, segment_row_of, segment-row, segment-within}

-- ---- a row whose fields each hold a part

pub row-numbers : (n f : ℕ) (ps : List (List ℕ)) → numbers_of n (part_row f ps) ≡ []
row-numbers n f [] = refl
row-numbers n f (p ∷ ps) = row-numbers n f ps

pub row-parts : (f : ℕ) (ps : List (List ℕ)) → parts_of f (part_row f ps) ≡ ps
row-parts f [] = refl
row-parts f (p ∷ ps) = rw (eq-eqb f f refl, row-parts f ps)

pub row-others : (n f : ℕ) → eqb f n ≡ false → (ps : List (List ℕ)) → parts_of n (part_row f ps) ≡ []
row-others n f e [] = refl
row-others n f e (p ∷ ps) = rw e (row-others n f e ps)

-- ---- as they are read

abbrev pub wire_assignment : List ℕ → ConsumerAssignment → WireAssignment
wire_assignment path a = record { layout_epoch = a.layout_epoch; segments = map (wire_segment path) a.segments }

-- a number of 16 bits stays itself where a sign is possible
small : (v : ℕ) → v < 256 ^ 2 → int32_of v ≡ pos v
unfolding int32_of
small v h = let e : v % 2 ^ 32 ≡ v = omega arith in rw (e, lt-ltb v (2 ^ 31) (omega arith))

pub range-row-says : (p : List ℕ) (r : KeyRange) → FitRange r → fields_of p ≡ numbered 1 r.start ∷ numbered 2 r.end ∷ []
    → int_range_of p ≡ wire_range r
unfolding int_range_of
range-row-says p r f e = rw (e, small r.start f.start, small r.end f.end)

ranges-say : (rs : List KeyRange) → FitRanges rs → map int_range_of (map range_message rs) ≡ map wire_range rs
ranges-say [] f = refl
ranges-say (r ∷ rs) f = rw (range-row-says (range_message r) r f.0 (range-row r f.0), ranges-say rs f.1)

pub segment-row-says : (p path : List ℕ) (g : AssignedSegment) → FitRange g.range → (ps : List (List ℕ))
    → fields_of p ≡ segment_row_of path g ps → map int_range_of ps ≡ map wire_range g.buckets → read_segment p ≡ wire_segment path g
unfolding read_segment
segment-row-says p path g f ps e h =
    let a : g.range.start % 2 ^ 32 ≡ g.range.start = omega (arith, f.start) in
    let b : g.range.end % 2 ^ 32 ≡ g.range.end = omega (arith, f.end) in
    simp (e, row-numbers 1 5 ps, row-numbers 2 5 ps, row-numbers 3 5 ps, row-others 4 5 refl ps, row-parts 5 ps, h, a, b)

module _ (path : List ℕ) (g : AssignedSegment) (f : FitSegment g) (s : length (segment_message path g) < 2 ^ 64) where
  pub segment-says : read_segment (segment_message path g) ≡ wire_segment path g
  segment-says =
      segment-row-says (segment_message path g) path g f.range (map range_message g.buckets) (segment-row path g f s)
      (ranges-say g.buckets f.buckets)

-- ---- they stand for what was written

buckets-back : (rs : List KeyRange) → map bucket_of (map wire_range rs) ≡ rs
buckets-back [] = refl
buckets-back (r ∷ rs) = ap (λ (l : List KeyRange). r ∷ l) (buckets-back rs)

pub segment-back : (path : List ℕ) (g : AssignedSegment) → assigned_segment (wire_segment path g) ≡ g
unfolding assigned_segment
segment-back path g =
    ap (λ (l : List KeyRange). record { segment_id = g.segment_id; range = g.range; buckets = l }) (buckets-back g.buckets)

pub segments-back : (path : List ℕ) (gs : List AssignedSegment) → map assigned_segment (map (wire_segment path) gs) ≡ gs
segments-back path [] = refl
segments-back path (g ∷ gs) = let p = segments-back path gs in cc (segment-back path g)

-- ---- a written segment

-- a valid segment that fits its widths, under a parent whose name is a text, in a message of fewer than 2 ^ 64 bytes
pub record Written (parent : List ℕ) (g : AssignedSegment) : Type 0 where
  pub fit : FitSegment g
  pub valid : ok_segment g ≡ true
  pub short : length (segment_message (path_of parent) g) < 2 ^ 64
  pub inside : first_outside g.range 0 g.buckets ≡ None
  pub parent-ok : is_parent parent ≡ true
  pub text : is_utf8 parent ≡ true

module _ (parent : List ℕ) (p : is_parent parent ≡ true) (u : is_utf8 parent ≡ true) where
  pub each-written : (low : ℕ) (gs : List AssignedSegment) → FitSegments gs → ok_from low gs ≡ true → outside_in gs ≡ None
      → length (segment_fields (path_of parent) gs) < 2 ^ 64 → Each (Written parent) gs
  unfolding outside_in
  each-written low [] f o i s = tt
  each-written low (g ∷ gs) f o i s =
      let id : SegmentId = record { 0 = g.segment_id } in
      let q = or-both (outside_fault_by id (first_outside g.range 0 g.buckets)) (outside_in gs) i in
      let n = segment-within (path_of parent) g gs in
      let w : Written parent g = record { fit = f.0; valid = ok-segment low g gs o; short = omega arith; inside = no-outside id _ q.0; parent-ok = p; text = u } in
      (w, each-written (suc g.segment_id) gs f.1 (ok-tail low g gs o) q.1 (omega arith))

-- ---- it passes

bucket-none : (id : SegmentId) (index : ℕ) (rs : List KeyRange) → FitRanges rs → all_in_order rs ≡ true
    → bucket_fault id index (map wire_range rs) ≡ None
unfolding bucket_fault all_in_order
bucket-none id index [] f o = refl
bucket-none id index (r ∷ rs) f o =
    let p = both_true (is_in_order r) (all_in_order rs) o in
    let h : r.start ≤ r.end = leb-true r.start r.end p.0 in
    rw (valid-new r.start r.end h (omega (arith, f.0.end))) (bucket-none id (index + 1) rs f.1 p.1)

no-overlap : (t : Bool) → not t ≡ true → t ≡ false
no-overlap true e = absurd (false≢true e)
no-overlap false e = refl

module _ (parent : List ℕ) (g : AssignedSegment) where
  pub valid-passes : is_parent parent ≡ true → ok_segment g ≡ true → FitRange g.range → FitRanges g.buckets
      → first_outside g.range 0 g.buckets ≡ None → segment_fault parent (wire_segment (path_of parent) g) ≡ None
  unfolding ok_segment ok_buckets
  valid-passes p valid fit fits i =
      let r : KeyRange = g.range in
      let id : SegmentId = record { 0 = g.segment_id } in
      let o = both_true (is_in_order r) (ok_buckets g.buckets) valid in
      let b = both_true (all_in_order g.buckets) (not (any_overlap g.buckets)) o.1 in
      let h : r.start ≤ r.end = leb-true r.start r.end o.0 in
      passes parent (wire_segment (path_of parent) g) (record {
        range = ap (range_fault_by id) (valid-new r.start r.end h (omega (arith, fit.end)));
        buckets = bucket-none id 0 g.buckets fits b.0;
        apart = ap any_overlap (buckets-back g.buckets) ∙ no-overlap (any_overlap g.buckets) b.1;
        inside = ap (first_outside r 0) (buckets-back g.buckets) ∙ i;
        parent-ok = p;
        topic = same_refl (segment_topic (path_of parent) r id);
      })

  pub written-passes : Written parent g → segment_fault parent (wire_segment (path_of parent) g) ≡ None
  written-passes w = valid-passes w.parent-ok w.valid w.fit.range w.fit.buckets w.inside

-- ---- the assignment

segments-say : (parent : List ℕ) (gs : List AssignedSegment) → Each (Written parent) gs
    → map read_segment (map (segment_message (path_of parent)) gs) ≡ map (wire_segment (path_of parent)) gs
segments-say parent [] w = refl
segments-say parent (g ∷ gs) w =
    let p = segments-say parent gs w.1 in cc (segment-says (path_of parent) g w.0.fit w.0.short)

-- by its row, whose parts say the segments
pub assignment-row-says : (path : List ℕ) (a : ConsumerAssignment) (ps : List (List ℕ)) (fs : List Field)
    → fs ≡ numbered 1 a.layout_epoch ∷ part_row 2 ps → map read_segment ps ≡ map (wire_segment path) a.segments
    → read_assignment fs ≡ wire_assignment path a
unfolding read_assignment
assignment-row-says path a ps fs e h = simp (e, row-numbers 1 2 ps, row-parts 2 ps, h)

pub assignment-says : (parent : List ℕ) (a : ConsumerAssignment) → Each (Written parent) a.segments → (fs : List Field)
    → fs ≡ numbered 1 a.layout_epoch ∷ part_row 2 (map (segment_message (path_of parent)) a.segments)
    → read_assignment fs ≡ wire_assignment (path_of parent) a
assignment-says parent a w fs e =
    assignment-row-says (path_of parent) a (map (segment_message (path_of parent)) a.segments) fs e (segments-say parent a.segments w)

-- it comes to what was written
pub content-says : (parent : List ℕ) (a : ConsumerAssignment) → ok_assignment a ≡ true
    → Each (Passing parent) (map (wire_segment (path_of parent)) a.segments)
    → content_of parent (wire_assignment (path_of parent) a) ≡ taken a
content-says parent a o p =
    let e = segments-back (path_of parent) a.segments in
    content-rising parent (wire_assignment (path_of parent) a) p
    (ap (λ (gs : List AssignedSegment). ok_assignment (record { layout_epoch = a.layout_epoch; segments = gs })) e ∙ o)
    ∙ ap (λ (gs : List AssignedSegment). taken (record { layout_epoch = a.layout_epoch; segments = gs })) e
