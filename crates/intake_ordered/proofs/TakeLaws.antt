-- Laws of the walk over an assignment in its usual form, from its leaves up.
--
-- In order: two numbers as one write (`range-bytes`); a segment's buckets, none and one in
-- front of others (`buckets-end`, `buckets-next`), which are valid (`buckets-valid`); a segment's head (`head-row`, `head-written`) and the segment (`segment-taken`); an assignment's segments, none and one in front
-- of others (`segments-end`, `segments-next`), how many (`segments-few`), their order (`segments-ready`), and the assignment (`ordered-taken`).
-- Assumes nothing.
use Rattle.std.specs.Prelude.{None}
use Prim.Native.Nat.{ℕ, zero, suc, ◌+◌, ◌-◌, ◌*◌, ◌/◌, ◌%◌, ◌^◌, ◌≤◌, ◌<◌}
use native.Mathlib.Numerals.{add-one}
use native.Mathlib.Omega.{arith}
use mathlib.Core.Path.{◌≡◌, refl, sym, ap, subst, ◌∙◌}
use mathlib.Core.Bool.{Bool, true, false, ◌&&◌, ◌||◌}
use mathlib.Core.List.{List, [], ◌∷◌, ◌++◌, map, append_assoc}
use lib.ListN.{length, take, drop, length-append}
use lib.Seq.{drop_at, length-take-le}
use lib.Dec.{leb}
use borrow.Author.Tests.{le-leb, leb-true}
use Rattle.slice.specs.BoolLaws.{both_true}
use Rattle.topic_types.specs.declared.KeyRange.{KeyRange}
use Rattle.topic_types.specs.KeyRanges.{key_range}
use Rattle.slice.specs.Same.{same_bytes}
use Rattle.slice.proofs.PartLaws.{rest}
use Rattle.slice.proofs.SameLaws.{same-eq}
use Rattle.slice_int.specs.Be.{bytes_of}
use Rattle.slice_int.specs.Put.{put}
use Rattle.slice_int.proofs.BeLaws.{bytes_of-add, length-bytes_of}
use Rattle.slice_int.proofs.PutLaws.{length-put, put-nil, put-after, put-before}
use Rattle.utf8.specs.Table.{is_utf8}
use Rattle.name_parents.specs.Parents.{is_parent, path_of}
use Rattle.name_topic.specs.Names.{segment_topic}
use Rattle.wire.specs.Fields.{Field, fields_of}
use Rattle.ranges.specs.Overlap.{rising_from}
use Rattle.wire_schema.specs.declared.MessageKind.{MessageKind}
use Rattle.wire_schema.specs.declared.MessageKind.TheVariants.{ScalableConsumerAssignment, ScalableAssignedSegment}
use Rattle.wire_schema.specs.FirstFault.{Sound}
use Rattle.wire_schema.proofs.SoundLaws.{range-sound}
use Rattle.wire_ordered.specs.Ordered.{NumberIs, PartField}
use Rattle.intake_ordered_bucket.specs.Buckets.{BucketAt}
use Rattle.intake_ordered_bucket.proofs.BucketLaws.{row-end}
use Rattle.wire_readers.specs.Messages.{WireAssignment, read_assignment}
use Rattle.packed.specs.Assignment.{AssignedSegment, ConsumerAssignment, slot_size, encode_range, encode_ranges, encode_segment, encode_segments}
use Rattle.packed.specs.Assignment.{decode_ranges, ok_buckets, decode_segments, encode_assignment, size_segment, size_segments, size_assignment, ok_segment, ok_from, ok_assignment}
use Rattle.packed.proofs.AssignmentLaws.{size-least, rising-further, rising-ok, ok-head, ok-tail}
use Rattle.packed.proofs.RoundLaws.{FitRange, read-ranges, length-encode_segment, length-encode_segments}
use Rattle.intake_content.specs.Content.{first_outside, content_of}
use Rattle.keyed.proofs.EachLaws.{Each}
use Rattle.keyed.specs.Shuffled.{Shuffled}
use Rattle.keyed.proofs.ShuffleLaws.{shuffled-map, each-shuffled, length-shuffled, sum-shuffled}
use Rattle.packed_records.proofs.InsertLaws.{read-put, put-over}
use Rattle.packed_sort.specs.Sorted.{RisesFrom, Ordered}
use Rattle.intake_content.specs.Passing.{Passing}
use Rattle.intake_content.proofs.OrderLaws.{count-least}
use Rattle.intake_content.proofs.ContentOrder.{taken-shuffled}
use Rattle.writer_message.proofs.TextLaws.{topic-utf8}
use Rattle.writer_message.proofs.RowLaws.{numbered, parted, part_row, segment_row_of}
use Rattle.writer_message.proofs.WireLaws.{wire_segment, wire_assignment, range-row-says, segment-row-says, valid-passes}
use Rattle.writer_message.proofs.WireLaws.{assignment-row-says, content-says}
use Rattle.writer_message.proofs.ValidLaws.{segment-row-valid, assignment-row-valid}
use Rattle.intake_ordered.specs.Walk.{Inside, BucketsFrom, HeadRow, SegmentTaken, OkSegment, SegmentsFrom}
use Rattle.intake_ordered.specs.Taken.{OrderedTaken}

-- ---- bytes

-- two numbers of two bytes as one of four
range-bytes : (start end : ℕ) → end < 65536 → bytes_of 4 (start * 65536 + end) ≡ bytes_of 2 start ++ bytes_of 2 end
range-bytes start end h =
    let d : (start * 65536 + end) / 256 ^ 2 ≡ start = omega arith in
    let m : (start * 65536 + end) % 256 ^ 2 ≡ end = omega arith in
    bytes_of-add 2 2 (start * 65536 + end) ∙ rw (d, m)

encoded-range : (start end : ℕ) → end < 65536 → bytes_of 4 (start * 65536 + end) ≡ encode_range (key_range start end)
unfolding encode_range
encoded-range start end h = range-bytes start end h

-- right behind what was put last, n elements
put_next : (o : List ℕ) (at n : ℕ) (A B : List ℕ) → length A ≡ n → at + n + length B ≤ length o
    → put (put o at A) (at + n) B ≡ put o at (A ++ B)
put_next o at n A B e h = ap (λ (k : ℕ). put (put o at A) (at + k) B) (sym e) ∙ put-after o at A B (omega arith)

ranges-long : (rs : List KeyRange) → length (encode_ranges rs) ≡ 4 * length rs
unfolding encode_ranges encode_range
ranges-long [] = refl
ranges-long (r ∷ rs) =
    simp (length-append, length-bytes_of) (omega (arith, ranges-long rs))

-- a message is nested in nothing, or in something
at-any-depth : (kind : MessageKind) (s : List ℕ) → ((d : ℕ) → Sound (suc d) kind s) → (d : ℕ) → Sound d kind s
at-any-depth kind s v zero = record { read = refl; whole = refl }
at-any-depth kind s v (suc d) = v d

-- ---- a segment's buckets

pub buckets-end : (p : List ℕ) (at low high from : ℕ) (rising : Bool) (b : List ℕ) (place : ℕ) → length p ≤ at → place ≤ length b
    → BucketsFrom p at low high from rising b place place rising b
unfolding encode_ranges rising_from
buckets-end p at low high from rising b place h r =
    record {
      parts = [];
      ranges = [];
      row = row-end p at h;
      valid = λ d. tt;
      says = refl;
      fits = tt;
      inside = tt;
      rises = λ e. (e, refl);
      to_is = omega arith;
      room = r;
      wrote = sym (put-nil b place);
    }

pub buckets-next : {p : List ℕ} {at next : ℕ} {start end : ℕ} (low high from : ℕ) (rising : Bool) {still : Bool} (b b₁ : List ℕ) (place : ℕ)
    {to : ℕ} {after : Bool} {b' : List ℕ} → BucketAt p at start end next → low ≤ start → end ≤ high → place + 4 ≤ length b
    → b₁ ≡ put b place (bytes_of 4 (start * 65536 + end)) → still ≡ (rising && leb from start)
    → BucketsFrom p next low high (end + 1) still b₁ (place + 4) to after b' → BucketsFrom p at low high from rising b place to after b'
unfolding encode_ranges
buckets-next {p} {at} {next} {start} {end} low high from rising {still} b b₁ place {to} {after} {b'} f l z h w j k =
    let r : KeyRange = key_range start end in
    let t : List ℕ = take (next - f.from) (drop f.from p) in
    let q = f.range in
    let fit : FitRange r = record { start = omega (arith, q.order, q.high); end = omega (arith, q.high) } in
    let c = encoded-range start end (omega (arith, q.high)) in
    let e : b₁ ≡ put b place (encode_range r) = w ∙ ap (put b place) c in
    let four : length (encode_range r) ≡ 4 = ap length (sym c) ∙ length-bytes_of 4 (start * 65536 + end) in
    let n : length b₁ ≡ length b = ap length e ∙ length-put b place (encode_range r) (omega arith) in
    record {
      parts = t ∷ k.parts;
      ranges = r ∷ k.ranges;
      row = f.part.fields ∙ ap (λ (fs : List Field). parted 5 t ∷ fs) k.row;
      valid = λ d. (range-sound d t r.start r.end q.row, k.valid d);
      says = rw (range-row-says t r fit q.row, k.says);
      fits = (fit, k.fits);
      inside = (record { over = l; order = q.order; under = z }, k.inside);
      rises = λ y.
          let o = k.rises y in
          let g = both_true rising (leb from start) (sym j ∙ o.0) in
          (g.0, rising-further r k.ranges from (end + 1) (rw (g.1, le-leb start end q.order)) refl ∙ o.1);
      to_is = omega (arith, k.to_is);
      room = omega (arith, k.room);
      wrote =
          k.wrote
          ∙ ap (λ (l : List ℕ). put l (place + 4) (encode_ranges k.ranges)) e
          ∙ put_next b place 4 (encode_range r) (encode_ranges k.ranges) four (omega (arith, k.room, k.to_is, ranges-long k.ranges));
    }

-- ranges between low and high lie inside
buckets-inside : (low high index : ℕ) (rs : List KeyRange) → Each (Inside low high) rs → first_outside (key_range low high) index rs ≡ None
unfolding first_outside
buckets-inside low high index [] u = refl
buckets-inside low high index (r ∷ rs) u =
    rw (le-leb low r.start u.0.over, le-leb r.end high u.0.under) (buckets-inside low high (index + 1) rs u.1)

module _ {p : List ℕ} {at low high from : ℕ} {before : Bool} {b : List ℕ} {place to : ℕ} {after : Bool} {b' : List ℕ}
    (k : BucketsFrom p at low high from before b place to after b') where
  pub buckets-kept : length b' ≡ length b
  buckets-kept =
      ap length k.wrote ∙ length-put b place (encode_ranges k.ranges) (omega (arith, k.to_is, k.room, ranges-long k.ranges))

  -- they are read back
  buckets-read : decode_ranges ((to - place) / 4) (drop place b') ≡ k.ranges
  unfolding put
  buckets-read =
      let n : (to - place) / 4 ≡ length k.ranges = omega (arith, k.to_is) in
      let w : List ℕ = encode_ranges k.ranges ++ drop (place + length (encode_ranges k.ranges)) b in
      ap (λ (i : ℕ). decode_ranges i (drop place b')) n
      ∙ ap (λ (l : List ℕ). decode_ranges (length k.ranges) (drop place l)) k.wrote
      ∙ ap (decode_ranges (length k.ranges)) (drop_at (take place b) w place (length-take-le place b (omega (arith, k.to_is, k.room))))
      ∙ read-ranges k.ranges (drop (place + length (encode_ranges k.ranges)) b) k.fits

  -- they rise, or the test of what was written says so
  pub buckets-valid : {t : Bool} → t ≡ (after || ok_buckets (decode_ranges ((to - place) / 4) (drop place b'))) → t ≡ true
      → ok_buckets k.ranges ≡ true
  buckets-valid {t} e y = go after refl
    where
      go : (s : Bool) → after ≡ s → ok_buckets k.ranges ≡ true
      go true f = rising-ok from k.ranges (k.rises f).1
      go false f =
          sym (ap ok_buckets buckets-read)
          ∙ sym (ap (λ (s : Bool). s || ok_buckets (decode_ranges ((to - place) / 4) (drop place b'))) f)
          ∙ sym e
          ∙ y

-- ---- a segment

pub head-row : {p : List ℕ} {id start end second third fourth from to : ℕ} → NumberIs 1 p 0 id second → NumberIs 2 p second start third
    → NumberIs 3 p third end fourth → PartField 4 p fourth from to → start ≤ end → end ≤ 65535 → HeadRow p id start end from to
head-row l m n f o h =
    record {
      row = l.fields ∙ rw (m.fields, n.fields, f.fields);
      order = o;
      high = h;
      ordered = f.ordered;
      within = f.within;
    }

abbrev head_bytes : ℕ → ℕ → ℕ → ℕ → List ℕ
head_bytes id start end count = bytes_of 8 id ++ ((bytes_of 2 start ++ bytes_of 2 end) ++ bytes_of 2 count)

-- three numbers one behind the other
pub head-written : (id start end count : ℕ) (o p q r : List ℕ) (at : ℕ) → at + 14 ≤ length o → end < 65536
    → p ≡ put o at (bytes_of 8 id) → q ≡ put p (at + 8) (bytes_of 4 (start * 65536 + end)) → r ≡ put q (at + 12) (bytes_of 2 count)
    → r ≡ put o at (head_bytes id start end count)
head-written id start end count o p q r at h f ep eq er =
    let A : List ℕ = bytes_of 8 id in
    let B : List ℕ = bytes_of 4 (start * 65536 + end) in
    let C : List ℕ = bytes_of 2 count in
    let la : length A ≡ 8 = length-bytes_of 8 id in
    let lb : length B ≡ 4 = length-bytes_of 4 (start * 65536 + end) in
    let lc : length C ≡ 2 = length-bytes_of 2 count in
    let lab : length (A ++ B) ≡ 12 = length-append A B ∙ omega arith in
    let fq : q ≡ put o at (A ++ B) = eq ∙ ap (λ (l : List ℕ). put l (at + 8) B) ep ∙ put_next o at 8 A B la (omega arith) in
    er
    ∙ ap (λ (l : List ℕ). put l (at + 12) C) fq
    ∙ put_next o at 12 (A ++ B) C lab (omega arith)
    ∙ ap (put o at) (append_assoc A B C ∙ ap (λ (l : List ℕ). A ++ (l ++ C)) (range-bytes start end f))

module _ (parent : List ℕ) (e : is_parent parent ≡ true) (u : is_utf8 parent ≡ true) where
  pub segment-taken : {p : List ℕ} {id start end from to : ℕ} (b b₁ b₂ : List ℕ) (used : ℕ) {last : ℕ} {t : Bool}
      → id < 2 ^ 64 → length b ≡ 2048 → HeadRow p id start end from to
      → t ≡ same_bytes (take (to - from) (drop from p))
      (segment_topic (take (length parent - 8) (drop 8 parent)) (key_range start end) (record { 0 = id }))
      → t ≡ true → {rising segment-ok : Bool} (k : BucketsFrom p to start end 0 true b (used + 14) last rising b₁)
      → segment-ok ≡ (rising || ok_buckets (decode_ranges ((last - (used + 14)) / 4) (drop (used + 14) b₁))) → segment-ok ≡ true
      → b₂ ≡ put b₁ used (head_bytes id start end ((last - (used + 14)) / 4)) → SegmentTaken parent p b used id last b₂
  unfolding ok_segment size_segment encode_segment encode_range
  segment-taken {p} {id} {start} {end} {from} {to} b b₁ b₂ used {last} wide long h s y k a i w =
      let path : List ℕ = path_of parent in
      let g : AssignedSegment = record { segment_id = id; range = key_range start end; buckets = k.ranges } in
      let text : List ℕ = take (to - from) (drop from p) in
      let name : text ≡ segment_topic path (key_range start end) (record { 0 = id }) = same-eq text _ (rw (rest parent 8) at (sym s ∙ y)) in
      let row : fields_of p ≡ segment_row_of path g k.parts = h.row ∙ rw (name, k.row) in
      let fit : FitRange (key_range start end) = record { start = omega (arith, h.order, h.high); end = omega (arith, h.high) } in
      let segment-ok : ok_segment g ≡ true = rw (le-leb start end h.order) (buckets-valid k a i) in
      let n : (last - (used + 14)) / 4 ≡ length k.ranges = omega (arith, k.to_is) in
      let H : List ℕ = head_bytes id start end (length k.ranges) in
      let R : List ℕ = encode_ranges k.ranges in
      let lh : length H ≡ 14 = simp (length-append, length-bytes_of) in
      record {
        segment = g;
        valid = at-any-depth ScalableAssignedSegment p
            (λ d. segment-row-valid d p path g k.parts row (topic-utf8 parent e u (key_range start end) (record { 0 = id })) (k.valid d));
        says = segment-row-says p path g fit k.parts row k.says;
        passes = valid-passes parent g e segment-ok fit k.fits (buckets-inside start end 0 k.ranges k.inside);
        segment-ok = segment-ok;
        fits = record { id = omega (arith, wide); range = fit; count = omega (arith, k.to_is, k.room, long); buckets = k.fits };
        id-is = refl;
        to_is = omega (arith, k.to_is);
        room = k.room;
        wrote =
            w
            ∙ ap (λ (m : ℕ). put b₁ used (head_bytes id start end m)) n
            ∙ ap (λ (l : List ℕ). put l used H) k.wrote
            ∙ put-before b used (used + 14) H R (omega arith) (omega (arith, k.to_is, k.room, ranges-long k.ranges))
            ∙ ap (put b used) (simp append_assoc);
      }

module _ {parent p b : List ℕ} {used id to : ℕ} {b' : List ℕ} (k : SegmentTaken parent p b used id to b') where
  pub segment-long : used + 14 ≤ to
  segment-long = omega (arith, k.to_is, size-least k.segment)

  pub segment-kept : length b' ≡ length b
  segment-kept =
      ap length k.wrote
      ∙ length-put b used (encode_segment k.segment) (omega (arith, k.to_is, k.room, length-encode_segment k.segment))

-- ---- an assignment's segments

pub segments-end : (parent s : List ℕ) (at low : ℕ) (rising : Bool) (b : List ℕ) (used : ℕ) → length s ≤ at → used ≤ length b
    → SegmentsFrom parent s at low rising b used 0 used rising b
unfolding encode_segments size_segments ok_from
segments-end parent s at low rising b used h r =
    record {
      parts = [];
      segments = [];
      row = row-end s at h;
      valid = λ d. tt;
      says = refl;
      passes = tt;
      segment-ok = tt;
      fits = tt;
      rises = λ e. (e, refl);
      count-is = refl;
      to_is = omega arith;
      room = r;
      wrote = sym (put-nil b used);
    }

pub segments-count : {parent s : List ℕ} {at low : ℕ} {before : Bool} {b : List ℕ} {used m n to : ℕ} {after : Bool} {b' : List ℕ} → m ≡ n
    → SegmentsFrom parent s at low before b used m to after b' → SegmentsFrom parent s at low before b used n to after b'
segments-count {parent} {s} {at} {low} {before} {b} {used} {to = to} {after = after} {b' = b'} e k =
    subst (λ (j : ℕ). SegmentsFrom parent s at low before b used j to after b') e k

pub segments-next : {parent s : List ℕ} {at from next id last : ℕ} (low : ℕ) (rising : Bool) {still : Bool} (b b₁ : List ℕ) (used : ℕ) {n to : ℕ}
    {after : Bool} {b' : List ℕ} → PartField 2 s at from next → SegmentTaken parent (take (next - from) (drop from s)) b used id last b₁
    → still ≡ (rising && leb low id) → SegmentsFrom parent s next (id + 1) still b₁ last n to after b'
    → SegmentsFrom parent s at low rising b used (n + 1) to after b'
unfolding encode_segments size_segments ok_from
segments-next {parent} {s} {at} {from} {next} {id} {last} low rising {still} b b₁ used {n} {to} {after} {b'} f q l k =
    let t : List ℕ = take (next - from) (drop from s) in
    let g : AssignedSegment = q.segment in
    let E : List ℕ = encode_segment g in
    let z : length E ≡ size_segment g = length-encode_segment g in
    let m : length b₁ ≡ length b = segment-kept q in
    record {
      parts = t ∷ k.parts;
      segments = g ∷ k.segments;
      row = f.fields ∙ ap (λ (fs : List Field). parted 2 t ∷ fs) k.row;
      valid = λ d. (q.valid d, k.valid d);
      says = rw (q.says, k.says);
      passes = (q.passes, k.passes);
      segment-ok = (q.segment-ok, k.segment-ok);
      fits = (q.fits, k.fits);
      rises = λ e.
          let o = k.rises e in
          let r = both_true rising (leb low id) (sym l ∙ o.0) in
          let p : ok_from (suc g.segment_id) k.segments ≡ true =
          subst (λ (j : ℕ). ok_from j k.segments ≡ true) (add-one id ∙ ap suc q.id-is) o.1 in
          (r.0, simp (q.segment-ok, le-leb low g.segment_id (omega (arith, leb-true low id r.1, q.id-is)), p));
      count-is = omega (arith, k.count-is);
      to_is = omega (arith, k.to_is, q.to_is);
      room = omega (arith, k.room);
      wrote =
          k.wrote
          ∙ ap (λ (j : ℕ). put b₁ j (encode_segments k.segments)) q.to_is
          ∙ ap (λ (v : List ℕ). put v (used + size_segment g) (encode_segments k.segments)) q.wrote
          ∙ put_next b used (size_segment g) E (encode_segments k.segments) z
          (omega (arith, k.room, k.to_is, q.to_is, length-encode_segments k.segments));
    }

-- ---- in the order of their ids

ok-from-rises : (low : ℕ) (gs : List AssignedSegment) → ok_from low gs ≡ true → RisesFrom low gs
ok-from-rises low [] e = tt
ok-from-rises low (g ∷ gs) e = (ok-head low g gs e, ok-from-rises (suc g.segment_id) gs (ok-tail low g gs e))

rises-from-ok : (low : ℕ) (gs : List AssignedSegment) → Each OkSegment gs → RisesFrom low gs → ok_from low gs ≡ true
unfolding ok_from
rises-from-ok low [] o r = refl
rises-from-ok low (g ∷ gs) o r =
    simp (o.0, le-leb low g.segment_id r.0) (rises-from-ok (suc g.segment_id) gs o.1 r.1)

-- ---- the assignment

module _ {parent s : List ℕ} {first : ℕ} {b : List ℕ} {count used : ℕ} {rising : Bool} {b₁ : List ℕ} (size : length b ≡ 2048)
    (k : SegmentsFrom parent s first 0 true b 10 count used rising b₁) where
  pub segments-few : 14 * count ≤ 2038
  segments-few = omega (arith, k.to_is, k.room, k.count-is, count-least k.segments)

  segments-kept : length b₁ ≡ 2048
  segments-kept =
      ap length k.wrote
      ∙ length-put b 10 (encode_segments k.segments) (omega (arith, k.to_is, k.room, length-encode_segments k.segments))
      ∙ size

  -- they are read back
  segments-read : decode_segments count (drop 10 b₁) ≡ k.segments
  segments-read =
      ap (λ (n : ℕ). decode_segments n (drop 10 b₁)) k.count-is
      ∙ ap (λ (l : List ℕ). decode_segments (length k.segments) (drop 10 l)) k.wrote
      ∙ read-put b k.segments k.fits (omega (arith, k.to_is, k.room))

  pub segments-ready : ((length b₁ ≡ 2048) × (10 + size_segments (decode_segments count (drop 10 b₁)) ≤ 2048))
      × (rising ≡ true → RisesFrom 0 (decode_segments count (drop 10 b₁)))
  segments-ready = (
    (segments-kept, omega (arith, ap size_segments segments-read, k.to_is, k.room, size)),
    λ e. subst (RisesFrom 0) (sym segments-read) (ok-from-rises 0 k.segments (k.rises e).1),
  )

  module _ {b₂ : List ℕ} (o : Ordered b₁ count b₁ b₂) where
    moved : Shuffled k.segments o.segments
    moved = subst (λ (gs : List AssignedSegment). Shuffled gs o.segments) segments-read o.same

    same_size : size_segments k.segments ≡ size_segments o.segments
    unfolding size_segments
    same_size = sum-shuffled size_segment size_segments (λ g gs. refl) moved

    -- over the records as they came
    written_over : b₂ ≡ put b 10 (encode_segments o.segments)
    written_over =
        let x = length-encode_segments k.segments in
        let y = length-encode_segments o.segments in
        o.wrote
        ∙ ap (λ (v : List ℕ). put v 10 (encode_segments o.segments)) k.wrote
        ∙ put-over b 10 (encode_segments k.segments) (encode_segments o.segments) (omega (arith, x, y, same_size))
        (omega (arith, y, same_size, k.to_is, k.room))

    pub ordered-taken : {epoch : ℕ} (b₃ b₄ : List ℕ) → NumberIs 1 s 0 epoch first → b₃ ≡ put b₂ 8 (bytes_of 2 count) → b₄ ≡ put b₃ 0 (bytes_of 8 epoch)
        → OrderedTaken parent s b epoch used b₄
    unfolding ok_assignment size_assignment encode_assignment
    ordered-taken {epoch} b₃ b₄ n e₃ e₄ =
        let path : List ℕ = path_of parent in
        let came : ConsumerAssignment = record { layout_epoch = epoch; segments = k.segments } in
        let a : ConsumerAssignment = record { layout_epoch = epoch; segments = o.segments } in
        let row : fields_of s ≡ numbered 1 epoch ∷ part_row 2 k.parts =
        n.fields ∙ ap (λ (fs : List Field). numbered 1 epoch ∷ fs) k.row in
        let says : read_assignment (fields_of s) ≡ wire_assignment path came = assignment-row-says path came k.parts (fields_of s) row k.says in
        let fits : size_assignment a ≤ slot_size = omega (arith, k.to_is, k.room, same_size) in
        let rises : ok_from 0 o.segments ≡ true = rises-from-ok 0 o.segments (each-shuffled OkSegment moved k.segment-ok) o.rises in
        let ok : ok_assignment a ≡ true = simp (le-leb (size_assignment a) slot_size fits, rises) in
        let wires : Shuffled (map (wire_segment path) k.segments) (map (wire_segment path) o.segments) = shuffled-map (wire_segment path) moved in
        let S : List ℕ = encode_segments o.segments in
        let C : List ℕ = bytes_of 2 count in
        let E : List ℕ = bytes_of 8 epoch in
        let ls : length S ≡ size_segments o.segments = length-encode_segments o.segments in
        let lc : length C ≡ 2 = length-bytes_of 2 count in
        let le : length E ≡ 8 = length-bytes_of 8 epoch in
        let lcs : length (C ++ S) ≡ length C + length S = length-append C S in
        let f₃ : b₃ ≡ put b 8 (C ++ S) =
        e₃ ∙ ap (λ (v : List ℕ). put v 8 C) written_over ∙ put-before b 8 10 C S (omega arith) (omega (arith, k.to_is, k.room, same_size)) in
        record {
          valid = at-any-depth ScalableConsumerAssignment s (λ d. assignment-row-valid d s epoch k.parts row (k.valid d));
          epoch-is = sym (ap (λ (v : WireAssignment). v.layout_epoch) says);
          assignment = a;
          content =
              ap (content_of parent) says
              ∙ taken-shuffled parent (wire_assignment path came) (wire_assignment path a) refl wires a
              (content-says parent a ok (each-shuffled (Passing parent) wires k.passes));
          size = k.to_is ∙ ap (λ (z : ℕ). 10 + z) same_size;
          packed =
              e₄
              ∙ ap (λ (v : List ℕ). put v 0 E) f₃
              ∙ put-before b 0 8 E (C ++ S) (omega arith) (omega (arith, k.to_is, k.room, same_size))
              ∙ ap (λ (j : ℕ). put b 0 (E ++ (bytes_of 2 j ++ S))) (k.count-is ∙ length-shuffled moved);
        }
