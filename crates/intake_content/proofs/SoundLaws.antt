-- What a segment that passes its tests is.
--
-- In order: when there is no refusal (`or-both`, `if_none`, `unless-none`); each test by itself (`Passed`: `passed`, and back `passes`); a
-- range that passes is in order and inside the key space (`Sound`: `valid-sound`, `bucket-sound`); the segment is valid and fits its widths
-- (`segment-valid`, `segment-range`, `segment-buckets`, `segment-fit`).
-- Assumes nothing.
use Rattle.std.specs.Prelude.{Option, Some, None, Result, Ok, Err}
use Prim.Native.Nat.{ℕ, suc, ◌+◌, ◌^◌, ◌≤◌, ◌<◌}
use native.Mathlib.Omega.{arith}
use mathlib.Core.Path.{◌≡◌, refl, sym, ap}
use mathlib.Core.Bool.{Bool, true, false, cond, false≢true}
use mathlib.Core.List.{List, [], ◌∷◌, map}
use Rattle.std.proofs.lemmas.Option.{none-some}
use lib.IntN.{ℤ, pos, negsuc}
use lib.ListN.{length}
use lib.Dec.{ltb}
use borrow.Author.Tests.{ltb-false, le-leb}
use Rattle.topic_types.specs.declared.SegmentId.{SegmentId}
use Rattle.topic_types.specs.declared.KeyRange.{KeyRange}
use Rattle.topic_types.specs.declared.KeyRangeError.TheVariants.{StartOutOfBounds, EndOutOfBounds, Reversed}
use Rattle.topic_types.specs.KeyRanges.{max_hash, key_range, new_key_range}
use Rattle.refusal.specs.declared.Refusal.{Refusal}
use Rattle.refusal.specs.declared.Refusal.TheVariants.{InvalidBucketRange, OverlappingBucketRanges, InvalidParent, AttachmentMismatch}
use Rattle.ranges.specs.Overlap.{any_overlap}
use Rattle.slice.specs.Same.{same_bytes}
use Rattle.name_parents.specs.Parents.{is_parent}
use Rattle.wire_readers.specs.declared.IntRange.{IntRange}
use Rattle.wire_readers.specs.Messages.{WireSegment}
use Rattle.keyed.specs.Keyed.{or_else}
use Rattle.packed.specs.Assignment.{all_in_order, ok_buckets, ok_segment}
use Rattle.packed.proofs.RoundLaws.{FitRange, FitRanges, FitSegment}
use Rattle.intake_content.specs.Content.{wire_id, range_fault_by, range_fault, is_valid, is_bucket, bucket_ok, bucket_fault, magnitude, bucket_of}
use Rattle.intake_content.specs.Content.{buckets_of, overlap_fault, first_outside, outside_fault_by, outside_fault, expected_topic, name_fault}
use Rattle.intake_content.specs.Content.{segment_fault, assigned_segment}
use Rattle.topic_types.specs.declared.KeyRangeError.{KeyRangeError}

-- ---- no refusal

no-some : {A B : Type 0} {a : A} → Some a ≡ None → B
no-some {a = a} e = absurd (none-some a (sym e))

module _ {A : Type 0} where
  pub or-both : (o q : Option A) → or_else o q ≡ None → (o ≡ None) × (q ≡ None)
  or-both None q e = (refl, e)
  or-both (Some a) q e = no-some e

  pub if_none : (b : Bool) (x : A) (o : Option A) → cond b (Some x) o ≡ None → (b ≡ false) × (o ≡ None)
  if_none true x o e = no-some e
  if_none false x o e = (refl, e)

  pub unless-none : (b : Bool) (x : A) (o : Option A) → cond b o (Some x) ≡ None → (b ≡ true) × (o ≡ None)
  unless-none true x o e = (refl, e)
  unless-none false x o e = no-some e

-- ---- each test

pub record Passed (parent : List ℕ) (w : WireSegment) : Type 0 where
  pub range : range_fault w ≡ None
  pub buckets : bucket_fault (wire_id w) 0 w.bucket_ranges ≡ None
  pub apart : any_overlap (buckets_of w) ≡ false
  pub inside : first_outside (key_range w.hash_start w.hash_end) 0 (buckets_of w) ≡ None
  pub parent-ok : is_parent parent ≡ true
  pub topic : same_bytes w.segment_topic (expected_topic parent w) ≡ true

pub no-outside : (id : SegmentId) (o : Option ℕ) → outside_fault_by id o ≡ None → o ≡ None
no-outside id None e = refl
no-outside id (Some i) e = no-some e

module _ (parent : List ℕ) (w : WireSegment) where
  -- what is tested behind 11, behind the buckets, behind the range, and behind the parent
  abbrev after_overlap : Option Refusal
  after_overlap = or_else (outside_fault w) (name_fault parent w)

  abbrev after_buckets : Option Refusal
  after_buckets = or_else (overlap_fault w) after_overlap

  abbrev after_range : Option Refusal
  after_range = or_else (bucket_fault (wire_id w) 0 w.bucket_ranges) after_buckets

  abbrev same_topic : Bool
  same_topic = same_bytes w.segment_topic (expected_topic parent w)

  abbrev after_parent : Option Refusal
  after_parent = cond same_topic None (Some (AttachmentMismatch (wire_id w)))

  pub passed : segment_fault parent w ≡ None → Passed parent w
  unfolding segment_fault name_fault
  passed e =
      let nine = or-both (range_fault w) after_range e in
      let ten = or-both (bucket_fault (wire_id w) 0 w.bucket_ranges) after_buckets nine.1 in
      let others = or-both (overlap_fault w) after_overlap ten.1 in
      let eleven = if_none (any_overlap (buckets_of w)) (OverlappingBucketRanges (wire_id w)) None others.0 in
      let named = or-both (outside_fault w) (name_fault parent w) others.1 in
      let twelve = unless-none (is_parent parent) InvalidParent after_parent named.1 in
      let thirteen = unless-none same_topic (AttachmentMismatch (wire_id w)) None twelve.1 in
      record {
        range = nine.0;
        buckets = ten.0;
        apart = eleven.0;
        inside = no-outside (wire_id w) _ named.0;
        parent-ok = twelve.0;
        topic = thirteen.0;
      }

  pub passes : Passed parent w → segment_fault parent w ≡ None
  unfolding segment_fault name_fault
  passes p = simp (p.range, p.buckets, p.apart, p.inside, p.parent-ok, p.topic)

-- ---- ranges

-- the range is in order and inside the key space
pub record Sound (r : KeyRange) : Type 0 where
  pub order : r.start ≤ r.end
  pub end : r.end ≤ max_hash

sound-fit : (r : KeyRange) → Sound r → FitRange r
sound-fit r s = record { start = omega arith; end = omega arith }

pub valid-sound : (start end : ℕ) → is_valid (new_key_range start end) ≡ true → Sound (key_range start end)
unfolding new_key_range
valid-sound start end e = go (ltb max_hash start) (ltb max_hash end) (ltb end start) refl refl refl e
  where
    go : (a b c : Bool) → ltb max_hash start ≡ a → ltb max_hash end ≡ b → ltb end start ≡ c
        → is_valid (cond a (Err (StartOutOfBounds start)) (cond b (Err (EndOutOfBounds end))
        (cond c (Err (Reversed start end)) (Ok (key_range start end))))) ≡ true
        → Sound (key_range start end)
    go true b c p q r f = absurd (false≢true f)
    go false true c p q r f = absurd (false≢true f)
    go false false true p q r f = absurd (false≢true f)
    go false false false p q r f = record { order = ltb-false end start r; end = ltb-false max_hash end q }

fault-valid : (id : SegmentId) (r : Result KeyRange KeyRangeError) → range_fault_by id r ≡ None → is_valid r ≡ true
fault-valid id (Ok r) e = refl
fault-valid id (Err x) e = no-some e

pub bucket-sound : (r : IntRange) → bucket_ok r ≡ true → Sound (bucket_of r)
bucket-sound r e = go r.start r.end e
  where
    go : (start end : ℤ) → is_bucket start end ≡ true → Sound (key_range (magnitude start) (magnitude end))
    go (pos a) (pos b) f = valid-sound a b f
    go (pos a) (negsuc b) f = absurd (false≢true f)
    go (negsuc a) b f = absurd (false≢true f)

-- a row of buckets without fault
buckets-sound : (id : SegmentId) (index : ℕ) (rs : List IntRange) → bucket_fault id index rs ≡ None
    → FitRanges (map bucket_of rs) × (all_in_order (map bucket_of rs) ≡ true)
unfolding bucket_fault all_in_order
buckets-sound id index [] e = (tt, refl)
buckets-sound id index (r ∷ rs) e =
    let p = unless-none (bucket_ok r) (InvalidBucketRange id index r.start r.end) (bucket_fault id (index + 1) rs) e in
    let s : Sound (bucket_of r) = bucket-sound r p.0 in
    let t = buckets-sound id (index + 1) rs p.1 in
    ((sound-fit (bucket_of r) s, t.0), rw (le-leb (bucket_of r).start (bucket_of r).end s.order) t.1)

-- ---- the segment

pub length-map : {A B : Type 0} (f : A → B) (l : List A) → length (map f l) ≡ length l
length-map f [] = refl
length-map f (x ∷ l) = ap suc (length-map f l)

module _ (parent : List ℕ) (w : WireSegment) (e : segment_fault parent w ≡ None) where
  range-sound : Sound (key_range w.hash_start w.hash_end)
  range-sound =
      valid-sound w.hash_start w.hash_end (fault-valid (wire_id w) (new_key_range w.hash_start w.hash_end) (passed parent w e).range)

  pub segment-valid : ok_segment (assigned_segment w) ≡ true
  unfolding ok_segment ok_buckets assigned_segment
  segment-valid =
      simp (
        le-leb w.hash_start w.hash_end range-sound.order,
        (buckets-sound (wire_id w) 0 w.bucket_ranges (passed parent w e).buckets).1,
        (passed parent w e).apart,
      )

  pub segment-range : FitRange (assigned_segment w).range
  unfolding assigned_segment
  segment-range = sound-fit (key_range w.hash_start w.hash_end) range-sound

  pub segment-buckets : FitRanges (assigned_segment w).buckets
  unfolding assigned_segment
  segment-buckets = (buckets-sound (wire_id w) 0 w.bucket_ranges (passed parent w e).buckets).0

  pub segment-fit : w.segment_id < 256 ^ 8 → length w.bucket_ranges < 256 ^ 2 → FitSegment (assigned_segment w)
  unfolding assigned_segment
  segment-fit i n =
      record { id = i; range = segment-range; count = rw length-map n; buckets = segment-buckets }
