-- Laws of what is looked for in a row of fields.
--
-- In order: a mark with one more value, or with one more list (`mark`, `present-append`), messages that may come again (`all-step`, `all_append`), that a number is
-- there (`number-found`), or at a place (`number-there`); a range's walk (`RangeLeft`), a segment's (`SegmentLeft`), a walk over one part of an assignment
-- (`PartLeft`), the walk over its parts (`PartsLeft`), each with its start, its steps and its end.
-- Assumes nothing.
use Rattle.std.specs.Prelude.{Option, Some, None}
use Prim.Native.Nat.{ℕ, ◌+◌, ◌-◌}
use native.Mathlib.Omega.{arith}
use mathlib.Core.Path.{◌≡◌, refl, sym, ap, ◌∙◌}
use mathlib.Core.Bool.{Bool, true, false, cond, ◌&&◌, ◌||◌, and-true, and-false, and_assoc, or-false, or_assoc}
use mathlib.Core.List.{List, [], ◌∷◌, ◌++◌}
use lib.ListN.{take, drop}
use lib.Dec.{eqb}
use Rattle.wire.specs.Fields.{Field, fields_of}
use Rattle.wire_values.specs.Values.{numbers_of, parts_of, present, last_after, last_of, join_fields, merged_fields}
use Rattle.wire_values.specs.Places.{NextPart}
use Rattle.wire_values.proofs.ValueLaws.{numbers-join, parts_join}
use Rattle.wire_values.proofs.FrontLaws.{numbers_from, parts_from, NumberAt, PartAt, FixedAt}
use Rattle.wire_schema.specs.declared.MessageKind.{MessageKind}
use Rattle.wire_schema.specs.declared.MessageKind.TheVariants.{ScalableConsumerAssignment, ScalableAssignedSegment, IntRange}
use Rattle.wire_schema.specs.Required.{all_complete, complete_within, is_complete}
use Rattle.wire_schema.proofs.RequiredLaws.{range-is, segment-is, assignment-is}

-- ---- what is there

module _ {A : Type 0} where
  pub mark : (b t : Bool) (x : A) (l : List A) → ((b || t) || present l) ≡ (b || present (cond t (x ∷ l) l))
  mark true t x l = refl
  mark false true x l = refl
  mark false false x l = refl

  pub present-append : (l m : List A) → present (l ++ m) ≡ (present l || present m)
  present-append [] m = refl
  present-append (x ∷ l) m = refl

module _ (inner : MessageKind → List Field → Bool) (k : MessageKind) where
  pub all-step : (t : Bool) (p : List ℕ) (l : List (List ℕ))
      → all_complete inner k (cond t (p ∷ l) l) ≡ (cond t (inner k (fields_of p)) true && all_complete inner k l)
  all-step true p l = refl
  all-step false p l = refl

  pub all_append : (l m : List (List ℕ)) → all_complete inner k (l ++ m) ≡ (all_complete inner k l && all_complete inner k m)
  all_append [] m = refl
  all_append (p ∷ l) m = rw (all_append l m) (sym (and_assoc (inner k (fields_of p)) (all_complete inner k l) (all_complete inner k m)))

abbrev is_found : Option ℕ → Bool
is_found (Some v) = true
is_found None = false

found_after : (v : ℕ) (l : List ℕ) → is_found (last_after (Some v) l) ≡ true
found_after v [] = refl
found_after v (x ∷ l) = found_after x l

found-present : (l : List ℕ) → is_found (last_of l) ≡ present l
found-present [] = refl
found-present (x ∷ l) = found_after x l

-- the last of the numbers tells whether there is one
pub number-found : (n : ℕ) (s : List ℕ) (x : Option ℕ) → x ≡ last_of (numbers_of n (fields_of s)) → is_found x ≡ present (numbers_of n (fields_of s))
number-found n s x e = ap is_found e ∙ found-present (numbers_of n (fields_of s))

-- the number at a place is one of field n, or none
number-there : {s : List ℕ} {at f v size : ℕ} → NumberAt s at f v size → (n : ℕ) (b : Bool)
    → ((b || eqb f n) || present (numbers_from n s (at + size))) ≡ (b || present (numbers_from n s at))
number-there {s} {at} {f} {v} {size} q n b =
    mark b (eqb f n) v (numbers_from n s (at + size)) ∙ ap (λ (l : List ℕ). b || present l) (sym (q.numbers n))

-- ---- a range

-- what is found before a place of the range, with what is left, is all
pub record RangeLeft (s : List ℕ) (at : ℕ) (start end : Bool) : Type 0 where
  start-there : (start || present (numbers_from 1 s at)) ≡ present (numbers_of 1 (fields_of s))
  end-there : (end || present (numbers_from 2 s at)) ≡ present (numbers_of 2 (fields_of s))

pub range-start : (s : List ℕ) → RangeLeft s 0 false false
range-start s = record { start-there = refl; end-there = refl }

module _ {s : List ℕ} {at : ℕ} {start end : Bool} (i : RangeLeft s at start end) where
  pub range-number : {f v size : ℕ} {start' end' : Bool} → NumberAt s at f v size → start' ≡ (start || eqb f 1) → end' ≡ (end || eqb f 2)
      → RangeLeft s (at + size) start' end'
  range-number q a b =
      record {
        start-there = rw a (number-there q 1 start ∙ i.start-there);
        end-there = rw b (number-there q 2 end ∙ i.end-there);
      }

  -- at a field that holds no number
  pub range-passed : {behind : ℕ} → ((n : ℕ) → numbers_from n s at ≡ numbers_from n s behind) → RangeLeft s behind start end
  range-passed e =
      record {
        start-there = ap (λ (l : List ℕ). start || present l) (sym (e 1)) ∙ i.start-there;
        end-there = ap (λ (l : List ℕ). end || present l) (sym (e 2)) ∙ i.end-there;
      }

  pub range-done : ((n : ℕ) → numbers_from n s at ≡ []) → (start && end) ≡ complete_within 1 IntRange (fields_of s)
  range-done e =
      let a : present (numbers_of 1 (fields_of s)) ≡ start = sym i.start-there ∙ rw (e 1) (or-false start) in
      let b : present (numbers_of 2 (fields_of s)) ≡ end = sym i.end-there ∙ rw (e 2) (or-false end) in
      sym (range-is 0 (fields_of s) ∙ rw (a, b))

-- ---- a segment

abbrev ranges_in : List (List ℕ) → Bool
ranges_in ps = all_complete (complete_within 1) IntRange ps

-- what is found before a place of the segment, with what is left, is all
pub record SegmentLeft (s : List ℕ) (at : ℕ) (id start end topic : Bool) : Type 0 where
  id-there : (id || present (numbers_from 1 s at)) ≡ present (numbers_of 1 (fields_of s))
  start-there : (start || present (numbers_from 2 s at)) ≡ present (numbers_of 2 (fields_of s))
  end-there : (end || present (numbers_from 3 s at)) ≡ present (numbers_of 3 (fields_of s))
  topic-there : (topic || present (parts_from 4 s at)) ≡ present (parts_of 4 (fields_of s))
  ranges : ranges_in (parts_from 5 s at) ≡ ranges_in (parts_of 5 (fields_of s))

pub segment-start : (s : List ℕ) → SegmentLeft s 0 false false false false
segment-start s = record { id-there = refl; start-there = refl; end-there = refl; topic-there = refl; ranges = refl }

module _ {s : List ℕ} {at : ℕ} {id start end topic : Bool} (i : SegmentLeft s at id start end topic) where
  pub segment-number : {f v size : ℕ} {id' start' end' : Bool} → NumberAt s at f v size → id' ≡ (id || eqb f 1) → start' ≡ (start || eqb f 2)
      → end' ≡ (end || eqb f 3) → SegmentLeft s (at + size) id' start' end' topic
  segment-number q a b c =
      record {
        id-there = rw a (number-there q 1 id ∙ i.id-there);
        start-there = rw b (number-there q 2 start ∙ i.start-there);
        end-there = rw c (number-there q 3 end ∙ i.end-there);
        topic-there = ap (λ (l : List (List ℕ)). topic || present l) (sym (q.parts 4)) ∙ i.topic-there;
        ranges = ap ranges_in (sym (q.parts 5)) ∙ i.ranges;
      }

  pub segment-fixed : {size : ℕ} → FixedAt s at size → SegmentLeft s (at + size) id start end topic
  segment-fixed q =
      record {
        id-there = ap (λ (l : List ℕ). id || present l) (sym (q.numbers 1)) ∙ i.id-there;
        start-there = ap (λ (l : List ℕ). start || present l) (sym (q.numbers 2)) ∙ i.start-there;
        end-there = ap (λ (l : List ℕ). end || present l) (sym (q.numbers 3)) ∙ i.end-there;
        topic-there = ap (λ (l : List (List ℕ)). topic || present l) (sym (q.parts 4)) ∙ i.topic-there;
        ranges = ap ranges_in (sym (q.parts 5)) ∙ i.ranges;
      }

  -- a part: in field 5 it is a range
  module _ {f from len : ℕ} (q : PartAt s at f from len) where
    abbrev part : List ℕ
    part = take len (drop (at + from) s)

    abbrev behind : ℕ
    behind = at + from + len

    range-first : ranges_in (parts_of 5 (fields_of s))
        ≡ (cond (eqb f 5) (complete_within 1 IntRange (fields_of part)) true && ranges_in (parts_from 5 s behind))
    range-first =
        sym i.ranges ∙ ap ranges_in (q.parts 5) ∙ all-step (complete_within 1) IntRange (eqb f 5) part (parts_from 5 s behind)

    pub segment-part : {topic' : Bool} → cond (eqb f 5) (complete_within 1 IntRange (fields_of part)) true ≡ true → topic' ≡ (topic || eqb f 4)
        → SegmentLeft s behind id start end topic'
    segment-part e g =
        record {
          id-there = ap (λ (l : List ℕ). id || present l) (sym (q.numbers 1)) ∙ i.id-there;
          start-there = ap (λ (l : List ℕ). start || present l) (sym (q.numbers 2)) ∙ i.start-there;
          end-there = ap (λ (l : List ℕ). end || present l) (sym (q.numbers 3)) ∙ i.end-there;
          topic-there =
              rw g
              (mark topic (eqb f 4) part (parts_from 4 s behind)
              ∙ ap (λ (l : List (List ℕ)). topic || present l) (sym (q.parts 4))
              ∙ i.topic-there);
          ranges = sym (range-first ∙ rw e);
        }

    pub segment-missing : cond (eqb f 5) (complete_within 1 IntRange (fields_of part)) true ≡ false
        → false ≡ complete_within 2 ScalableAssignedSegment (fields_of s)
    segment-missing e =
        let none : ranges_in (parts_of 5 (fields_of s)) ≡ false = range-first ∙ rw e in
        sym (segment-is 1 (fields_of s)
        ∙ rw (
          none,
          and-false (present (parts_of 4 (fields_of s))),
          and-false (present (numbers_of 3 (fields_of s))),
          and-false (present (numbers_of 2 (fields_of s))),
          and-false (present (numbers_of 1 (fields_of s))),
        ))

  pub segment-done : ((n : ℕ) → numbers_from n s at ≡ []) → ((n : ℕ) → parts_from n s at ≡ [])
      → (id && (start && (end && topic))) ≡ complete_within 2 ScalableAssignedSegment (fields_of s)
  segment-done e g =
      let a : present (numbers_of 1 (fields_of s)) ≡ id = sym i.id-there ∙ rw (e 1) (or-false id) in
      let b : present (numbers_of 2 (fields_of s)) ≡ start = sym i.start-there ∙ rw (e 2) (or-false start) in
      let c : present (numbers_of 3 (fields_of s)) ≡ end = sym i.end-there ∙ rw (e 3) (or-false end) in
      let t : present (parts_of 4 (fields_of s)) ≡ topic = sym i.topic-there ∙ rw (g 4) (or-false topic) in
      let r : ranges_in (parts_of 5 (fields_of s)) ≡ true = sym i.ranges ∙ rw (g 5) in
      sym (segment-is 1 (fields_of s) ∙ rw (a, b, c, t, r, and-true topic))

-- ---- one part of an assignment

abbrev segments_in : List (List ℕ) → Bool
segments_in ps = all_complete (complete_within 2) ScalableAssignedSegment ps

pub record PartLeft (s : List ℕ) (at : ℕ) (epoch₀ segments₀ epoch segments : Bool) : Type 0 where
  epoch-there : (epoch || present (numbers_from 1 s at)) ≡ (epoch₀ || present (numbers_of 1 (fields_of s)))
  segments-there : (segments && segments_in (parts_from 2 s at)) ≡ (segments₀ && segments_in (parts_of 2 (fields_of s)))

pub part-start : (s : List ℕ) (epoch segments : Bool) → PartLeft s 0 epoch segments epoch segments
part-start s epoch segments = record { epoch-there = refl; segments-there = refl }

module _ {s : List ℕ} {at : ℕ} {epoch₀ segments₀ epoch segments : Bool} (i : PartLeft s at epoch₀ segments₀ epoch segments) where
  pub part-number : {f v size : ℕ} {epoch' : Bool} → NumberAt s at f v size → epoch' ≡ (epoch || eqb f 1)
      → PartLeft s (at + size) epoch₀ segments₀ epoch' segments
  part-number q e =
      record {
        epoch-there = rw e (number-there q 1 epoch ∙ i.epoch-there);
        segments-there = ap (λ (l : List (List ℕ)). segments && segments_in l) (sym (q.parts 2)) ∙ i.segments-there;
      }

  pub part-fixed : {size : ℕ} → FixedAt s at size → PartLeft s (at + size) epoch₀ segments₀ epoch segments
  part-fixed q =
      record {
        epoch-there = ap (λ (l : List ℕ). epoch || present l) (sym (q.numbers 1)) ∙ i.epoch-there;
        segments-there = ap (λ (l : List (List ℕ)). segments && segments_in l) (sym (q.parts 2)) ∙ i.segments-there;
      }

  pub part-segment : {f from len : ℕ} {segments' : Bool} → PartAt s at f from len
      → segments' ≡ (segments && cond (eqb f 2) (complete_within 2 ScalableAssignedSegment (fields_of (take len (drop (at + from) s)))) true)
      → PartLeft s (at + from + len) epoch₀ segments₀ epoch segments'
  part-segment {f} {from} {len} q e =
      let p = take len (drop (at + from) s) in
      let rest = parts_from 2 s (at + from + len) in
      let c = cond (eqb f 2) (complete_within 2 ScalableAssignedSegment (fields_of p)) true in
      record {
        epoch-there = ap (λ (l : List ℕ). epoch || present l) (sym (q.numbers 1)) ∙ i.epoch-there;
        segments-there =
            rw e
            (and_assoc segments c (segments_in rest)
            ∙ ap (λ (b : Bool). segments && b)
            (sym (ap segments_in (q.parts 2) ∙ all-step (complete_within 2) ScalableAssignedSegment (eqb f 2) p rest))
            ∙ i.segments-there);
      }

  pub part-done : numbers_from 1 s at ≡ [] → parts_from 2 s at ≡ []
      → (epoch ≡ (epoch₀ || present (numbers_of 1 (fields_of s)))) × (segments ≡ (segments₀ && segments_in (parts_of 2 (fields_of s))))
  part-done e g = (sym (sym i.epoch-there ∙ rw e (or-false epoch)), sym (sym i.segments-there ∙ rw g (and-true segments)))

-- ---- the parts of an assignment

pub record PartsLeft (n : ℕ) (m : List ℕ) (at : ℕ) (epoch segments : Bool) : Type 0 where
  epoch-there : (epoch || present (numbers_of 1 (join_fields (parts_from n m at)))) ≡ present (numbers_of 1 (merged_fields n (fields_of m)))
  segments-there : (segments && segments_in (parts_of 2 (join_fields (parts_from n m at)))) ≡ segments_in (parts_of 2 (merged_fields n (fields_of m)))

pub parts-start : (n : ℕ) (m : List ℕ) → PartsLeft n m 0 false true
parts-start n m = record { epoch-there = refl; segments-there = refl }

module _ {n : ℕ} {m : List ℕ} {at : ℕ} {epoch segments : Bool} (i : PartsLeft n m at epoch segments) where
  pub parts_next : (start len end : ℕ) {epoch' segments' : Bool} → NextPart n m at (Some (start, len, end))
      → let p = take (end - start) (drop start m) in
      (epoch' ≡ (epoch || present (numbers_of 1 (fields_of p)))) → (segments' ≡ (segments && segments_in (parts_of 2 (fields_of p))))
      → PartsLeft n m end epoch' segments'
  parts_next start len end q e g =
      let a : end - start ≡ len = omega (arith, q.1) in
      let p = take (end - start) (drop start m) in
      let ps = parts_from n m end in
      let h : parts_from n m at ≡ p ∷ ps = rw a q.3 in
      let x = numbers_of 1 (fields_of p) in
      let y = parts_of 2 (fields_of p) in
      record {
        epoch-there =
            rw e
            (or_assoc epoch (present x) (present (numbers_of 1 (join_fields ps)))
            ∙ ap (λ (b : Bool). epoch || b)
            (sym (ap (λ (l : List (List ℕ)). present (numbers_of 1 (join_fields l))) h
            ∙ ap present (numbers-join 1 p ps)
            ∙ present-append x (numbers_of 1 (join_fields ps))))
            ∙ i.epoch-there);
        segments-there =
            rw g
            (and_assoc segments (segments_in y) (segments_in (parts_of 2 (join_fields ps)))
            ∙ ap (λ (b : Bool). segments && b)
            (sym (ap (λ (l : List (List ℕ)). segments_in (parts_of 2 (join_fields l))) h
            ∙ ap segments_in (parts_join 2 p ps)
            ∙ all_append (complete_within 2) ScalableAssignedSegment y (parts_of 2 (join_fields ps))))
            ∙ i.segments-there);
      }

  pub parts-done : NextPart n m at None → (epoch && segments) ≡ is_complete ScalableConsumerAssignment (merged_fields n (fields_of m))
  unfolding is_complete
  parts-done q =
      let a : present (numbers_of 1 (merged_fields n (fields_of m))) ≡ epoch = sym i.epoch-there ∙ rw q (or-false epoch) in
      let b : segments_in (parts_of 2 (merged_fields n (fields_of m))) ≡ segments = sym i.segments-there ∙ rw q (and-true segments) in
      sym (assignment-is 2 (merged_fields n (fields_of m)) ∙ rw (a, b))
