-- Laws of the readers of a name.
--
-- In order: what `ok_or` answers (`is-none`, `is-some`); the cases of `descriptor_stage` (`descriptor-short` to `descriptor-range`), of `range_stage` (`range-invalid`, `range-valid`), of
-- `parse_segment_topic` (`name-no-scheme` to `name-descriptor`), of `parse_text` (`text-not-utf8`, `text-name`) and of `segment_source`
-- (`source-refused`, `source-same`, `source-other`); what a text that is read has (`IsName`: `name-told`); the parent of a name
-- (`parent_place`, `parent-refused`, `parent-no-room`, `parent-written`).
-- Assumes nothing.
use Rattle.std.specs.Prelude.{Option, Some, None, Result, Ok, Err, ok_or}
use Prim.Native.Nat.{ℕ, ◌+◌, ◌-◌, ◌≤◌, ◌<◌}
use native.Mathlib.Omega.{arith}
use mathlib.Core.Path.{◌≡◌, refl, sym, ap, ◌∙◌}
use mathlib.Core.Bool.{true, false, ◌&&◌, and-false}
use mathlib.Core.List.{List, ◌++◌}
use lib.ListN.{length, take, drop, get_or, length-append, length-drop}
use lib.Seq.{drop-drop, length-take-le}
use borrow.Author.Tests.{eq-eqb, ne_eqb, le-leb, lt-leb}
use Rattle.slice.specs.BoolLaws.{both_true}
use Rattle.topic_types.specs.declared.KeyRange.{KeyRange}
use Rattle.topic_types.specs.declared.KeyRangeError.{KeyRangeError}
use Rattle.topic_types.specs.declared.SegmentId.{SegmentId}
use Rattle.topic_types.specs.KeyRanges.{new_key_range}
use Rattle.refusal.specs.declared.Refusal.{Refusal}
use Rattle.refusal.specs.declared.Refusal.TheVariants.{InvalidUtf8, InvalidKeyRange, InvalidParent, InvalidSegment}
use Rattle.refusal.specs.declared.Refusal.TheVariants.{SegmentIdMismatch, ResultTooLong}
use Rattle.slice.specs.Same.{starts_with}
use Rattle.slice.proofs.SameLaws.{starts-long}
use Rattle.slice_int.specs.Put.{put}
use Rattle.slice_int.proofs.PutLaws.{put-after}
use Rattle.utf8.specs.Table.{is_utf8}
use Rattle.name_parents.specs.Classes.{class_of}
use Rattle.name_parents.specs.Parents.{topic_scheme, is_path}
use Rattle.name_topic.specs.Names.{segment_scheme}
use Rattle.name_topic.specs.Build.{name_outcome, refuse, written}
use Rattle.name_digits.specs.Digits.{decimal_value, hex_value, is_segment_id, hex_word, segment_id_of}
use Rattle.name_source.specs.Parse.{has_slash, before_last, last_slash, start_part, end_part, id_part, is_descriptor}
use Rattle.name_source.specs.Parse.{range_stage, descriptor_stage, parent_stage, parse_segment_topic, parse_text}
use Rattle.name_source.specs.Parse.{source_stage, segment_source, parent_outcome, parent_topic}
use Rattle.slice.proofs.TestLaws.{cond-first}
use Rattle.name_digits.proofs.DigitLaws.{word-told, word_none, id-empty, id-told, id-none}
use Rattle.name_source.proofs.SlashLaws.{slash-told, slash-none, before-last-inside, before-last-take}

-- ---- what `ok_or` answers

pub is-none : (o : Option ℕ) (due x : Refusal) → ok_or o due ≡ Err x → (o ≡ None) × (x ≡ due)
is-none None due x e = (refl, cc)
is-none (Some n) due x e = absurd (let z : ◌≡◌ {A = ℕ} 0 1 = cc in omega arith)

pub is-some : (o : Option ℕ) (due : Refusal) (n : ℕ) → ok_or o due ≡ Ok n → o ≡ Some n
is-some None due n e = absurd (let z : ◌≡◌ {A = ℕ} 0 1 = cc in omega arith)
is-some (Some m) due n e = cc

-- ---- the descriptor d, behind a path that ends at n

module _ (n : ℕ) (d : List ℕ) where
  not-descriptor : is_descriptor d ≡ false → descriptor_stage n d ≡ Err InvalidSegment
  unfolding descriptor_stage
  not-descriptor e = rw e

  no-id : is_segment_id (id_part d) ≡ false → descriptor_stage n d ≡ Err InvalidSegment
  unfolding is_descriptor
  no-id e = not-descriptor (simp (e, and-false))

  pub descriptor-short : length d < 11 → descriptor_stage n d ≡ Err InvalidSegment
  descriptor-short h = no-id (id-none (id_part d) (id-empty (id_part d) (length-drop 10 d ∙ omega arith)))

  pub descriptor-no-id : segment_id_of (id_part d) ≡ None → descriptor_stage n d ≡ Err InvalidSegment
  descriptor-no-id e = no-id (id-none (id_part d) e)

  pub descriptor-no-dash-4 : (class_of (get_or d 4 0) ≡ 4 → ⊥) → descriptor_stage n d ≡ Err InvalidSegment
  unfolding is_descriptor
  descriptor-no-dash-4 h = not-descriptor (simp (ne_eqb (class_of (get_or d 4 0)) 4 h, and-false))

  pub descriptor-no-dash-9 : (class_of (get_or d 9 0) ≡ 4 → ⊥) → descriptor_stage n d ≡ Err InvalidSegment
  unfolding is_descriptor
  descriptor-no-dash-9 h = not-descriptor (simp (ne_eqb (class_of (get_or d 9 0)) 4 h, and-false))

  pub descriptor-no-start : hex_word (start_part d) ≡ None → descriptor_stage n d ≡ Err InvalidSegment
  unfolding is_descriptor
  descriptor-no-start e = not-descriptor (rw (word_none (start_part d) e))

  pub descriptor-no-end : hex_word (end_part d) ≡ None → descriptor_stage n d ≡ Err InvalidSegment
  unfolding is_descriptor
  descriptor-no-end e = not-descriptor (simp (word_none (end_part d) e, and-false))

  pub descriptor-range : (a b i : ℕ) → hex_word (start_part d) ≡ Some a → class_of (get_or d 4 0) ≡ 4 → hex_word (end_part d) ≡ Some b
      → class_of (get_or d 9 0) ≡ 4 → segment_id_of (id_part d) ≡ Some i → descriptor_stage n d ≡ range_stage n i (new_key_range a b)
  unfolding descriptor_stage is_descriptor
  descriptor-range a b i ea p eb q ei =
      let A = word-told (start_part d) a ea in
      let B = word-told (end_part d) b eb in
      let I = id-told (id_part d) i ei in
      let P = eq-eqb (class_of (get_or d 4 0)) 4 p in
      let Q = eq-eqb (class_of (get_or d 9 0)) 4 q in
      rw (A.0, P, B.0, Q, I.0, A.1, B.1, I.1)

-- its range
module _ (n i : ℕ) (x : Result KeyRange KeyRangeError) where
  pub range-invalid : (e : KeyRangeError) → x ≡ Err e → range_stage n i x ≡ Err (InvalidKeyRange e)
  unfolding range_stage
  range-invalid e q = rw q

  pub range-valid : (r : KeyRange) → x ≡ Ok r → range_stage n i x ≡ Ok (n, r, record { 0 = i })
  unfolding range_stage
  range-valid r q = rw q

-- ---- the name t

module _ (t : List ℕ) where
  pub name-no-scheme : starts_with segment_scheme t ≡ false → parse_segment_topic t ≡ Err InvalidSegment
  unfolding parse_segment_topic
  name-no-scheme h = rw h

  module _ (h : starts_with segment_scheme t ≡ true) where
    pub name-no-slash : last_slash (drop 10 t) ≡ None → parse_segment_topic t ≡ Err InvalidSegment
    unfolding parse_segment_topic
    name-no-slash e = rw (h, slash-none (drop 10 t) e)

    module _ (n : ℕ) (e : last_slash (drop 10 t) ≡ Some n) where
      pub name-inside : 10 + n < length t
      name-inside =
          let p = slash-told (drop 10 t) n e in
          omega (arith, before-last-inside (drop 10 t) p.0, p.1, length-drop 10 t, starts-long segment_scheme t h)

      name-parent : parse_segment_topic t ≡ parent_stage (drop 10 t)
      unfolding parse_segment_topic parent_stage descriptor_stage range_stage
      name-parent = rw (h, (slash-told (drop 10 t) n e).0)

      name-path : before_last (drop 10 t) ≡ take n (drop 10 t)
      name-path =
          sym (before-last-take (drop 10 t)) ∙ ap (λ (m : ℕ). take m (drop 10 t)) (slash-told (drop 10 t) n e).1

      pub name-no-path : is_path (take n (drop 10 t)) ≡ false → parse_segment_topic t ≡ Err InvalidParent
      unfolding parent_stage
      name-no-path p = name-parent ∙ rw (name-path, p)

      pub name-descriptor : is_path (take n (drop 10 t)) ≡ true → parse_segment_topic t ≡ descriptor_stage (10 + n) (drop (10 + n + 1) t)
      unfolding parent_stage
      name-descriptor p =
          let q : is_path (before_last (drop 10 t)) ≡ true = rw name-path p in
          let f : 10 + (n + 1) ≡ 10 + n + 1 = omega arith in
          name-parent ∙ rw (q, (slash-told (drop 10 t) n e).1, drop-drop, f)

  pub text-not-utf8 : is_utf8 t ≡ false → parse_text t ≡ Err InvalidUtf8
  unfolding parse_text
  text-not-utf8 u = rw u

  pub text-name : is_utf8 t ≡ true → parse_text t ≡ parse_segment_topic t
  unfolding parse_text
  text-name u = rw u

-- ---- the segment with the given id

module _ (id : SegmentId) (t : List ℕ) where
  pub source-refused : (x : Refusal) → parse_text t ≡ Err x → segment_source id t ≡ Err x
  unfolding segment_source source_stage
  source-refused x e = rw e

  module _ (n : ℕ) (range : KeyRange) (topic_id : SegmentId) (e : parse_text t ≡ Ok (n, range, topic_id)) where
    pub source-same : topic_id.0 ≡ id.0 → segment_source id t ≡ Ok (record { segment_id = id; key_range = range })
    unfolding segment_source source_stage
    source-same q = rw (e, eq-eqb topic_id.0 id.0 q)

    pub source-other : (topic_id.0 ≡ id.0 → ⊥) → segment_source id t ≡ Err (SegmentIdMismatch id topic_id)
    unfolding segment_source source_stage
    source-other q = rw (e, ne_eqb topic_id.0 id.0 q)

-- ---- a text that is read

-- the descriptor of a name
abbrev pub descriptor_of : List ℕ → List ℕ
descriptor_of t = drop (length (before_last (drop 10 t)) + 1) (drop 10 t)

-- t is read as the name of the segment with that range and id, whose path ends at n
pub record IsName (t : List ℕ) (n : ℕ) (range : KeyRange) (id : SegmentId) : Type 0 where
  pub scheme : starts_with segment_scheme t ≡ true
  pub slash : has_slash (drop 10 t) ≡ true
  pub path : is_path (before_last (drop 10 t)) ≡ true
  pub descriptor : is_descriptor (descriptor_of t) ≡ true
  pub place : n ≡ 10 + length (before_last (drop 10 t))
  pub ends : new_key_range (hex_value (start_part (descriptor_of t))) (hex_value (end_part (descriptor_of t))) ≡ Ok range
  pub number : id.0 ≡ decimal_value (id_part (descriptor_of t))

refused-name : {x : Refusal} {n : ℕ} {r : KeyRange} {i : SegmentId} → ◌≡◌ {A = Result (ℕ × KeyRange × SegmentId) Refusal} (Err x) (Ok (n, r, i)) → ⊥
refused-name q = let z : ◌≡◌ {A = ℕ} 0 1 = cc in omega arith

abbrev Name : Type 0
Name = ℕ × KeyRange × SegmentId

abbrev answered : Name → Result Name Refusal → Name
answered a (Err x) = a
answered a (Ok b) = b

range-told : (n i : ℕ) (x : Result KeyRange KeyRangeError) (m : ℕ) (r : KeyRange) (id : SegmentId) → range_stage n i x ≡ Ok (m, r, id)
    → (x ≡ Ok r) × (m ≡ n) × (id ≡ record { 0 = i })
unfolding range_stage
range-told n i (Err e) m r id q = absurd (refused-name q)
range-told n i (Ok s) m r id q =
    let p = ap (answered (n, s, record { 0 = i })) q in
    (ap (λ (a : Name). Ok a.1) p, sym (ap (λ (a : Name). a.0) p), sym (ap (λ (a : Name). a.2) p))

pub name-told : (t : List ℕ) (n : ℕ) (range : KeyRange) (id : SegmentId) → parse_segment_topic t ≡ Ok (n, range, id) → IsName t n range id
unfolding parse_segment_topic range_stage
name-told t n range id e =
    let one = cond-first (starts_with segment_scheme t && has_slash (drop 10 t)) _ _ (Ok (n, range, id)) refused-name e in
    let two = both_true (starts_with segment_scheme t) (has_slash (drop 10 t)) one.0 in
    let three = cond-first (is_path (before_last (drop 10 t))) _ _ (Ok (n, range, id)) refused-name one.1 in
    let four = cond-first (is_descriptor (descriptor_of t)) _ _ (Ok (n, range, id)) refused-name three.1 in
    let five = range-told _ _ _ n range id four.1 in
    record {
      scheme = two.0;
      slash = two.1;
      path = three.0;
      descriptor = four.0;
      place = five.1;
      ends = five.0;
      number = ap (λ (i : SegmentId). i.0) five.2;
    }

-- ---- the parent of a name

module _ (t o : List ℕ) where
  pub parent-refused : (x : Refusal) → parse_text t ≡ Err x → parent_topic t o ≡ refuse x o
  unfolding parent_topic parent_outcome
  parent-refused x e = rw e

  module _ (n : ℕ) (range : KeyRange) (id : SegmentId) (e : parse_text t ≡ Ok (n, range, id)) where
    -- the path lies behind the scheme and inside the text
    pub parent_place : (10 ≤ n) × (n < length t)
    unfolding parse_text
    parent_place =
        let N = name-told t n range id (cond-first (is_utf8 t) _ _ (Ok (n, range, id)) refused-name e).1 in
        let k = before-last-inside (drop 10 t) N.slash in
        (omega (arith, N.place), omega (arith, N.place, k, length-drop 10 t, starts-long segment_scheme t N.scheme))

    pub path-length : length (take (n - 10) (drop 10 t)) ≡ n - 10
    path-length = length-take-le (n - 10) (drop 10 t) (omega (arith, length-drop 10 t, parent_place))

    parent_is : parent_topic t o ≡ written (topic_scheme ++ take (n - 10) (drop 10 t)) o
    unfolding parent_topic parent_outcome
    parent_is = rw e

    parent-length : length (topic_scheme ++ take (n - 10) (drop 10 t)) ≡ n - 2
    parent-length = length-append topic_scheme (take (n - 10) (drop 10 t)) ∙ omega (arith, path-length, parent_place)

    pub parent-no-room : length o < n - 2 → parent_topic t o ≡ refuse ResultTooLong o
    unfolding written
    parent-no-room h = parent_is ∙ rw (parent-length, lt-leb (n - 2) (length o) h)

    pub parent-written : n - 2 ≤ length o
        → parent_topic t o ≡ name_outcome (Ok (n - 2)) (put (put o 0 topic_scheme) 8 (take (n - 10) (drop 10 t)))
    unfolding written
    parent-written h =
        let f : put (put o 0 topic_scheme) 8 (take (n - 10) (drop 10 t)) ≡ put o 0 (topic_scheme ++ take (n - 10) (drop 10 t)) =
        put-after o 0 topic_scheme (take (n - 10) (drop 10 t)) (omega (arith, path-length, parent_place)) in
        parent_is ∙ rw (parent-length, le-leb (n - 2) (length o) h, f)
