-- Names are read as the Rust reads them (`parse-agrees`).
--
-- In order: the split at the last '/' (`rsplit-agrees`); the parts of a descriptor read (`parts-agree`); the stages of a name, the last
-- first.
-- Assumes nothing.
use Rattle.std.specs.Prelude as std
use Rattle.std.specs.Prelude.{Option, Some, None}
use Prim.Native.Nat.{ℕ, suc, ◌+◌, ◌-◌}
use native.Mathlib.Omega.{arith}
use mathlib.Core.Path.{◌≡◌, refl, sym, ap, ap₂, ◌∙◌}
use mathlib.Core.Bool.{Bool, true, false, cond, not, ◌&&◌, ◌||◌, or-true, or-false}
use mathlib.Core.List.{[], ◌∷◌, ◌++◌}
use lib.ListN.{length, take, drop}
use lib.Dec.{eqb}
use Rattle.topic_types.specs.declared.KeyRange.{KeyRange}
use Rattle.topic_types.specs.declared.KeyRangeError.{KeyRangeError}
use Rattle.topic_types.specs.KeyRanges.{new_key_range}
use Rattle.refusal.specs.declared.Refusal.TheVariants as refusal
use Rattle.slice.specs.Same.{same_bytes, starts_with}
use Rattle.name_parents.specs.Parents.{topic_scheme, is_path, is_parent}
use Rattle.name_topic.specs.Names.{segment_scheme}
use Rattle.name_digits.specs.Digits.{decimal_value, hex_value, is_hex_word, is_segment_id}
use Rattle.name_source.specs.Parse.{has_slash, before_last, start_part, end_part, id_part, is_descriptor}
use Rattle.name_source.specs.Parse.{range_stage, descriptor_stage, parent_stage, parse_segment_topic}
use Rattle.name_source.proofs.SlashLaws.{before-last-take}
use Rattle.rust_magnetar.specs.Result.{Result, Ok, Err, ◌>>=◌, map-err, ok_or}
use Rattle.rust_magnetar.specs.Text.{Text, Split, rsplit-from, rsplit_once, split}
use Rattle.rust_magnetar.specs.Ranges.{KeyRange-new}
use Rattle.rust_magnetar.specs.SegmentTopic.{SegmentTopicError, InvalidParent, InvalidSegment, InvalidRange, slash, dash}
use Rattle.rust_magnetar.specs.Numerals.{parse-u64}
use Rattle.rust_magnetar.specs.SegmentTopic.{canonical-parent-path, parse-canonical-hex-word, is-canonical-decimal}
use Rattle.rust_magnetar.specs.SegmentTopic.{Descriptor, descriptor-of, ParsedTopic}
use Rattle.rust_names.specs.Agree.{paper, range_of, read_of, is_marked_path, ParseAgrees}
use Rattle.rust_names.proofs.ClassTests.{slash-test}
use Rattle.rust_names.proofs.ParentAgrees.{strip-agrees, parent-agrees}
use Rattle.rust_names.proofs.RangeAgrees.{new-agrees}
use Rattle.rust_names.proofs.DescriptorAgrees.{word-agrees, id-agrees, sound, parts_of, descriptor-sound, descriptor-agrees}

-- ---- the last '/'

abbrev pub at_last : Text → Split
at_last s = record { before = before_last s; behind = drop (length (before_last s) + 1) s }

pub rsplit-agrees : (s : Text) → rsplit_once slash s ≡ cond (has_slash s) (Some (at_last s)) None
unfolding has_slash before_last
rsplit-agrees [] = refl
rsplit-agrees (b ∷ s) = rw (rsplit-agrees s, slash-test b) (go (has_slash s))
  where
    before : Bool → Text
    before t = cond t (b ∷ before_last s) []

    go : (t : Bool)
        → rsplit-from slash b s (cond t (Some (at_last s)) None)
        ≡ cond (eqb b slash || t) (Some (record { before = before t; behind = drop (length (before t) + 1) (b ∷ s) })) None
    go true = let e : suc (length (before_last s)) + 1 ≡ suc (length (before_last s) + 1) = omega arith in rw (or-true, e)
    go false = rw or-false

-- ---- a descriptor's parts

module _ (t parent : Text) where
  -- the end of `parse_segment_topic`
  abbrev with_range : ℕ → Result KeyRange KeyRangeError → Result ParsedTopic SegmentTopicError
  with_range id r = do
    key-range ← map-err InvalidRange r
    Ok (record { parent = parent; key-range = key-range; id = record { 0 = id } })

  abbrev with_parts : Option ℕ → Option ℕ → Result ℕ SegmentTopicError → Result ParsedTopic SegmentTopicError
  with_parts a b c = do
    start ← ok_or (InvalidSegment t) a
    end ← ok_or (InvalidSegment t) b
    id ← c
    with_range id (KeyRange-new start end)

  abbrev id_read : Text → Result ℕ SegmentTopicError
  id_read s = cond (not (is-canonical-decimal s)) (Err (InvalidSegment t)) (ok_or (InvalidSegment t) (parse-u64 s))

  abbrev with_descriptor : Descriptor → Result ParsedTopic SegmentTopicError
  with_descriptor x = with_parts (parse-canonical-hex-word x.start) (parse-canonical-hex-word x.end) (id_read x.id)

  abbrev with_text : Text → Result ParsedTopic SegmentTopicError
  with_text d = ok_or (InvalidSegment t) (descriptor-of (split dash d)) >>= with_descriptor

  parts-agree : (x : Descriptor)
      → with_descriptor x
      ≡ cond (sound x) (with_range (decimal_value x.id) (KeyRange-new (hex_value x.start) (hex_value x.end))) (Err (InvalidSegment t))
  parts-agree x =
      ap₂ (λ (o p : Option ℕ). with_parts o p (id_read x.id)) (word-agrees x.start) (word-agrees x.end)
      ∙ ap (with_parts (word x.start) (word x.end)) (id-agrees (InvalidSegment t) x.id)
      ∙ go (hex_value x.start) (hex_value x.end) (decimal_value x.id)
      (is_hex_word x.start) (is_hex_word x.end) (is_segment_id x.id)
    where
      word : Text → Option ℕ
      word s = cond (is_hex_word s) (Some (hex_value s)) None

      go : (a b c : ℕ) (u v w : Bool)
          → with_parts (cond u (Some a) None) (cond v (Some b) None) (cond w (Ok c) (Err (InvalidSegment t)))
          ≡ cond (u && (v && w)) (with_range c (KeyRange-new a b)) (Err (InvalidSegment t))
      go a b c true true true = refl
      go a b c true true false = refl
      go a b c true false w = refl
      go a b c false v w = refl

-- ---- the stages of a name, whose path b ends at n

abbrev name_of : Text → ℕ → KeyRange → ParsedTopic
name_of path i range = record { parent = topic_scheme ++ path; key-range = range; id = record { 0 = i } }

scheme-agrees : (b : Text) → is_marked_path b ≡ false
    → canonical-parent-path (topic_scheme ++ b) ≡ cond (is_path b) (Ok b) (Err (InvalidParent (topic_scheme ++ b)))
unfolding is_parent starts_with same_bytes
scheme-agrees b m = parent-agrees (topic_scheme ++ b) m

module _ (t b : Text) (n : ℕ) (h : take (n - 10) (drop 10 t) ≡ b) where
  abbrev parent : Text
  parent = topic_scheme ++ b

  -- 9
  range-stage : (i : ℕ) (x : std.Result KeyRange KeyRangeError) → map-err paper (with_range t parent i (range_of x)) ≡ read_of t (range_stage n i x)
  unfolding range_stage
  range-stage i (std.Err e) = refl
  range-stage i (std.Ok range) = ap (λ (l : Text). Ok (name_of l i range)) (sym h)

  -- 18
  descriptor-stage : (d : Text) → map-err paper (with_text t parent d) ≡ read_of t (descriptor_stage n d)
  unfolding descriptor_stage
  descriptor-stage d =
      ap (map-err paper) (descriptor-agrees (InvalidSegment t) (with_descriptor t parent) (λ x s. parts-agree t parent x ∙ rw s) d)
      ∙ go (is_descriptor d) refl
    where
      i : ℕ
      i = decimal_value (id_part d)

      r : std.Result KeyRange KeyRangeError
      r = new_key_range (hex_value (start_part d)) (hex_value (end_part d))

      go : (u : Bool) → is_descriptor d ≡ u
          → map-err paper (cond u (with_descriptor t parent (parts_of d)) (Err (InvalidSegment t)))
          ≡ read_of t (cond u (range_stage n i r) (std.Err refusal.InvalidSegment))
      go true q =
          let e : with_descriptor t parent (parts_of d) ≡ with_range t parent i (range_of r) =
          parts-agree t parent (parts_of d)
          ∙ rw (descriptor-sound d q) (ap (with_range t parent i) (new-agrees (hex_value (start_part d)) (hex_value (end_part d)))) in
          ap (map-err paper) e ∙ range-stage i r
      go false q = refl

  -- 12
  parent-stage : (d : Text) → is_marked_path b ≡ false
      → map-err paper (canonical-parent-path parent >>= (λ ignored. with_text t parent d))
      ≡ read_of t (cond (is_path b) (descriptor_stage n d) (std.Err refusal.InvalidParent))
  parent-stage d m =
      ap (λ (r : Result Text SegmentTopicError). map-err paper (r >>= (λ ignored. with_text t parent d))) (scheme-agrees b m) ∙ go (is_path b)
    where
      go : (u : Bool)
          → map-err paper (cond u (Ok b) (Err (InvalidParent parent)) >>= (λ ignored. with_text t parent d))
          ≡ read_of t (cond u (descriptor_stage n d) (std.Err refusal.InvalidParent))
      go true = descriptor-stage d
      go false = refl

-- 18 without prefix or slash
module _ (t : Text) where
  abbrev with_halves : Split → Result ParsedTopic SegmentTopicError
  with_halves x = do
    ignored ← canonical-parent-path (topic_scheme ++ x.before)
    with_text t (topic_scheme ++ x.before) x.behind

  abbrev with_path : Text → Result ParsedTopic SegmentTopicError
  with_path p = ok_or (InvalidSegment t) (rsplit_once slash p) >>= with_halves

  slash-stage : is_marked_path (before_last (drop 10 t)) ≡ false
      → map-err paper (with_path (drop 10 t))
      ≡ read_of t (cond (has_slash (drop 10 t)) (parent_stage (drop 10 t)) (std.Err refusal.InvalidSegment))
  unfolding parent_stage
  slash-stage m =
      ap (λ (o : Option Split). map-err paper (ok_or (InvalidSegment t) o >>= with_halves)) (rsplit-agrees (drop 10 t))
      ∙ go (has_slash (drop 10 t))
    where
      go : (u : Bool)
          → map-err paper (ok_or (InvalidSegment t) (cond u (Some (at_last (drop 10 t))) None) >>= with_halves)
          ≡ read_of t (cond u (parent_stage (drop 10 t)) (std.Err refusal.InvalidSegment))
      go true =
          let b : Text = before_last (drop 10 t) in
          let e : 10 + length b - 10 ≡ length b = omega arith in
          parent-stage t b (10 + length b) (rw e (before-last-take (drop 10 t))) (drop (length b + 1) (drop 10 t)) m
      go false = refl

pub parse-agrees : ParseAgrees
unfolding parse_segment_topic parent_stage descriptor_stage range_stage
parse-agrees t m =
    ap (λ (o : Option Text). map-err paper (ok_or (InvalidSegment t) o >>= with_path t)) (strip-agrees segment_scheme t)
    ∙ go (starts_with segment_scheme t) m
  where
    go : (u : Bool) → (u && is_marked_path (before_last (drop 10 t))) ≡ false
        → map-err paper (ok_or (InvalidSegment t) (cond u (Some (drop 10 t)) None) >>= with_path t)
        ≡ read_of t (cond (u && has_slash (drop 10 t)) (parent_stage (drop 10 t)) (std.Err refusal.InvalidSegment))
    go true m = slash-stage t m
    go false m = refl
