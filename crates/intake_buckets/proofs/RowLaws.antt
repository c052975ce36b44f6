-- Laws of the rows that a segment's bucket ranges are loaded into, and of the tests row against row.
--
-- In order: a row that is being loaded (`Loading`): at its start, with one more range, where no range is left, and full; what a loaded row
-- says of the ranges from its place on: fewer are left behind it (`fewer`); rows that are marked one after the other (`Marked`): at the start, where
-- a value is found marked already (`marked-found`), behind the last row (`marked-last`), with one more row (`marked_next`); the ranges one by one
-- against the segment's (`Within`): at the start, one that is outside, one that is inside, and the end.
-- Assumes nothing.
use Rattle.std.specs.Prelude.{Some, None}
use Prim.Native.Nat.{ℕ, ◌+◌, ◌-◌, ◌≤◌, ◌<◌}
use native.Mathlib.Nat.{add-sub_cancel_left}
use native.Mathlib.Numerals.{add-one}
use native.Mathlib.Omega.{arith}
use mathlib.Core.Path.{◌≡◌, refl, sym, ap, subst, ◌∙◌}
use mathlib.Core.Bool.{Bool, true, false}
use mathlib.Core.List.{List, [], ◌∷◌, ◌++◌, append_assoc, append-nil}
use lib.ListN.{length, take, drop, set, length-append, length-set}
use lib.Seq.{take-suc-set, length-take-le, append_snoc}
use Rattle.topic_types.specs.declared.KeyRange.{KeyRange}
use Rattle.ranges.specs.Overlap.{any_overlap}
use Rattle.ranges.proofs.OverlapLaws.{any_append}
use Rattle.ranges_marks.specs.Marks.{AllValid, RowMarking}
use Rattle.ranges_marks.proofs.RowLaws.{valid-left, Apart}
use Rattle.wire_values.specs.Places.{NextPart}
use Rattle.wire_readers.specs.declared.IntRange.{IntRange}
use Rattle.wire_readers.specs.Messages.{int_range_of}
use Rattle.intake_content.specs.Content.{bucket_of, first_outside, outside_of}
use Rattle.intake_content.proofs.OutsideLaws.{outside_low, outside_high, outside-next}
use Rattle.intake_buckets.specs.declared.Loaded.{Loaded}
use Rattle.intake_buckets.specs.Rows.{buckets_from, LoadedIs}

-- ---- a row that is being loaded

-- count ranges from the place at on are in the row, and the others stand from the place next on
pub record Loading (p : List ℕ) (at : ℕ) (row : List KeyRange) (count next : ℕ) : Type 0 where
  pub few : count ≤ 506
  pub long : length row ≡ 506
  pub split : buckets_from p at ≡ take count row ++ buckets_from p next

pub loading-start : (p : List ℕ) (at : ℕ) (row : List KeyRange) → length row ≡ 506 → Loading p at row 0 at
loading-start p at row l = record { few = omega arith; long = l; split = refl }

module _ {p : List ℕ} {at : ℕ} {row : List KeyRange} {count next : ℕ} (L : Loading p at row count next) where
  -- the range in the next part, `&p[start..start + len]`
  pub loading-next : (start len after : ℕ) {r : IntRange} {k : KeyRange} → NextPart 5 p next (Some (start, len, after))
      → r ≡ int_range_of (take (start + len - start) (drop start p)) → k ≡ bucket_of r → count < 506
      → Loading p at (set row count k) (count + 1) after
  loading-next start len after {r} {k} q e f h =
      let n : buckets_from p next ≡ k ∷ buckets_from p after = rw (q.3, f, e, add-sub_cancel_left start len) in
      record {
        few = omega arith;
        long = simp length-set L.long;
        split = L.split
            ∙ ap (λ (l : List KeyRange). take count row ++ l) n
            ∙ rw (add-one, take-suc-set row count k (omega (arith, L.long)))
            (sym (append_snoc (take count row) k (buckets_from p after)));
      }

  pub loaded-none : NextPart 5 p next None → LoadedIs p at (record { row = row; count = count; next = next })
  loaded-none q = record { few = L.few; long = L.long; split = L.split; last = λ _. rw q }

  pub loaded-full : 506 ≤ count → LoadedIs p at (record { row = row; count = count; next = next })
  loaded-full h = record { few = L.few; long = L.long; split = L.split; last = λ e. absurd (omega arith) }

-- ---- what a loaded row says of the ranges from its place on

-- the ranges before the place at are marked in the words, and no two share a value
pub record Marked (p words : List ℕ) (at : ℕ) : Type 0 where
  pub before : List KeyRange
  pub split : buckets_from p 0 ≡ before ++ buckets_from p at
  pub marks : Apart words before

pub marked_start : (p words : List ℕ) → Apart words [] → Marked p words 0
marked_start p words a = record { before = []; split = refl; marks = a }

module _ {p : List ℕ} {at : ℕ} {l : Loaded} (L : LoadedIs p at l) where
  -- the ranges in the row, and those behind it
  abbrev here : List KeyRange
  here = take l.count l.row

  abbrev behind : List KeyRange
  behind = buckets_from p l.next

  pub fewer : (l.count ≡ 0 → ⊥) → length behind < length (buckets_from p at)
  fewer h =
      let e = ap length L.split ∙ length-append here behind in
      let f : length here ≡ l.count = length-take-le l.count l.row (omega (arith, L.few, L.long)) in
      omega (arith, e, f)

  module _ {words : List ℕ} (M : Marked p words at) where
    -- the ranges before the row, the row, and those behind it
    whole : buckets_from p 0 ≡ (M.before ++ here) ++ behind
    whole = M.split ∙ ap (λ (l : List KeyRange). M.before ++ l) L.split ∙ sym (append_assoc M.before here behind)

    module _ (g : AllValid (buckets_from p 0)) {t : Bool} {words' : List ℕ} (R : RowMarking words here t words') where
      valid : AllValid (M.before ++ here)
      valid = valid-left (M.before ++ here) behind (subst AllValid whole g)

      told : t ≡ any_overlap (M.before ++ here)
      told = R.told M.before M.marks.holds valid M.marks.apart

      pub marked-found : t ≡ true → true ≡ any_overlap (buckets_from p 0)
      marked-found y = sym (ap any_overlap whole ∙ any_append (M.before ++ here) behind ∙ rw (← told, y))

      pub marked-last : t ≡ false → l.count < 506 → false ≡ any_overlap (buckets_from p 0)
      marked-last y h =
          let e : buckets_from p 0 ≡ M.before ++ here =
          whole ∙ ap (λ (r : List KeyRange). (M.before ++ here) ++ r) (L.last h) ∙ append-nil (M.before ++ here) in
          sym (ap any_overlap e ∙ sym told ∙ y)

      pub marked_next : t ≡ false → Marked p words' l.next
      marked_next y = record {
        before = M.before ++ here;
        split = whole;
        marks = record {
          valid = valid;
          apart = sym told ∙ y;
          holds = R.holds M.before M.marks.holds valid M.marks.apart y;
        };
      }

-- ---- the ranges one by one against the segment's

-- the first index buckets are inside, and the others stand from the place at on
pub record Within (p : List ℕ) (range : KeyRange) (index at : ℕ) : Type 0 where
  pub few : index ≤ at
  pub left : first_outside range 0 (buckets_from p 0) ≡ first_outside range index (buckets_from p at)

pub within-start : (p : List ℕ) (range : KeyRange) → Within p range 0 0
within-start p range = record { few = omega arith; left = refl }

module _ {p : List ℕ} {range : KeyRange} {index at : ℕ} (W : Within p range index at) where
  pub within_end : NextPart 5 p at None → None ≡ outside_of (first_outside range 0 (buckets_from p 0))
  unfolding first_outside
  within_end q = sym (ap outside_of W.left ∙ rw q)

  module _ (start len after : ℕ) {r : IntRange} {k : KeyRange} (q : NextPart 5 p at (Some (start, len, after)))
      (e : r ≡ int_range_of (take (start + len - start) (drop start p))) (f : k ≡ bucket_of r) where
    next-is : buckets_from p at ≡ k ∷ buckets_from p after
    next-is = rw (q.3, f, e, add-sub_cancel_left start len)

    opened : first_outside range 0 (buckets_from p 0) ≡ first_outside range index (k ∷ buckets_from p after)
    opened = W.left ∙ ap (first_outside range index) next-is

    pub within_low : k.start < range.start → Some index ≡ outside_of (first_outside range 0 (buckets_from p 0))
    within_low h = sym (ap outside_of (opened ∙ outside_low range index k _ h))

    module _ (h : range.start ≤ k.start) where
      pub within-high : range.end < k.end → Some index ≡ outside_of (first_outside range 0 (buckets_from p 0))
      within-high i = sym (ap outside_of (opened ∙ outside_high range index k _ h i))

      pub within-next : k.end ≤ range.end → Within p range (index + 1) after
      within-next i = record { few = omega (arith, W.few, q.0, q.1); left = opened ∙ outside-next range index k _ h i }
