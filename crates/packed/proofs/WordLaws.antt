-- Laws of two ranges that are read as one word.
--
-- In order: the place 24 or 56 of a difference (`low-place`, `high-place`); what `word_rises` tells (`word-rises`); the word at a
-- place (`parted` to `two`), and what it tells of a row (`rising_word`); what the words before a place tell (`Split`, `Answered`), from the start
-- (`told-start`) by turns (`told-words`, `told-next`), and what follows from it (`flags-most` to `split-end`).
-- Assumes nothing.
use Prim.Native.Nat.{ℕ, suc, ◌+◌, ◌-◌, ◌*◌, ◌/◌, ◌%◌, ◌^◌, ◌≤◌, ◌<◌}
use native.Mathlib.Nat.{le_trans}
use native.Mathlib.Decide.{dec_le}
use native.Mathlib.Omega.{arith}
use mathlib.Core.Path.{◌≡◌, refl, sym, ap, ◌∙◌, subst}
use mathlib.Core.Bool.{Bool, true, false, ◌&&◌, and-false}
use mathlib.Core.List.{List, ◌∷◌}
use lib.ListN.{length, take, drop, length-take}
use lib.Dec.{leb, eqb}
use lib.Bits.{bit_and, and_le_l}
use borrow.Author.Tests.{le-leb, lt-leb, eqb-true}
use Rattle.topic_types.specs.declared.KeyRange.{KeyRange}
use Rattle.topic_types.specs.KeyRanges.{key_range}
use Rattle.ranges.specs.Overlap.{rising_from}
use Rattle.slice.proofs.PartLaws.{Bytes, Bytes-take, Bytes-drop}
use Rattle.slice_int.specs.Be.{be_at}
use Rattle.slice_int.proofs.BeLaws.{be-below, be-at-add}
use Rattle.ranges_marks.specs.Bits.{bit}
use Rattle.ranges_marks.proofs.BitLaws.{bit-and}
use Rattle.packed.specs.Assignment.{decode_range, decode_ranges}
use Rattle.packed.specs.Words.{start1, end1, start2, end2, tops_of, WordRises}
use Rattle.packed.proofs.AssignmentLaws.{range_at, ranges-at}

-- ---- one place of a difference

low-place : (h a b : ℕ) → a ≤ 65536 → b ≤ 65536 → bit (h * 4294967296 + (b + 16777216 - a)) 24 ≡ leb a b
unfolding bit
low-place h a b p q = go (dec_le a b)
  where
    go : Dec (a ≤ b) → eqb ((h * 4294967296 + (b + 16777216 - a)) / 2 ^ 24 % 2) 1 ≡ leb a b
    go (yes k) =
        let e : (h * 4294967296 + (b + 16777216 - a)) / 16777216 % 2 ≡ 1 = omega arith in
        ap (λ (n : ℕ). eqb n 1) e ∙ sym (le-leb a b k)
    go (no k) =
        let e : (h * 4294967296 + (b + 16777216 - a)) / 16777216 % 2 ≡ 0 = omega arith in
        ap (λ (n : ℕ). eqb n 1) e ∙ sym (lt-leb a b (omega arith))

high-place : (a b l : ℕ) → a ≤ 65536 → b ≤ 65536 → l < 4294967296 → bit ((b + 16777216 - a) * 4294967296 + l) 56 ≡ leb a b
unfolding bit
high-place a b l p q m = go (dec_le a b)
  where
    go : Dec (a ≤ b) → eqb (((b + 16777216 - a) * 4294967296 + l) / 2 ^ 56 % 2) 1 ≡ leb a b
    go (yes k) =
        let e : ((b + 16777216 - a) * 4294967296 + l) / 72057594037927936 % 2 ≡ 1 = omega arith in
        ap (λ (n : ℕ). eqb n 1) e ∙ sym (le-leb a b k)
    go (no k) =
        let e : ((b + 16777216 - a) * 4294967296 + l) / 72057594037927936 % 2 ≡ 0 = omega arith in
        ap (λ (n : ℕ). eqb n 1) e ∙ sym (lt-leb a b (omega arith))

-- ---- what a word tells

module _ (x low : ℕ) (small : x < 18446744073709551616) (least : low ≤ 65536) where
  abbrev starts_of : ℕ
  starts_of = start1 x * 4294967296 + start2 x

  abbrev lows_of : ℕ
  lows_of = low * 4294967296 + tops_of x / 4294967296

  -- end less start, of both ranges
  in_order : tops_of x + 72057589759737855 - starts_of
      ≡ (end1 x + 16777216 - start1 x) * 4294967296 + (end2 x + 16777216 - start2 x)
  in_order = omega arith

  -- start less what it has to be at least, of both
  above : starts_of + 72057594054705152 - lows_of
      ≡ (start1 x + 16777216 - low) * 4294967296 + (start2 x + 16777216 - suc (end1 x))
  above = omega arith

  pub word-rises : WordRises x low (bit_and (tops_of x + 72057589759737855 - starts_of) (starts_of + 72057594054705152 - lows_of))
  word-rises =
      let a = tops_of x + 72057589759737855 - starts_of in
      let b = starts_of + 72057594054705152 - lows_of in
      record {
        first = bit-and a b 56 ∙ rw (in_order, above, high-place (start1 x) (end1 x) (end2 x + 16777216 - start2 x) (omega arith) (omega arith) (omega arith), high-place low (start1 x) (start2 x + 16777216 - suc (end1 x)) (omega arith) (omega arith) (omega arith));
        second = bit-and a b 24 ∙ rw (in_order, above, low-place (end1 x + 16777216 - start1 x) (start2 x) (end2 x) (omega arith) (omega arith), low-place (start1 x + 16777216 - low) (suc (end1 x)) (start2 x) (omega arith) (omega arith));
      }

-- ---- the word at a place

below : (s : List ℕ) (at : ℕ) → Bytes s → be_at 2 s at < 65536
unfolding be_at
below s at b = be-below 2 (take 2 (drop at s)) (rw length-take (omega arith)) (Bytes-take 2 (drop at s) (Bytes-drop at s b))

module _ (s : List ℕ) (p x : ℕ) (b : Bytes s) (h : p + 8 ≤ length s) (e : x ≡ be_at 8 s p) where
  -- four numbers of 2 bytes
  parted : x ≡ ((be_at 2 s p * 65536 + be_at 2 s (p + 2)) * 65536 + be_at 2 s (p + 4)) * 65536 + be_at 2 s (p + 6)
  parted =
      e ∙ be-at-add 6 2 s p (omega arith)
      ∙ ap (λ (n : ℕ). n * 65536 + be_at 2 s (p + 6))
      (be-at-add 4 2 s p (omega arith) ∙ ap (λ (n : ℕ). n * 65536 + be_at 2 s (p + 4)) (be-at-add 2 2 s p (omega arith)))

  pub word_small : x < 18446744073709551616
  word_small = omega (arith, parted, below s p b, below s (p + 2) b, below s (p + 4) b, below s (p + 6) b)

  word_first : key_range (start1 x) (end1 x) ≡ decode_range (drop p s)
  word_first =
      range_at s p (start1 x) (end1 x)
      (omega (arith, parted, below s p b, below s (p + 2) b, below s (p + 4) b, below s (p + 6) b))
      (omega (arith, parted, below s p b, below s (p + 2) b, below s (p + 4) b, below s (p + 6) b))

  word-second : key_range (start2 x) (end2 x) ≡ decode_range (drop (p + 4) s)
  word-second =
      let f : p + 4 + 2 ≡ p + 6 = omega arith in
      range_at s (p + 4) (start2 x) (end2 x)
      (omega (arith, parted, below s p b, below s (p + 2) b, below s (p + 4) b, below s (p + 6) b))
      (rw f (omega (arith, parted, below s p b, below s (p + 2) b, below s (p + 4) b, below s (p + 6) b)))

  two : (n : ℕ) → 1 < n
      → decode_ranges n (drop p s) ≡ key_range (start1 x) (end1 x) ∷ key_range (start2 x) (end2 x) ∷ decode_ranges (n - 2) (drop (p + 8) s)
  two n l =
      let f : n - 1 - 1 ≡ n - 2 = omega arith in
      let g : p + 4 + 4 ≡ p + 8 = omega arith in
      ranges-at s p n _ (omega arith) word_first
      ∙ ap (λ (r : List KeyRange). key_range (start1 x) (end1 x) ∷ r)
      (ranges-at s (p + 4) (n - 1) _ (omega arith) word-second
      ∙ ap (λ (k : ℕ). key_range (start2 x) (end2 x) ∷ decode_ranges k (drop (p + 4 + 4) s)) f
      ∙ ap (λ (k : ℕ). key_range (start2 x) (end2 x) ∷ decode_ranges (n - 2) (drop k s)) g)

shuffle : (a b c d e : Bool) → (a && b) && ((c && d) && e) ≡ ((b && a) && (d && c)) && e
shuffle true true true true e = refl
shuffle true true true false e = refl
shuffle true true false true e = refl
shuffle true true false false e = refl
shuffle true false c d e = refl
shuffle false true c d e = refl
shuffle false false c d e = refl

-- a row by the word at its front
rising_word : (s : List ℕ) (p n x low r : ℕ) → Bytes s → p + 8 ≤ length s → x ≡ be_at 8 s p → 1 < n → WordRises x low r
    → rising_from low (decode_ranges n (drop p s)) ≡ (bit r 56 && bit r 24) && rising_from (tops_of x % 4294967296) (decode_ranges (n - 2) (drop (p + 8) s))
unfolding rising_from
rising_word s p n x low r b h e l w =
    let R = decode_ranges (n - 2) (drop (p + 8) s) in
    let t : tops_of x % 4294967296 ≡ suc (end2 x) = omega arith in
    ap (rising_from low) (two s p x b h e n l)
    ∙ shuffle (leb low (start1 x)) (leb (start1 x) (end1 x)) (leb (suc (end1 x)) (start2 x)) (leb (start2 x) (end2 x)) (rising_from (suc (end2 x)) R)
    ∙ rw (w.first, w.second, t)

-- ---- a row by its words

group : (a b c d e : Bool) → (a && b) && ((c && d) && e) ≡ ((a && c) && (b && d)) && e
group true true c d e = refl
group true false true d e = refl
group true false false d e = refl
group false b c d e = refl

-- the row of n ranges at a place rises if the words before the place p told so, and if what is left rises from low on
pub record Split (s : List ℕ) (at n kept low p left : ℕ) : Type 0 where
  pub equal : rising_from 0 (decode_ranges n (drop at s))
      ≡ (bit kept 56 && bit kept 24) && rising_from (low % 4294967296) (decode_ranges left (drop p s))

split-word : (s : List ℕ) (at n kept low p left x r : ℕ) → Split s at n kept low p left → Bytes s → p + 8 ≤ length s → x ≡ be_at 8 s p → 1 < left
    → WordRises x (low % 4294967296) r → Split s at n (bit_and kept r) (tops_of x) (p + 8) (left - 2)
split-word s at n kept low p left x r k b h e l w =
    record {
      equal =
          k.equal
          ∙ ap (λ (t : Bool). (bit kept 56 && bit kept 24) && t) (rising_word s p left x (low % 4294967296) r b h e l w)
          ∙ group (bit kept 56) (bit kept 24) (bit r 56) (bit r 24) (rising_from (tops_of x % 4294967296) (decode_ranges (left - 2) (drop (p + 8) s)))
          ∙ rw (bit-and kept r 56, bit-and kept r 24);
    }

-- what is known in each turn: x and y are the words of four ranges that are there
pub record Answered (s : List ℕ) (at n x y low p left : ℕ) : Type 0 where
  pub place : p + 4 * left ≡ at + 4 * n
  pub four : 3 < left
  pub first : x ≡ be_at 8 s p
  pub second : y ≡ be_at 8 s (p + 8)
  pub least : low % 4294967296 ≤ 65536
  pub split : Split s at n 72057594054705152 low p left

pub told-start : (s : List ℕ) (at n x y : ℕ) → 8 ≤ n → x ≡ be_at 8 s at → y ≡ be_at 8 s (at + 8) → Answered s at n x y 0 at n
unfolding bit
told-start s at n x y h e f = record { place = refl; four = omega arith; first = e; second = f; least = omega arith; split = record { equal = refl } }

module _ {s : List ℕ} {at n x y low p left : ℕ} (T : Answered s at n x y low p left) (b : Bytes s) (room : at + 4 * n ≤ length s) where
  -- the two words tell of four ranges
  pub told-words : (r q top low' : ℕ) → 7 < left → top ≡ tops_of x → low' ≡ tops_of y → WordRises x (low % 4294967296) r
      → WordRises y (top % 4294967296) q → Split s at n (bit_and (bit_and 72057594054705152 r) q) low' (p + 16) (left - 4)
  told-words r q top low' l t u v w =
      let word = bit_and (bit_and 72057594054705152 r) q in
      let g : left - 2 - 2 ≡ left - 4 = omega arith in
      let m : p + 8 + 8 ≡ p + 16 = omega arith in
      let k = split-word s at n 72057594054705152 low p left x r T.split b (omega (arith, T.place)) T.first (omega arith) v in
      let j = subst (λ (i : ℕ). WordRises y (i % 4294967296) q) t w in
      let z = split-word s at n (bit_and 72057594054705152 r) (tops_of x) (p + 8) (left - 2) y q k b (omega (arith, T.place)) T.second (omega arith) j in
      subst (λ (i : ℕ). Split s at n word i (p + 16) (left - 4)) (sym u)
      (subst (λ (i : ℕ). Split s at n word (tops_of y) i (left - 4)) m
      (subst (λ (i : ℕ). Split s at n word (tops_of y) (p + 8 + 8) i) g z))

  pub told-next : (low' x' y' : ℕ) → 7 < left → low' ≡ tops_of y → Split s at n 72057594054705152 (tops_of y) (p + 16) (left - 4)
      → x' ≡ be_at 8 s (p + 16) → y' ≡ be_at 8 s (p + 16 + 8) → Answered s at n x' y' low' (p + 16) (left - 4)
  told-next low' x' y' l u z e f = record {
    place = omega (arith, T.place);
    four = omega arith;
    first = e;
    second = f;
    least = omega (arith, u);
    split = subst (λ (i : ℕ). Split s at n 72057594054705152 i (p + 16) (left - 4)) (sym u) z;
  }

-- the flags of a turn are no other places
pub flags-most : (a b : ℕ) → bit_and (bit_and 72057594054705152 a) b ≤ 72057594054705152
flags-most a b = le_trans (and_le_l (bit_and 72057594054705152 a) b) (and_le_l 72057594054705152 a)

-- they decide, or leave it to the ranges that are left
module _ {s : List ℕ} {at n word low p left : ℕ} (S : Split s at n word low p left) where
  pub split-none : word ≤ 72057594054705152 → (word ≡ 72057594054705152 → ⊥) → false ≡ rising_from 0 (decode_ranges n (drop at s))
  unfolding bit
  split-none h k = sym (S.equal ∙ go (bit word 56) (bit word 24) refl refl)
    where
      R : Bool
      R = rising_from (low % 4294967296) (decode_ranges left (drop p s))

      go : (t u : Bool) → bit word 56 ≡ t → bit word 24 ≡ u → (bit word 56 && bit word 24) && R ≡ false
      go true true e f =
          let a : word / 72057594037927936 % 2 ≡ 1 = eqb-true _ _ e in
          let b : word / 16777216 % 2 ≡ 1 = eqb-true _ _ f in
          absurd (k (omega arith))
      go true false e f = ap (λ (t : Bool). (bit word 56 && t) && R) f ∙ ap (λ (t : Bool). t && R) (and-false (bit word 56))
      go false u e f = ap (λ (t : Bool). (t && bit word 24) && R) e

  pub split-all : word ≡ 72057594054705152 → Split s at n 72057594054705152 low p left
  split-all e = subst (λ (w : ℕ). Split s at n w low p left) e S

pub split-end : {s : List ℕ} {at n low p left : ℕ} → Split s at n 72057594054705152 low p left → {t : Bool}
    → t ≡ rising_from (low % 4294967296) (decode_ranges left (drop p s)) → t ≡ rising_from 0 (decode_ranges n (drop at s))
unfolding bit
split-end S g = g ∙ sym S.equal
