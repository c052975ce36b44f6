-- Bytes moved within a list, k at a time: down from the first (`down-..`), up from the last (`up-..`); a byte, a word and four of them as such k bytes (`one_byte`,
-- `one_word`, `four-words`); and what writes leave (`take-before`, `drop-behind`, `put_same`, `put-over`).
-- Assumes nothing.
use Prim.Native.Nat.{ℕ, ◌+◌, ◌-◌, ◌≤◌, ◌<◌}
use native.Mathlib.Omega.{arith}
use mathlib.Core.Path.{◌≡◌, refl, sym, ap, ◌∙◌}
use mathlib.Core.List.{List, ◌++◌}
use lib.ListN.{length, take, drop, get_or, set, length-drop, take-append-drop}
use lib.Seq.{drop-cons, drop-drop, take-add, take-take, take-append-le, length-take-le}
use Rattle.slice.proofs.PartLaws.{drop-take, Bytes, Bytes-drop}
use Rattle.slice_int.specs.Be.{be_at, bytes_of}
use Rattle.slice_int.specs.Put.{put}
use Rattle.slice_int.proofs.BeLaws.{bytes_of-front}
use Rattle.slice_int.proofs.PutLaws.{length-put, put-nil, put_one, put-after, put-before, drop-put}
use Rattle.slice_moves.specs.Moved.{Lowered, Raised}

-- ---- what a write leaves

-- before it
take-before : (o : List ℕ) (n : ℕ) (W : List ℕ) (j k : ℕ) → j + k ≤ n → n ≤ length o → take k (drop j (put o n W)) ≡ take k (drop j o)
unfolding put
take-before o n W j k h l =
    let e : length (take n o) ≡ n = length-take-le n o l in
    sym (drop-take j k (put o n W))
    ∙ ap (drop j) (take-append-le (j + k) (take n o) (W ++ drop (n + length W) o) (omega arith) ∙ take-take (j + k) n o h)
    ∙ drop-take j k o

-- behind it
pub drop-behind : (o : List ℕ) (n : ℕ) (W : List ℕ) (j : ℕ) → n + length W ≤ j → n ≤ length o → drop j (put o n W) ≡ drop j o
drop-behind o n W j h k =
    let d : ℕ = j - (n + length W) in
    let e : n + length W + d ≡ j = omega arith in
    ap (λ (m : ℕ). drop m (put o n W)) (sym e)
    ∙ sym (drop-drop d (n + length W) (put o n W))
    ∙ ap (drop d) (drop-put o n W k)
    ∙ drop-drop d (n + length W) o
    ∙ ap (λ (m : ℕ). drop m o) e

-- what stands there already
pub put_same : (o : List ℕ) (at : ℕ) (W : List ℕ) → take (length W) (drop at o) ≡ W → put o at W ≡ o
unfolding put
put_same o at W e =
    ap (λ (l : List ℕ). take at o ++ (W ++ l)) (sym (drop-drop (length W) at o))
    ∙ ap (λ (l : List ℕ). take at o ++ (l ++ drop (length W) (drop at o))) (sym e)
    ∙ ap (λ (l : List ℕ). take at o ++ l) (take-append-drop (length W) (drop at o))
    ∙ take-append-drop at o

-- written over
pub put-over : (o : List ℕ) (i : ℕ) (W X : List ℕ) → i + length W ≤ length X → i ≤ length o → put (put o i W) 0 X ≡ put o 0 X
unfolding put
put-over o i W X h k = ap (λ (l : List ℕ). X ++ l) (drop-behind o i W (0 + length X) (omega arith) k)

-- ---- k bytes from the place p on, written at the place q

-- one byte
pub one_byte : (b : List ℕ) (p q : ℕ) → p < length b → q < length b → set b q (get_or b p 0) ≡ put b q (take 1 (drop p b))
one_byte b p q h k = put_one b q (get_or b p 0) k ∙ ap (λ (l : List ℕ). put b q (take 1 l)) (sym (drop-cons b p 0 h))

-- a word of other bytes
one-word-in : (b o : List ℕ) (p q : ℕ) → Bytes b → p + 8 ≤ length b → put o q (bytes_of 8 (be_at 8 b p)) ≡ put o q (take 8 (drop p b))
unfolding be_at
one-word-in b o p q f h = ap (put o q) (bytes_of-front 8 (drop p b) (rw length-drop (omega arith)) (Bytes-drop p b f))

-- a word of w bytes
pub one_word : (w : ℕ) (b : List ℕ) (p q : ℕ) → Bytes b → p + w ≤ length b → put b q (bytes_of w (be_at w b p)) ≡ put b q (take w (drop p b))
unfolding be_at
one_word w b p q f h = ap (put b q) (bytes_of-front w (drop p b) (rw length-drop (omega arith)) (Bytes-drop p b f))

-- a word behind n bytes that were written
word_next : (b : List ℕ) (p q n : ℕ) → Bytes b → p + n + 8 ≤ length b → q + n + 8 ≤ length b
    → put (put b q (take n (drop p b))) (q + n) (bytes_of 8 (be_at 8 b (p + n))) ≡ put b q (take (n + 8) (drop p b))
word_next b p q n f h k =
    let W : List ℕ = take n (drop p b) in
    let X : List ℕ = take 8 (drop (p + n) b) in
    let lw : length W ≡ n = length-take-le n (drop p b) (rw length-drop (omega arith)) in
    let lx : length X ≡ 8 = length-take-le 8 (drop (p + n) b) (rw length-drop (omega arith)) in
    let more : W ++ X ≡ take (n + 8) (drop p b) = ap (λ (y : List ℕ). W ++ take 8 y) (sym (drop-drop n p b)) ∙ sym (take-add n 8 (drop p b)) in
    one-word-in b (put b q W) (p + n) (q + n) f h
    ∙ ap (λ (m : ℕ). put (put b q W) (q + m) X) (sym lw)
    ∙ put-after b q W X (omega arith)
    ∙ ap (put b q) more

-- four words
pub four-words : (b : List ℕ) (p q : ℕ) → Bytes b → p + 32 ≤ length b → q + 32 ≤ length b
    → put (put (put (put b q (bytes_of 8 (be_at 8 b p))) (q + 8) (bytes_of 8 (be_at 8 b (p + 8)))) (q + 16) (bytes_of 8 (be_at 8 b (p + 16)))) (q + 24)
    (bytes_of 8 (be_at 8 b (p + 24)))
    ≡ put b q (take 32 (drop p b))
four-words b p q f h k =
    rw (
      one_word 8 b p q f (omega arith),
      word_next b p q 8 f (omega arith) (omega arith),
      word_next b p q 16 f (omega arith) (omega arith),
      word_next b p q 24 f (omega arith) (omega arith),
    )

-- ---- down

module _ (o : List ℕ) (from to z : ℕ) where
  pub down-start : Lowered o from to z o 0
  down-start = record { within = omega arith; long = refl; bytes = sym (put-nil o to) }

  module _ (b : List ℕ) (i : ℕ) (v : Lowered o from to z b i) where
    pub down_turn : (k : ℕ) → to ≤ from → from + z ≤ length o → i + k ≤ z → Lowered o from to z (put b (to + i) (take k (drop (from + i) b))) (i + k)
    down_turn k h l m =
        let W : List ℕ = take i (drop from o) in
        let X : List ℕ = take k (drop (from + i) o) in
        let lw : length W ≡ i = length-take-le i (drop from o) (rw length-drop (omega arith)) in
        let lx : length X ≡ k = length-take-le k (drop (from + i) o) (rw length-drop (omega arith)) in
        let e : drop (from + i) b ≡ drop (from + i) o =
        ap (drop (from + i)) v.bytes ∙ drop-behind o to W (from + i) (omega arith) (omega arith) in
        let more : W ++ X ≡ take (i + k) (drop from o) =
        ap (λ (y : List ℕ). W ++ take k y) (sym (drop-drop i from o)) ∙ sym (take-add i k (drop from o)) in
        let f : put b (to + i) (take k (drop (from + i) b)) ≡ put b (to + i) X = ap (λ (y : List ℕ). put b (to + i) (take k y)) e in
        record {
          within = m;
          long = ap length f ∙ length-put b (to + i) X (omega (arith, v.long)) ∙ v.long;
          bytes =
              f
              ∙ ap (λ (y : List ℕ). put y (to + i) X) v.bytes
              ∙ ap (λ (n : ℕ). put (put o to W) (to + n) X) (sym lw)
              ∙ put-after o to W X (omega arith)
              ∙ ap (put o to) more;
        }

    pub down-end : z ≤ i → b ≡ put o to (take z (drop from o))
    down-end h = let e : i ≡ z = omega (arith, v.within) in v.bytes ∙ ap (λ (m : ℕ). put o to (take m (drop from o))) e

    pub down-rest : to ≤ from → from + z ≤ length o → put b (to + i) (take (z - i) (drop (from + i) b)) ≡ put o to (take z (drop from o))
    down-rest h l =
        let e : i + (z - i) ≡ z = omega (arith, v.within) in
        (down_turn (z - i) h l (omega arith)).bytes ∙ ap (λ (m : ℕ). put o to (take m (drop from o))) e

-- ---- up

module _ (o : List ℕ) (from to z : ℕ) where
  pub up_start : from ≤ to → Raised o from to z o to
  up_start h =
      let e : to - to ≡ 0 = omega arith in
      record {
        above = h;
        below = omega arith;
        long = refl;
        bytes = sym (ap (λ (m : ℕ). put o (to + z) (take m (drop to o))) e ∙ put-nil o (to + z));
      }

  module _ (b : List ℕ) (i : ℕ) (v : Raised o from to z b i) where
    -- from i down to j, k places below
    pub up_turn : (j k : ℕ) → i ≡ j + k → from ≤ j → to + z ≤ length o → Raised o from to z (put b (j + z) (take k (drop j b))) j
    up_turn j k e h l =
        let W : List ℕ = take (to - i) (drop i o) in
        let X : List ℕ = take k (drop j o) in
        let below : i ≤ to = v.below in
        let lw : length W ≡ to - i = length-take-le (to - i) (drop i o) (rw length-drop (omega arith)) in
        let lx : length X ≡ k = length-take-le k (drop j o) (rw length-drop (omega arith)) in
        let s : take k (drop j b) ≡ X =
        ap (λ (y : List ℕ). take k (drop j y)) v.bytes ∙ take-before o (i + z) W j k (omega arith) (omega arith) in
        let t : k + (to - i) ≡ to - j = omega arith in
        let more : X ++ W ≡ take (to - j) (drop j o) =
        ap (λ (n : ℕ). X ++ take (to - i) (drop n o)) e
        ∙ ap (λ (y : List ℕ). X ++ take (to - i) y) (sym (drop-drop k j o))
        ∙ sym (take-add k (to - i) (drop j o))
        ∙ ap (λ (n : ℕ). take n (drop j o)) t in
        let f : put b (j + z) (take k (drop j b)) ≡ put b (j + z) X = ap (put b (j + z)) s in
        record {
          above = h;
          below = omega arith;
          long = ap length f ∙ length-put b (j + z) X (omega (arith, v.long)) ∙ v.long;
          bytes =
              f
              ∙ ap (λ (y : List ℕ). put y (j + z) X) v.bytes
              ∙ put-before o (j + z) (i + z) X W (omega arith) (omega arith)
              ∙ ap (put o (j + z)) more;
        }

    -- one element more
    pub up_one : from < i → to + z ≤ length o → Raised o from to z (set b (i - 1 + z) (get_or b (i - 1) 0)) (i - 1)
    up_one h l =
        let m : i ≤ to = v.below in
        rw (one_byte b (i - 1) (i - 1 + z) (omega (arith, v.long)) (omega (arith, v.long))) (up_turn (i - 1) 1 (omega arith) (omega arith) l)

    pub up-end : i ≤ from → b ≡ put o (from + z) (take (to - from) (drop from o))
    up-end h =
        let e : i ≡ from = omega (arith, v.above) in
        v.bytes ∙ ap (λ (m : ℕ). put o (m + z) (take (to - m) (drop m o))) e

    pub up_rest : to + z ≤ length o → put b (from + z) (take (i - from) (drop from b)) ≡ put o (from + z) (take (to - from) (drop from o))
    up_rest l = let k : from ≤ i = v.above in (up_turn from (i - from) (omega arith) (omega arith) l).bytes
