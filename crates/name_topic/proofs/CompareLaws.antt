-- Laws of names compared where they lie, without being built.
--
-- In order: four hexadecimal digits as one number (`hex-value`, `hex-word`), and a text that has them (`word_at`); a text's last bytes held to a number's
-- decimal digits, the last one first (`Ending`: `ending-start`, `ending-next`, `ending-short`, `ending-other`, `ending-long`, `ending-end`); a descriptor by its
-- pieces (`descriptor-pieces`); the scheme (`scheme-word`); texts that are too short for a name (`name-short`).
-- Assumes nothing.
use Prim.Native.Nat.{ℕ, zero, suc, ◌+◌, ◌-◌, ◌*◌, ◌/◌, ◌%◌, ◌^◌, ◌≤◌, ◌<◌}
use native.Mathlib.Decide.{dec_le, ℕ_discrete}
use native.Mathlib.Numerals.{add-one}
use native.Mathlib.Omega.{arith}
use mathlib.Core.Path.{◌≡◌, refl, sym, ap, ◌∙◌, subst}
use mathlib.Core.Bool.{Bool, false, ◌&&◌, and-true}
use mathlib.Core.List.{List, [], ◌∷◌, ◌++◌, append-nil}
use lib.ListN.{length, take, drop, get_or, length-append, length-drop, drop_of_length-le}
use lib.Seq.{take-add, take-take, drop-cons, drop-drop, drop-append_seam}
use lib.Dec.{eqb}
use lib.Bits.{bit_and, and_mask, and_block, and_le_r}
use borrow.Author.Tests.{eq-eqb, ne_eqb, lt-ltb, le-ltb}
use Rattle.topic_types.specs.declared.KeyRange.{KeyRange}
use Rattle.topic_types.specs.declared.SegmentId.{SegmentId}
use Rattle.slice.specs.Same.{same_bytes, starts_with}
use Rattle.slice.proofs.PartLaws.{Bytes, drop-take}
use Rattle.slice.proofs.SameLaws.{same_refl, same-eq, same_length, same-append, same-part}
use Rattle.slice_int.specs.Be.{be, be_from, be_at, bytes_of}
use Rattle.slice_int.proofs.BeLaws.{bytes_of-be}
use Rattle.slice_int.proofs.WordLaws.{word_same, word-other}
use Rattle.name_topic.specs.Names.{segment_scheme, hex_digit, hex4, decimal_within, decimal, descriptor, segment_topic}
use Rattle.name_topic.proofs.NameLaws.{hex4-length, decimal_nonempty, descriptor-length, segment_topic-length, decimal-next, decimal-end, digits-fewer}

-- ---- hexadecimal

pub hex-value : (n : ℕ) → n < 16 → 0x30 + n + (n + 6) / 16 * 39 ≡ hex_digit n
hex-value n k = go (dec_le 10 n)
  where
    go : Dec (10 ≤ n) → 0x30 + n + (n + 6) / 16 * 39 ≡ hex_digit n
    go (yes h) = rw (le-ltb n 10 h) (omega arith)
    go (no h) = rw (lt-ltb n 10 (omega arith)) (omega arith)

-- the lowest bit of a byte whose upper half is x
low_bit : (x y : ℕ) → y < 2 → bit_and (x * 16 + y) 1 ≡ y
low_bit x y h = and_mask (x * 16 + y) 1 ∙ omega arith

-- which of four bytes are 16 or more
letters : (a b c d : ℕ) → a < 32 → b < 32 → c < 32 → d < 32
    → bit_and ((((a * 256 + b) * 256 + c) * 256 + d) / 16) 0x01010101 ≡ ((a / 16 * 256 + b / 16) * 256 + c / 16) * 256 + d / 16
letters a b c d ha hb hc hd =
    let A : ℕ = 0 * 16 + a / 16 in
    let B : ℕ = a % 16 * 16 + b / 16 in
    let C : ℕ = b % 16 * 16 + c / 16 in
    let D : ℕ = c % 16 * 16 + d / 16 in
    let e : (((a * 256 + b) * 256 + c) * 256 + d) / 16 ≡ ((A * 2 ^ 8 + B) * 2 ^ 8 + C) * 2 ^ 8 + D = omega arith in
    ap (λ (n : ℕ). bit_and n 0x01010101) e
    ∙ and_block 8 ((A * 2 ^ 8 + B) * 2 ^ 8 + C) 0x010101 D 1 (omega arith) (omega arith)
    ∙ rw (and_block 8 (A * 2 ^ 8 + B) 0x0101 C 1 (omega arith) (omega arith), and_block 8 A 1 B 1 (omega arith) (omega arith))
    (rw (low_bit 0 (a / 16) (omega arith), low_bit (a % 16) (b / 16) (omega arith), low_bit (b % 16) (c / 16) (omega arith), low_bit (c % 16) (d / 16) (omega arith)) (omega arith))

module _ (v : ℕ) where
  -- its digits' values, a byte each
  abbrev pub values : ℕ
  values = v / 4096 % 16 * 16777216 + v / 256 % 16 * 65536 + v / 16 % 16 * 256 + v % 16

  be-hex : be (hex4 v)
      ≡ ((hex_digit (v / 4096 % 16) * 256 + hex_digit (v / 256 % 16)) * 256 + hex_digit (v / 16 % 16)) * 256 + hex_digit (v % 16)
  unfolding be be_from hex4
  be-hex = omega arith

  letters-at : bit_and ((values + 0x06060606) / 16) 0x01010101
      ≡ (((v / 4096 % 16 + 6) / 16 * 256 + (v / 256 % 16 + 6) / 16) * 256 + (v / 16 % 16 + 6) / 16) * 256 + (v % 16 + 6) / 16
  letters-at =
      let e : values + 0x06060606 ≡ (((v / 4096 % 16 + 6) * 256 + (v / 256 % 16 + 6)) * 256 + (v / 16 % 16 + 6)) * 256 + (v % 16 + 6) = omega arith in
      ap (λ (n : ℕ). bit_and (n / 16) 0x01010101) e
      ∙ letters (v / 4096 % 16 + 6) (v / 256 % 16 + 6) (v / 16 % 16 + 6) (v % 16 + 6) (omega arith) (omega arith) (omega arith) (omega arith)

  pub letters-most : bit_and ((values + 0x06060606) / 16) 0x01010101 ≤ 0x01010101
  letters-most = and_le_r ((values + 0x06060606) / 16) 0x01010101

  pub hex-word : values + 0x30303030 + bit_and ((values + 0x06060606) / 16) 0x01010101 * 39 ≡ be (hex4 v)
  hex-word =
      rw letters-at
      (omega (arith, be-hex, hex-value (v / 4096 % 16) (omega arith), hex-value (v / 256 % 16) (omega arith), hex-value (v / 16 % 16) (omega arith), hex-value (v % 16) (omega arith)))

digit-byte : (n : ℕ) → n < 16 → hex_digit n < 256
digit-byte n h = omega (arith, hex-value n h)

four_bytes : (a b c d : ℕ) → a < 256 → b < 256 → c < 256 → d < 256 → Bytes (a ∷ b ∷ c ∷ d ∷ [])
four_bytes a b c d ha hb hc hd zero = ha
four_bytes a b c d ha hb hc hd (suc zero) = hb
four_bytes a b c d ha hb hc hd (suc (suc zero)) = hc
four_bytes a b c d ha hb hc hd (suc (suc (suc zero))) = hd
four_bytes a b c d ha hb hc hd (suc (suc (suc (suc i)))) = omega arith

hex4-bytes : (v : ℕ) → Bytes (hex4 v)
unfolding hex4
hex4-bytes v =
    four_bytes (hex_digit (v / 4096 % 16)) (hex_digit (v / 256 % 16)) (hex_digit (v / 16 % 16)) (hex_digit (v % 16)) (digit-byte (v / 4096 % 16) (omega arith))
    (digit-byte (v / 256 % 16) (omega arith)) (digit-byte (v / 16 % 16) (omega arith)) (digit-byte (v % 16) (omega arith))

-- a mark and four digits at a place
module _ (s : List ℕ) (at m v : ℕ) (h : at + 5 ≤ length s) where
  at_mark : same_bytes (take 5 (drop at s)) (m ∷ hex4 v) ≡ (eqb (get_or s at 0) m && same_bytes (take 4 (drop (at + 1) s)) (hex4 v))
  unfolding same_bytes
  at_mark = rw (add-one, drop-cons s at 0 (omega arith))

  pub word-mark : (get_or s at 0 ≡ m → ⊥) → same_bytes (take 5 (drop at s)) (m ∷ hex4 v) ≡ false
  word-mark e = at_mark ∙ rw (ne_eqb (get_or s at 0) m e)

  pub word_at : get_or s at 0 ≡ m → Bytes s → eqb (be_at 4 s (at + 1)) (be (hex4 v)) ≡ same_bytes (take 5 (drop at s)) (m ∷ hex4 v)
  word_at e b = go (ℕ_discrete (be_at 4 s (at + 1)) (be (hex4 v))) ∙ sym (at_mark ∙ rw (eq-eqb (get_or s at 0) m e))
    where
      go : Dec (be_at 4 s (at + 1) ≡ be (hex4 v)) → eqb (be_at 4 s (at + 1)) (be (hex4 v)) ≡ same_bytes (take 4 (drop (at + 1) s)) (hex4 v)
      go (yes q) =
          eq-eqb (be_at 4 s (at + 1)) (be (hex4 v)) q
          ∙ sym (word_same 4 (be (hex4 v)) (at + 1) s (hex4 v) (omega arith) b (bytes_of-be 4 (hex4 v) (hex4-length v) (hex4-bytes v)) q)
      go (no q) = ne_eqb (be_at 4 s (at + 1)) (be (hex4 v)) q ∙ sym (word-other 4 (be (hex4 v)) (at + 1) s (hex4 v) refl q)

-- ---- decimal

-- the bytes from the place e on are the last digits of id; v is what is left of it
pub record Ending (id : ℕ) (s : List ℕ) (at e v : ℕ) : Type 0 where
  pub low : at ≤ e
  pub high : e ≤ length s
  pub left : length s < 20 + e
  pub below : v < 10 ^ (20 + e - length s)
  pub value : decimal id ≡ decimal_within (20 + e - length s) v ++ drop e s

pub ending-start : (id : ℕ) (s : List ℕ) (at : ℕ) → at < length s → id < 10 ^ 20 → Ending id s at (length s) id
unfolding decimal
ending-start id s at h b =
    let k : 20 + length s - length s ≡ 20 = omega arith in
    let n : drop (length s) s ≡ [] = drop_of_length-le s {i = length s} (omega arith) in
    record {
      low = omega arith;
      high = omega arith;
      left = omega arith;
      below = rw k b;
      value = sym (rw (k, n) (append-nil (decimal_within 20 id)));
    }

module _ (id : ℕ) (s : List ℕ) (at e v : ℕ) (E : Ending id s at e v) where
  count-is : 20 + e - length s ≡ suc (19 + e - length s)
  count-is = omega (arith, E.left)

  value-at : decimal id ≡ decimal_within (suc (19 + e - length s)) v ++ drop e s
  value-at = E.value ∙ ap (λ (k : ℕ). decimal_within k v ++ drop e s) count-is

  -- the next digit stands before them
  module _ (h : 10 ≤ v) where
    value-next : decimal id ≡ decimal_within (19 + e - length s) (v / 10) ++ ((0x30 + v % 10) ∷ drop e s)
    value-next = value-at ∙ decimal-next (19 + e - length s) v (drop e s) ((0x30 + v % 10) ∷ drop e s) h refl

    pub ending-next : at < e → get_or s (e - 1) 0 ≡ 0x30 + v % 10 → Ending id s at (e - 1) (v / 10)
    ending-next k q =
        let p = digits-fewer (19 + e - length s) v h (subst (λ (n : ℕ). v < 10 ^ n) count-is E.below) in
        let n : 20 + (e - 1) - length s ≡ 19 + e - length s = omega arith in
        let d : suc (e - 1) ≡ e = omega arith in
        let t : drop (e - 1) s ≡ (0x30 + v % 10) ∷ drop e s = drop-cons s (e - 1) 0 (omega (arith, E.high)) ∙ rw (q, d) in
        record {
          low = omega arith;
          high = omega (arith, E.high);
          left = omega (arith, p.0, E.left);
          below = rw n p.1;
          value = rw (n, t) value-next;
        }

    -- the text has no more bytes
    pub ending-short : e ≤ at → same_bytes (drop at s) (decimal id) ≡ false
    ending-short k =
        let l : length (decimal id) ≡ length (decimal_within (19 + e - length s) (v / 10)) + suc (length (drop e s)) =
        ap length value-next ∙ length-append (decimal_within (19 + e - length s) (v / 10)) ((0x30 + v % 10) ∷ drop e s) in
        same_length (drop at s) (decimal id) (λ q. absurd (omega (arith, l, q, E.low, E.high, length-drop at s, length-drop e s)))

    -- the byte before them is another
    pub ending-other : at < e → (get_or s (e - 1) 0 ≡ 0x30 + v % 10 → ⊥) → same_bytes (drop at s) (decimal id) ≡ false
    unfolding same_bytes
    ending-other k q = go (ℕ_discrete (length X) (e - 1 - at))
      where
        X : List ℕ
        X = decimal_within (19 + e - length s) (v / 10)

        R : List ℕ
        R = (0x30 + v % 10) ∷ drop e s

        go : Dec (length X ≡ e - 1 - at) → same_bytes (drop at s) (decimal id) ≡ false
        go (yes z) =
            let n : at + length X ≡ e - 1 = omega (arith, E.low) in
            let d : suc (e - 1) ≡ e = omega arith in
            let t : drop (length X) (drop at s) ≡ get_or s (e - 1) 0 ∷ drop e s =
            drop-drop (length X) at s ∙ ap (λ (i : ℕ). drop i s) n ∙ drop-cons s (e - 1) 0 (omega (arith, E.high)) ∙ rw d in
            let u : drop (length X) (decimal id) ≡ R = ap (drop (length X)) value-next ∙ drop-append_seam X R in
            same-part (drop (length X)) (drop at s) (decimal id) (rw (t, u, ne_eqb (get_or s (e - 1) 0) (0x30 + v % 10) q))
        go (no z) =
            let l : length (decimal id) ≡ length X + suc (length (drop e s)) = ap length value-next ∙ length-append X R in
            same_length (drop at s) (decimal id) (λ w. absurd (omega (arith, l, w, E.low, E.high, length-drop at s, length-drop e s)))

  -- one digit is left
  module _ (h : v < 10) where
    value-end : decimal id ≡ (0x30 + v) ∷ drop e s
    value-end = value-at ∙ ap (λ (l : List ℕ). l ++ drop e s) (decimal-end (19 + e - length s) v h)

    pub ending-long : (e ≡ at + 1 → ⊥) → same_bytes (drop at s) (decimal id) ≡ false
    ending-long k =
        let l : length (decimal id) ≡ suc (length (drop e s)) = ap length value-end in
        same_length (drop at s) (decimal id) (λ q. absurd (omega (arith, l, q, E.low, E.high, length-drop at s, length-drop e s)))

    pub ending-end : e ≡ at + 1 → eqb (get_or s at 0) (0x30 + v) ≡ same_bytes (drop at s) (decimal id)
    unfolding same_bytes
    ending-end k =
        let d : suc at ≡ e = omega arith in
        let t : drop at s ≡ get_or s at 0 ∷ drop e s = drop-cons s at 0 (omega (arith, E.high)) ∙ rw d in
        sym (rw (value-end, t, same_refl (drop e s)) (and-true (eqb (get_or s at 0) (0x30 + v))))

-- ---- the descriptor

pub descriptor-pieces : (s : List ℕ) (at : ℕ) (range : KeyRange) (id : SegmentId) → at + 12 ≤ length s
    → same_bytes (drop at s) (descriptor range id)
    ≡ (same_bytes (take 5 (drop at s)) (0x2F ∷ hex4 range.start)
    && (same_bytes (take 5 (drop (at + 5) s)) (0x2D ∷ hex4 range.end) && (eqb (get_or s (at + 10) 0) 0x2D && same_bytes (drop (at + 11) s) (decimal id.0))))
unfolding descriptor starts_with same_bytes hex4
descriptor-pieces s at range id h =
    let A : List ℕ = 0x2F ∷ hex4 range.start in
    let B : List ℕ = 0x2D ∷ hex4 range.end in
    let D : List ℕ = 0x2D ∷ decimal id.0 in
    let e : suc (at + 10) ≡ at + 11 = omega arith in
    let n : at + 5 + 5 ≡ at + 10 = omega arith in
    let t : drop 5 (drop (at + 5) s) ≡ get_or s (at + 10) 0 ∷ drop (at + 11) s =
    drop-drop 5 (at + 5) s ∙ ap (λ (i : ℕ). drop i s) n ∙ drop-cons s (at + 10) 0 (omega arith) ∙ rw e in
    let second : same_bytes (drop 5 (drop at s)) (B ++ D) ≡ (same_bytes (take 5 (drop (at + 5) s)) B && same_bytes (drop 5 (drop (at + 5) s)) D) =
    ap (λ (l : List ℕ). same_bytes l (B ++ D)) (drop-drop 5 at s) ∙ same-append B D (drop (at + 5) s) in
    same-append A (B ++ D) (drop at s)
    ∙ ap (λ (x : Bool). same_bytes (take 5 (drop at s)) A && x)
    (second ∙ ap (λ (l : List ℕ). same_bytes (take 5 (drop (at + 5) s)) B && same_bytes l D) t)

-- ---- the scheme, and texts that are too short

module _ (text : List ℕ) where
  pub scheme-other : (be_at 8 text 0 ≡ 0x7365676D656E743A → ⊥) → starts_with segment_scheme text ≡ false
  unfolding starts_with be be_from
  scheme-other e =
      same-part (take 8) (take 10 text) segment_scheme
      (rw (take-take 8 10 text (omega arith)) (word-other 8 0x7365676D656E743A 0 text (take 8 segment_scheme) refl e))

  pub scheme-word : 10 ≤ length text → Bytes text → be_at 8 text 0 ≡ 0x7365676D656E743A
      → eqb (be_at 2 text 8) 0x2F2F ≡ starts_with segment_scheme text
  unfolding starts_with be be_from bytes_of
  scheme-word h b e = go (ℕ_discrete (be_at 2 text 8) 0x2F2F)
    where
      go : Dec (be_at 2 text 8 ≡ 0x2F2F) → eqb (be_at 2 text 8) 0x2F2F ≡ starts_with segment_scheme text
      go (yes k) =
          let p : take 8 text ≡ take 8 segment_scheme = same-eq _ _ (word_same 8 0x7365676D656E743A 0 text (take 8 segment_scheme) (omega arith) b refl e) in
          let q : take 2 (drop 8 text) ≡ drop 8 segment_scheme = same-eq _ _ (word_same 2 0x2F2F 8 text (drop 8 segment_scheme) (omega arith) b refl k) in
          let t : take 10 text ≡ segment_scheme = take-add 8 2 text ∙ rw (p, q) in
          eq-eqb (be_at 2 text 8) 0x2F2F k ∙ sym (rw t (same_refl segment_scheme))
      go (no k) =
          let t : take 2 (drop 8 (take 10 text)) ≡ take 2 (drop 8 text) = ap (take 2) (drop-take 8 2 text) ∙ take-take 2 2 (drop 8 text) (omega arith) in
          ne_eqb (be_at 2 text 8) 0x2F2F k
          ∙ sym
          (same-part (λ (l : List ℕ). take 2 (drop 8 l)) (take 10 text) segment_scheme
          (rw t (word-other 2 0x2F2F 8 text (drop 8 segment_scheme) refl k)))

  pub name-short : (path : List ℕ) (range : KeyRange) (id : SegmentId) → length text < 22 + length path
      → same_bytes text (segment_topic path range id) ≡ false
  name-short path range id h =
      same_length text (segment_topic path range id)
      (λ e. absurd (omega (arith, e, segment_topic-length range id path, descriptor-length range id, decimal_nonempty id.0)))
