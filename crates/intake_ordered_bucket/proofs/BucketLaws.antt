-- Laws of a bucket in a message's usual form.
--
-- In order: nothing is left of a row (`row-end`); a range (`range-row`), and what is told of one (`range-told`,
-- `wide-told`); a number of three bytes (`three`) and a part of eight (`eight`); the bytes of a word by its tests
-- (`wide`), and the bucket (`wide-bucket`).
-- Assumes nothing.
use Rattle.std.specs.Prelude.{Option, Some, None}
use Prim.Native.Nat.{ℕ, ◌+◌, ◌-◌, ◌*◌, ◌/◌, ◌%◌, ◌≤◌, ◌<◌}
use native.Mathlib.Nat.{div-div-eq-div-mul}
use native.Mathlib.Omega.{arith}
use mathlib.Core.Path.{◌≡◌, refl, sym, ap, subst, ◌∙◌}
use mathlib.Core.List.{List, [], ◌∷◌}
use lib.ListN.{length, take, drop, get_or, length-drop}
use lib.Seq.{get_or-take, get_or-drop, length-take-le}
use Rattle.slice.proofs.PartLaws.{Bytes, rest}
use Rattle.slice_int.specs.Be.{be_at}
use Rattle.slice_int.proofs.BeLaws.{be-at-add, be-at-one}
use Rattle.wire.specs.declared.WireType.TheVariants as wire
use Rattle.wire.specs.Varints.{varint_of}
use Rattle.wire.specs.Field.{body_of}
use Rattle.wire.specs.Fields.{number, Field, field, fields_of}
use Rattle.wire.proofs.VarintLaws.{varint-one, varint-behind-two, shifted-ends}
use Rattle.wire.proofs.FieldLaws.{part-fits}
use Rattle.wire.proofs.FieldsLaws.{fields-nil}
use Rattle.wire_ordered.specs.Ordered.{NumberIs, PartField}
use Rattle.wire_ordered.proofs.OrderedLaws.{number-field, part_field}
use Rattle.intake_ordered_bucket.specs.Buckets.{RangeOf, RangeRow, RangeIs, WordIs, BucketAt, WideIs}

-- nothing is left of a row
pub row-end : (s : List ℕ) (at : ℕ) → length s ≤ at → fields_of (drop at s) ≡ []
row-end s at h = fields-nil (drop at s) (omega (arith, length-drop at s))

-- ---- a range

pub range-row : {q : List ℕ} {start end second behind : ℕ} → NumberIs 1 q 0 start second → NumberIs 2 q second end behind
    → behind ≡ length q → start ≤ end → end ≤ 65535 → RangeRow q start end
range-row {q} {start} {end} {second} {behind} m n e o h =
    record {
      row = m.fields ∙ ap (λ (fs : List Field). field 1 wire.Varint (number start) ∷ fs)
          (n.fields ∙ ap (λ (fs : List Field). field 2 wire.Varint (number end) ∷ fs) (row-end q behind (omega arith)));
      order = o;
      high = h;
    }

-- .. told of where it is in order and within the key space
pub range-told : {q : List ℕ} {start end : ℕ} (r : Option (ℕ × ℕ)) → RangeOf start end r → (start ≤ end → end ≤ 65535 → RangeRow q start end) → RangeIs q r
range-told (Some (s, e)) h f = rw (h.0, h.1) (f h.2 h.3)
range-told None h f = tt

-- .. and of a field of 10 bytes
pub wide-told : {p : List ℕ} {at start end : ℕ} (r : Option (ℕ × ℕ)) → RangeOf start end r
    → (start ≤ end → end ≤ 65535 → BucketAt p at start end (at + 10)) → WideIs p at r
wide-told (Some (s, e)) h f = rw (h.0, h.1) (f h.2 h.3)
wide-told None h f = tt

-- ---- a bucket in one word

-- the first k + 1 bytes at a place, by the last of them
digit : (s : List ℕ) (at k : ℕ) → at + k < length s → be_at (k + 1) s at ≡ be_at k s at * 256 + get_or s (at + k) 0
digit s at k h = be-at-add k 1 s at (omega arith) ∙ ap (λ (n : ℕ). be_at k s at * 256 + n) (be-at-one s (at + k) h)

-- the number of field f, of three bytes, behind a key of one byte
three : (f : ℕ) (q : List ℕ) (at : ℕ) → 0 < f → f < 16 → at + 4 ≤ length q → get_or q at 0 ≡ 8 * f → 128 ≤ get_or q (at + 1) 0
    → 128 ≤ get_or q (at + 2) 0 → get_or q (at + 3) 0 < 128
    → NumberIs f q at (get_or q (at + 1) 0 - 128 + 128 * (get_or q (at + 2) 0 - 128) + 16384 * get_or q (at + 3) 0) (at + 4)
three f q at low high h e a b c =
    let s : List ℕ = drop (at + 1) q in
    let n : length s ≡ length q - (at + 1) = length-drop (at + 1) q in
    let x : get_or s 0 0 ≡ get_or q (at + 1) 0 = get_or-drop (at + 1) q 0 0 ∙ ap (λ (i : ℕ). get_or q i 0) (let z : at + 1 + 0 ≡ at + 1 = omega arith in z) in
    let y : get_or s 1 0 ≡ get_or q (at + 2) 0 = get_or-drop (at + 1) q 1 0 ∙ ap (λ (i : ℕ). get_or q i 0) (let z : at + 1 + 1 ≡ at + 2 = omega arith in z) in
    let w : get_or s 2 0 ≡ get_or q (at + 3) 0 = get_or-drop (at + 1) q 2 0 ∙ ap (λ (i : ℕ). get_or q i 0) (let z : at + 1 + 2 ≡ at + 3 = omega arith in z) in
    let v : varint_of s ≡ Some (get_or s 0 0 - 128 + 128 * (get_or s 1 0 - 128) + 16384 * get_or s 2 0, 3) =
    varint-behind-two s (omega arith) (omega arith) (omega arith) (omega arith)
    ∙ shifted-ends s 2 (get_or s 0 0 - 128 + 128 * (get_or s 1 0 - 128)) 16384 (omega arith) (omega arith) (omega arith) in
    let m : at + 1 + 3 ≡ at + 4 = omega arith in
    let total : ℕ = get_or q (at + 1) 0 - 128 + 128 * (get_or q (at + 2) 0 - 128) + 16384 * get_or q (at + 3) 0 in
    let u : varint_of s ≡ Some (total, 3) = rw (x, y, w) at v in
    subst (NumberIs f q at total) m (number-field f q at (omega arith) low high e total 3 (ap varint_of (rest q (at + 1)) ∙ u))

-- a part of eight bytes
eight : (p : List ℕ) (at : ℕ) → at + 10 ≤ length p → get_or p at 0 ≡ 42 → get_or p (at + 1) 0 ≡ 8 → PartField 5 p at (at + 2) (at + 10)
eight p at h e f =
    let s : List ℕ = drop (at + 1) p in
    let n : length s ≡ length p - (at + 1) = length-drop (at + 1) p in
    let x : get_or s 0 0 ≡ 8 = get_or-drop (at + 1) p 0 0 ∙ ap (λ (i : ℕ). get_or p i 0) (let z : at + 1 + 0 ≡ at + 1 = omega arith in z) ∙ f in
    let v : varint_of s ≡ Some (8, 1) = varint-one s (omega arith) (omega arith) ∙ ap (λ (i : ℕ). Some (i, 1)) x in
    let m : at + 1 + 1 ≡ at + 2 = omega arith in
    let k : at + 1 + 1 + 8 ≡ at + 10 = omega arith in
    subst (λ (i : ℕ). PartField 5 p at i (at + 10)) m
    (subst (PartField 5 p at (at + 1 + 1)) k
    (part_field 5 p at (omega arith) (omega arith) (omega arith) e 1 8 (ap (body_of wire.Len) (rest p (at + 1)) ∙ part-fits s 8 1 v (omega arith))))

-- what a word says of its eight bytes
record Wide (w a b c d e f g h : ℕ) : Type 0 where
  first : a ≡ 8
  low1 : 128 ≤ b
  low2 : 128 ≤ c
  low3 : d < 128
  second : e ≡ 16
  high1 : 128 ≤ f
  high2 : 128 ≤ g
  high3 : h < 128
  start_is : w / 281474976710656 % 128 + w / 1099511627776 % 128 * 128 + w / 4294967296 % 128 * 16384 ≡ b - 128 + 128 * (c - 128) + 16384 * d
  end_is : w / 65536 % 128 + w / 256 % 128 * 128 + w % 128 * 16384 ≡ f - 128 + 128 * (g - 128) + 16384 * h

-- the last byte of a word, and the sum of three numbers
seventh : (p e : ℕ) → (p * 256 + e) % 256 ≡ 16 → e < 256 → e ≡ 16
seventh p e t l = omega arith

total : {x y z b c d : ℕ} → x ≡ b → y ≡ c → z ≡ d → x + y * 128 + z * 16384 ≡ b + 128 * c + 16384 * d
total f g h = omega (arith, f, g, h)

-- a word without its last byte
shorter : (w m n p q g : ℕ) → w / m ≡ p → p ≡ q * 256 + g → g < 256 → m * 256 ≡ n → w / n ≡ q
shorter w m n p q g d e l k =
    let z : (q * 256 + g) / 256 ≡ q = omega arith in
    ap (λ (i : ℕ). w / i) (sym k) ∙ sym (div-div-eq-div-mul w m 256) ∙ ap (λ (i : ℕ). i / 256) (d ∙ e) ∙ z

-- the byte g of a word, by its highest bit and by the others
module _ (w m q g : ℕ) (d : w / m ≡ q * 256 + g) (l : g < 256) where
  top : (n : ℕ) → m * 128 ≡ n → w / n ≡ (q * 256 + g) / 128
  top n k = ap (λ (i : ℕ). w / i) (sym k) ∙ sym (div-div-eq-div-mul w m 128) ∙ ap (λ (i : ℕ). i / 128) d

  set : (n : ℕ) → m * 128 ≡ n → w / n % 2 ≡ 1 → 128 ≤ g
  set n k e = let z = top n k in let y : (q * 256 + g) / 128 % 2 ≡ 1 = ap (λ (i : ℕ). i % 2) (sym z) ∙ e in omega (arith, y)

  clear : (n : ℕ) → m * 128 ≡ n → w / n % 2 ≡ 0 → g < 128
  clear n k e = let z = top n k in let y : (q * 256 + g) / 128 % 2 ≡ 0 = ap (λ (i : ℕ). i % 2) (sym z) ∙ e in omega (arith, y)

  bits-set : 128 ≤ g → w / m % 128 ≡ g - 128
  bits-set h = let z : (q * 256 + g) % 128 ≡ g - 128 = omega arith in ap (λ (i : ℕ). i % 128) d ∙ z

  bits-clear : g < 128 → w / m % 128 ≡ g
  bits-clear h = let z : (q * 256 + g) % 128 ≡ g = omega arith in ap (λ (i : ℕ). i % 128) d ∙ z

module _ {p1 p2 p3 p4 p5 p6 : ℕ} (w a b c d e f g h : ℕ) (s1 : p1 ≡ a * 256 + b) (s2 : p2 ≡ p1 * 256 + c) (s3 : p3 ≡ p2 * 256 + d)
    (s4 : p4 ≡ p3 * 256 + e) (s5 : p5 ≡ p4 * 256 + f) (s6 : p6 ≡ p5 * 256 + g) (s7 : w ≡ p6 * 256 + h)
    (lb : b < 256) (lc : c < 256) (ld : d < 256) (le : e < 256) (lf : f < 256) (lg : g < 256) (lh : h < 256) where
  wide : w / 72057594037927936 ≡ 8 → w / 16777216 % 256 ≡ 16 → w / 36028797018963968 % 2 ≡ 1 → w / 140737488355328 % 2 ≡ 1
      → w / 549755813888 % 2 ≡ 0 → w / 8388608 % 2 ≡ 1 → w / 32768 % 2 ≡ 1 → w / 128 % 2 ≡ 0 → Wide w a b c d e f g h
  wide t0 t4 t1 t2 t3 t5 t6 t7 =
      let d6 : w / 256 ≡ p6 = omega (arith, s7) in
      let d5 : w / 65536 ≡ p5 = shorter w 256 65536 p6 p5 g d6 s6 lg refl in
      let d4 : w / 16777216 ≡ p4 = shorter w 65536 16777216 p5 p4 f d5 s5 lf refl in
      let d3 : w / 4294967296 ≡ p3 = shorter w 16777216 4294967296 p4 p3 e d4 s4 le refl in
      let d2 : w / 1099511627776 ≡ p2 = shorter w 4294967296 1099511627776 p3 p2 d d3 s3 ld refl in
      let d1 : w / 281474976710656 ≡ p1 = shorter w 1099511627776 281474976710656 p2 p1 c d2 s2 lc refl in
      let d0 : w / 72057594037927936 ≡ a = shorter w 281474976710656 72057594037927936 p1 a b d1 s1 lb refl in
      let u1 = set w 281474976710656 a b (d1 ∙ s1) lb 36028797018963968 refl t1 in
      let u2 = set w 1099511627776 p1 c (d2 ∙ s2) lc 140737488355328 refl t2 in
      let u3 = clear w 4294967296 p2 d (d3 ∙ s3) ld 549755813888 refl t3 in
      let u5 = set w 65536 p4 f (d5 ∙ s5) lf 8388608 refl t5 in
      let u6 = set w 256 p5 g (d6 ∙ s6) lg 32768 refl t6 in
      let u7 : h < 128 = omega (arith, s7, t7) in
      let v4 : e ≡ 16 = seventh p3 e (sym (ap (λ (i : ℕ). i % 256) (d4 ∙ s4)) ∙ t4) le in
      let v7 : w % 128 ≡ h = omega (arith, s7) in
      record {
        first = sym d0 ∙ t0;
        low1 = u1;
        low2 = u2;
        low3 = u3;
        second = v4;
        high1 = u5;
        high2 = u6;
        high3 = u7;
        start_is =
            total (bits-set w 281474976710656 a b (d1 ∙ s1) lb u1) (bits-set w 1099511627776 p1 c (d2 ∙ s2) lc u2)
            (bits-clear w 4294967296 p2 d (d3 ∙ s3) ld u3);
        end_is = total (bits-set w 65536 p4 f (d5 ∙ s5) lf u5) (bits-set w 256 p5 g (d6 ∙ s6) lg u6) v7;
      }

-- the bucket at a place, by its word
pub wide-bucket : {p : List ℕ} {at w : ℕ} → Bytes p → WordIs p at w → get_or p at 0 ≡ 42 → get_or p (at + 1) 0 ≡ 8
    → w / 72057594037927936 ≡ 8 → w / 16777216 % 256 ≡ 16 → w / 36028797018963968 % 2 ≡ 1 → w / 140737488355328 % 2 ≡ 1
    → w / 549755813888 % 2 ≡ 0 → w / 8388608 % 2 ≡ 1 → w / 32768 % 2 ≡ 1 → w / 128 % 2 ≡ 0
    → {start end : ℕ} → start ≡ w / 281474976710656 % 128 + w / 1099511627776 % 128 * 128 + w / 4294967296 % 128 * 16384
    → end ≡ w / 65536 % 128 + w / 256 % 128 * 128 + w % 128 * 16384 → start ≤ end → end ≤ 65535 → BucketAt p at start end (at + 10)
wide-bucket {p} {at} {w} bytes W k l t0 t4 t1 t2 t3 t5 t6 t7 {start} {end} es ee o m =
    let q : List ℕ = take 8 (drop (at + 2) p) in
    let i = W.within in
    let n : length q ≡ 8 = length-take-le 8 (drop (at + 2) p) (omega (arith, length-drop (at + 2) p)) in
    let x : (j : ℕ) → j < 8 → get_or q j 0 ≡ get_or p (at + 2 + j) 0 = λ j y. get_or-take 8 (drop (at + 2) p) j 0 y ∙ get_or-drop (at + 2) p j 0 in
    let s : (j : ℕ) → j < 8 → be_at (j + 1) p (at + 2) ≡ be_at j p (at + 2) * 256 + get_or q j 0 =
    λ j y. digit p (at + 2) j (omega arith) ∙ ap (λ (v : ℕ). be_at j p (at + 2) * 256 + v) (sym (x j y)) in
    let z : (j : ℕ) → j < 8 → get_or q j 0 < 256 = λ j y. subst (λ (v : ℕ). v < 256) (sym (x j y)) (bytes (at + 2 + j)) in
    let s0 : be_at 1 p (at + 2) ≡ get_or q 0 0 = be-at-one p (at + 2) (omega arith) ∙ sym (x 0 (omega arith) ∙ ap (λ (v : ℕ). get_or p v 0) (let y : at + 2 + 0 ≡ at + 2 = omega arith in y)) in
    let v = wide w (get_or q 0 0) (get_or q 1 0) (get_or q 2 0) (get_or q 3 0) (get_or q 4 0) (get_or q 5 0) (get_or q 6 0) (get_or q 7 0)
    (s 1 (omega arith) ∙ ap (λ (j : ℕ). j * 256 + get_or q 1 0) s0) (s 2 (omega arith)) (s 3 (omega arith)) (s 4 (omega arith)) (s 5 (omega arith)) (s 6 (omega arith)) (W.word-is ∙ s 7 (omega arith))
    (z 1 (omega arith)) (z 2 (omega arith)) (z 3 (omega arith)) (z 4 (omega arith)) (z 5 (omega arith)) (z 6 (omega arith)) (z 7 (omega arith))
    t0 t4 t1 t2 t3 t5 t6 t7 in
    let f1 = three 1 q 0 (omega arith) (omega arith) (omega arith) v.first v.low1 v.low2 v.low3 in
    let f2 = three 2 q 4 (omega arith) (omega arith) (omega arith) v.second v.high1 v.high2 v.high3 in
    let g1 = subst (λ (j : ℕ). NumberIs 1 q 0 j 4) (sym (es ∙ v.start_is)) f1 in
    let g2 = subst (λ (j : ℕ). NumberIs 2 q 4 j 8) (sym (ee ∙ v.end_is)) f2 in
    let c : at + 10 - (at + 2) ≡ 8 = omega arith in
    record {
      from = at + 2;
      part = eight p at i k l;
      range = subst (λ (j : ℕ). RangeRow (take j (drop (at + 2) p)) start end) (sym c) (range-row g1 g2 (sym n) o m);
    }
