-- A descriptor read at fixed places is the Rust's, which splits it at '-' (`descriptor-agrees`).
--
-- In order: bytes that pass a test (`every-agrees`); the words and the id (`word-agrees`, `id-agrees`); the split at '-'
-- (`split-behind`, `split-none`, `split-joined`); a descriptor is its three parts joined, and the other way round; the law.
-- Assumes nothing.
use Rattle.std.specs.Prelude.{Option, Some, None}
use Prim.Native.Nat.{ℕ, suc, ◌+◌, ◌^◌, ◌<◌}
use native.Mathlib.Omega.{arith}
use mathlib.Core.Path.{◌≡◌, refl, sym, ap, ap₂, ◌∙◌, subst}
use mathlib.Core.Bool.{Bool, true, false, cond, not, ◌&&◌, ◌||◌, and-false, true≢false}
use mathlib.Core.List.{List, [], ◌∷◌, ◌++◌}
use lib.ListN.{length, take, drop, get_or, length-drop, take-append-drop}
use lib.Seq.{take_at, drop-append-add, get_or_at, get_or-drop, drop-cons, drop-drop}
use lib.Dec.{eqb, ltb}
use borrow.Author.Tests.{eqb-true, ltb-true, ne_eqb, lt-ltb}
use Rattle.slice.specs.BoolLaws.{both_true}
use Rattle.name_parents.specs.Classes.{class_of, is_dash, is_digit_byte, is_hex_digit}
use Rattle.name_parents.specs.Parents.{non_empty}
use Rattle.name_digits.specs.Digits.{every, all_digits, all_hex_digits, decimal_value, hex_value, is_hex_word, is_segment_id}
use Rattle.name_source.specs.Parse.{start_part, end_part, id_part, is_descriptor}
use Rattle.name_digits.proofs.DigitLaws.{word_bound}
use Rattle.rust_magnetar.specs.Result.{Result, Ok, Err, ◌>>=◌, ok_or}
use Rattle.rust_magnetar.specs.Text.{Text, text-eq, contains, starts-with, all-bytes, head-longer, split}
use Rattle.rust_magnetar.specs.Numerals.{u32-from-str-radix, parse-u64}
use Rattle.rust_magnetar.specs.SegmentTopic.{dash, is_ascii_digit, is-hex-byte, parse-canonical-hex-word, is-canonical-decimal}
use Rattle.rust_magnetar.specs.SegmentTopic.{Descriptor, descriptor-of}
use Rattle.rust_names.proofs.ClassTests.{dash-test, digit-test, hex-test}
use Rattle.rust_names.proofs.NumeralAgrees.{decimal-number, hex-number}

-- ---- digits

every-agrees : (f g : ℕ → Bool) → ((b : ℕ) → g b ≡ f b) → (s : Text) → all-bytes f s ≡ every g s
unfolding every
every-agrees f g h [] = refl
every-agrees f g h (b ∷ s) = rw (h b, every-agrees f g h s)

word_number : (s : Text) → is_hex_word s ≡ true → u32-from-str-radix 16 s ≡ Some (hex_value s)
unfolding is_hex_word
word_number s e =
    let p = both_true (eqb (length s) 4) (all_hex_digits s) e in
    let b : ltb (hex_value s) (2 ^ 32) ≡ true = lt-ltb (hex_value s) (2 ^ 32) (omega (arith, word_bound s e)) in
    hex-number (2 ^ 32) s (omega (arith, eqb-true (length s) 4 p.0)) p.1 ∙ rw b

pub word-agrees : (s : Text) → parse-canonical-hex-word s ≡ cond (is_hex_word s) (Some (hex_value s)) None
unfolding is_hex_word
word-agrees s =
    ap (λ (t : Bool). cond (eqb (length s) 4 && t) (u32-from-str-radix 16 s) None) (every-agrees is-hex-byte is_hex_digit hex-test s)
    ∙ go (is_hex_word s) refl
  where
    go : (t : Bool) → is_hex_word s ≡ t → cond t (u32-from-str-radix 16 s) None ≡ cond t (Some (hex_value s)) None
    go true e = word_number s e
    go false e = refl

-- one digit, or no leading zero; the Rust: "0", or no leading zero
abbrev led : Text → Bool
led s = eqb (length s) 1 || not (eqb (get_or s 0 0) 0x30)

leading-agrees : (s : Text) → 0 < length s → (text-eq s (0x30 ∷ []) || not (starts-with 0x30 s)) ≡ led s
leading-agrees [] h = absurd (omega arith)
leading-agrees (b ∷ []) h = go (eqb b 0x30)
  where
    go : (t : Bool) → ((t && true) || not t) ≡ true
    go true = refl
    go false = refl
leading-agrees (b ∷ (c ∷ s)) h = rw (and-false, ne_eqb (suc (suc (length s))) 1 (λ q. omega arith))

decimal-agrees : (s : Text) → is-canonical-decimal s ≡ (non_empty s && (all_digits s && led s))
decimal-agrees [] = refl
decimal-agrees (b ∷ s) =
    rw (lt-ltb 0 (suc (length s)) (omega arith))
    (ap₂ (λ (t u : Bool). t && u) (every-agrees is_ascii_digit is_digit_byte digit-test (b ∷ s)) (leading-agrees (b ∷ s) (omega arith)))

pub id-agrees : {E : Type 0} (e : E) (s : Text)
    → cond (not (is-canonical-decimal s)) (Err e) (ok_or e (parse-u64 s)) ≡ cond (is_segment_id s) (Ok (decimal_value s)) (Err e)
unfolding is_segment_id
id-agrees {E} e s =
    ap (λ (t : Bool). cond (not t) (Err e) (ok_or e (parse-u64 s))) (decimal-agrees s)
    ∙ go (non_empty s) refl (all_digits s) refl (led s)
  where
    fits : (w : Bool)
        → ok_or {E = E} e (cond w (Some (decimal_value s)) None) ≡ cond w (Ok (decimal_value s)) (Err e)
    fits true = refl
    fits false = refl

    go : (t : Bool) → non_empty s ≡ t → (u : Bool) → all_digits s ≡ u → (v : Bool)
        → cond {A = Result ℕ E} (not (t && (u && v))) (Err e) (ok_or e (parse-u64 s))
        ≡ cond (t && (u && (v && ltb (decimal_value s) (2 ^ 64)))) (Ok (decimal_value s)) (Err e)
    go true p true q true =
        ap (ok_or e) (decimal-number (2 ^ 64) s (ltb-true 0 (length s) p) q) ∙ fits (ltb (decimal_value s) (2 ^ 64))
    go true p true q false = refl
    go true p false q v = refl
    go false p u q v = refl

-- ---- the split at '-'

-- bytes that pass a test that '-' does not
every-no-dash : (test : ℕ → Bool) → test dash ≡ false → (s : Text) → every test s ≡ true → contains dash s ≡ false
unfolding every
every-no-dash test h [] e = refl
every-no-dash test h (b ∷ s) e =
    let p = both_true (test b) (every test s) e in
    rw (ne_eqb b dash (λ q. true≢false (sym p.0 ∙ ap test q ∙ h))) (every-no-dash test h s p.1)

or-neither : (t u : Bool) → (t || u) ≡ false → (t ≡ false) × (u ≡ false)
or-neither true u e = absurd (true≢false e)
or-neither false u e = (refl, e)

split-none : (s : Text) → contains dash s ≡ false → split dash s ≡ s ∷ []
split-none [] e = refl
split-none (b ∷ s) e =
    let p = or-neither (eqb b dash) (contains dash s) e in
    rw (p.0, split-none s p.1)

split-behind : (s r : Text) → contains dash s ≡ false → split dash (s ++ (dash ∷ r)) ≡ s ∷ split dash r
split-behind [] r e = refl
split-behind (b ∷ s) r e =
    let p = or-neither (eqb b dash) (contains dash s) e in
    rw (p.0, split-behind s r p.1)

-- there is a first part
split-first : (s : Text) → (a : Text) × (l : List Text) × (split dash s ≡ a ∷ l)
split-first [] = ([], [], refl)
split-first (b ∷ s) = go (eqb b dash) (split-first s)
  where
    go : (t : Bool) → (a : Text) × (l : List Text) × (split dash s ≡ a ∷ l)
        → (a : Text) × (l : List Text) × (cond t ([] ∷ split dash s) (head-longer b (split dash s)) ≡ a ∷ l)
    go true p = ([], split dash s, refl)
    go false p = (b ∷ p.0, p.1, rw p.2)

-- the parts with '-' between them
abbrev joined : List Text → Text
joined [] = []
joined (a ∷ []) = a
joined (a ∷ (b ∷ l)) = a ++ (dash ∷ joined (b ∷ l))

joined-longer : (b : ℕ) (a : Text) (l : List Text) → joined ((b ∷ a) ∷ l) ≡ b ∷ joined (a ∷ l)
joined-longer b a [] = refl
joined-longer b a (c ∷ l) = refl

split-joined : (s : Text) → joined (split dash s) ≡ s
split-joined [] = refl
split-joined (b ∷ s) = let p = split-first s in rw p.2 (go p.0 p.1 (rw p.2 at (split-joined s)) (eqb b dash) refl)
  where
    go : (a : Text) (l : List Text) → joined (a ∷ l) ≡ s → (t : Bool) → eqb b dash ≡ t
        → joined (cond t ([] ∷ (a ∷ l)) (head-longer b (a ∷ l))) ≡ b ∷ s
    go a l h true e = ap₂ (λ (c : ℕ) (m : Text). c ∷ m) (sym (eqb-true b dash e)) h
    go a l h false e = joined-longer b a l ∙ ap (λ (m : Text). b ∷ m) h

-- ---- the three parts

abbrev pub parts_of : Text → Descriptor
parts_of d = record { start = start_part d; end = end_part d; id = id_part d }

abbrev pub sound : Descriptor → Bool
sound x = is_hex_word x.start && (is_hex_word x.end && is_segment_id x.id)

-- a descriptor as one row of bytes
abbrev row_of : Descriptor → Text
row_of x = x.start ++ (dash ∷ (x.end ++ (dash ∷ x.id)))

parts-told : (l : List Text) (x : Descriptor) → descriptor-of l ≡ Some x → joined l ≡ row_of x
parts-told [] x e = cc
parts-told (a ∷ []) x e = cc
parts-told (a ∷ (b ∷ [])) x e = cc
parts-told (a ∷ (b ∷ (c ∷ []))) x e = let q : record { start = a; end = b; id = c } ≡ x = cc in ap row_of q
parts-told (a ∷ (b ∷ (c ∷ (d ∷ l)))) x e = cc

word-length : (s : Text) → is_hex_word s ≡ true → length s ≡ 4
unfolding is_hex_word
word-length s e = eqb-true (length s) 4 (both_true (eqb (length s) 4) (all_hex_digits s) e).0

word-no-dash : (s : Text) → is_hex_word s ≡ true → contains dash s ≡ false
unfolding is_hex_word class_of
word-no-dash s e = every-no-dash is_hex_digit refl s (both_true (eqb (length s) 4) (all_hex_digits s) e).1

id-no-dash : (s : Text) → is_segment_id s ≡ true → contains dash s ≡ false
unfolding is_segment_id class_of
id-no-dash s e =
    let p = both_true (non_empty s) (all_digits s && (led s && ltb (decimal_value s) (2 ^ 64))) e in
    every-no-dash is_digit_byte refl s (both_true (all_digits s) (led s && ltb (decimal_value s) (2 ^ 64)) p.1).0

-- behind a word and a '-'
drop-five : (a r : Text) → length a ≡ 4 → drop 5 (a ++ (dash ∷ r)) ≡ r
drop-five a r h = subst (λ (n : ℕ). drop (n + 1) (a ++ (dash ∷ r)) ≡ r) h (drop-append-add a (dash ∷ r) 1)

-- x is sound, test by test
record Sound (x : Descriptor) : Type 0 where
  start : is_hex_word x.start ≡ true
  end : is_hex_word x.end ≡ true
  id : is_segment_id x.id ≡ true

sound-told : (x : Descriptor) → sound x ≡ true → Sound x
sound-told x e =
    let p = both_true (is_hex_word x.start) (is_hex_word x.end && is_segment_id x.id) e in
    let q = both_true (is_hex_word x.end) (is_segment_id x.id) p.1 in
    record { start = p.0; end = q.0; id = q.1 }

module _ (x : Descriptor) (S : Sound x) where
  split-row : descriptor-of (split dash (row_of x)) ≡ Some x
  split-row =
      rw (
        split-behind x.start (x.end ++ (dash ∷ x.id)) (word-no-dash x.start S.start),
        split-behind x.end x.id (word-no-dash x.end S.end),
        split-none x.id (id-no-dash x.id S.id),
      )

  row-descriptor : is_descriptor (row_of x) ≡ true
  unfolding is_descriptor class_of
  row-descriptor =
      let h : length x.start ≡ 4 = word-length x.start S.start in
      let k : length x.end ≡ 4 = word-length x.end S.end in
      let r : Text = x.end ++ (dash ∷ x.id) in
      let five : drop 5 (row_of x) ≡ r = drop-five x.start r h in
      let ten : drop 10 (row_of x) ≡ x.id = sym (drop-drop 5 5 (row_of x)) ∙ ap (drop 5) five ∙ drop-five x.end x.id k in
      let nine : get_or (row_of x) 9 0 ≡ dash =
      sym (get_or-drop 5 (row_of x) 4 0) ∙ ap (λ (l : Text). get_or l 4 0) five ∙ get_or_at x.end dash x.id 0 4 k in
      let four : get_or (row_of x) 4 0 ≡ dash = get_or_at x.start dash r 0 4 h in
      let a : start_part (row_of x) ≡ x.start = take_at x.start (dash ∷ r) 4 h in
      let b : end_part (row_of x) ≡ x.end = ap (take 4) five ∙ take_at x.end (dash ∷ x.id) 4 k in
      rw (a, b, four, nine, ten, S.start, S.end, S.id)

dash-is : (b : ℕ) → is_dash b ≡ true → b ≡ dash
dash-is b e = eqb-true b dash (sym (dash-test b) ∙ e)

id-long : (s : Text) → is_segment_id s ≡ true → 0 < length s
unfolding is_segment_id
id-long s e = ltb-true 0 (length s) (both_true (non_empty s) (all_digits s && (led s && ltb (decimal_value s) (2 ^ 64))) e).0

-- a descriptor is its parts joined, and they are sound
descriptor-parts : (d : Text) → is_descriptor d ≡ true → Sound (parts_of d) × (d ≡ row_of (parts_of d))
unfolding is_descriptor
descriptor-parts d e =
    let A = both_true (is_hex_word (start_part d)) _ e in
    let B = both_true (is_dash (get_or d 4 0)) _ A.1 in
    let C = both_true (is_hex_word (end_part d)) _ B.1 in
    let D = both_true (is_dash (get_or d 9 0)) (is_segment_id (id_part d)) C.1 in
    let n : 10 < length d = omega (arith, id-long (id_part d) D.1, length-drop 10 d) in
    let nine : drop 9 d ≡ dash ∷ drop 10 d =
    drop-cons d 9 0 (omega arith) ∙ ap (λ (c : ℕ). c ∷ drop 10 d) (dash-is (get_or d 9 0) D.0) in
    let five : drop 5 d ≡ end_part d ++ (dash ∷ drop 10 d) =
    sym (take-append-drop 4 (drop 5 d)) ∙ ap (λ (l : Text). end_part d ++ l) (drop-drop 4 5 d ∙ nine) in
    let four : drop 4 d ≡ dash ∷ (end_part d ++ (dash ∷ drop 10 d)) =
    drop-cons d 4 0 (omega arith) ∙ ap₂ (λ (c : ℕ) (l : Text). c ∷ l) (dash-is (get_or d 4 0) B.0) five in
    (record { start = A.0; end = C.0; id = D.1 }, sym (take-append-drop 4 d) ∙ ap (λ (l : Text). start_part d ++ l) four)

pub descriptor-sound : (d : Text) → is_descriptor d ≡ true → sound (parts_of d) ≡ true
descriptor-sound d e = let S = (descriptor-parts d e).0 in rw (S.start, S.end, S.id)

-- ---- the law: f refuses what is not sound

module _ {A E : Type 0} (e : E) (f : Descriptor → Result A E) (h : (x : Descriptor) → sound x ≡ false → f x ≡ Err e) (d : Text) where
  not_sound : (x : Descriptor) → descriptor-of (split dash d) ≡ Some x → is_descriptor d ≡ false → sound x ≡ false
  not_sound x p q = go (sound x) refl
    where
      go : (t : Bool) → sound x ≡ t → t ≡ false
      go true s =
          let r : d ≡ row_of x = sym (split-joined d) ∙ parts-told (split dash d) x p in
          sym (row-descriptor x (sound-told x s)) ∙ ap is_descriptor (sym r) ∙ q
      go false s = refl

  pub descriptor-agrees : (ok_or e (descriptor-of (split dash d)) >>= f) ≡ cond (is_descriptor d) (f (parts_of d)) (Err e)
  descriptor-agrees = go (descriptor-of (split dash d)) refl (is_descriptor d) refl
    where
      made : is_descriptor d ≡ true → descriptor-of (split dash d) ≡ Some (parts_of d)
      made q =
          let D = descriptor-parts d q in
          ap (λ (l : Text). descriptor-of (split dash l)) D.1 ∙ split-row (parts_of d) D.0

      go : (o : Option Descriptor) → descriptor-of (split dash d) ≡ o → (t : Bool) → is_descriptor d ≡ t
          → (ok_or e o >>= f) ≡ cond t (f (parts_of d)) (Err e)
      go None p true q = let m = made q in cc
      go None p false q = refl
      go (Some x) p true q = let m = made q in let r : x ≡ parts_of d = cc in ap f r
      go (Some x) p false q = h x (not_sound x p q)
