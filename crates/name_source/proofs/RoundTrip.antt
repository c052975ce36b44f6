-- Names built and read. Together the two theorems say that a segment has one name: what is read is what was built, and nothing else.
--
-- `reads-built`: the name built of a path, a range of the key space and an id below 2 ^ 64 is read as the path's end, the range and the id.
-- `built-reads`: a text that is read as a name is the name built of its path, and of the range and the id that it is read as.
-- Assumes nothing.
use Rattle.std.specs.Prelude.{Some, Ok}
use Prim.Native.Nat.{ℕ, suc, ◌+◌, ◌-◌, ◌^◌, ◌≤◌, ◌<◌}
use native.Mathlib.Numerals.{add-one}
use native.Mathlib.Omega.{arith}
use mathlib.Core.Path.{◌≡◌, refl, sym, ap, ◌∙◌}
use mathlib.Core.Bool.{Bool, true, false, cond, ◌||◌, or_assoc, or-false, true≢false}
use mathlib.Core.List.{List, [], ◌∷◌, ◌++◌}
use lib.ListN.{length, take, drop, get_or, length-append, length-drop, take-append-drop}
use lib.Seq.{take-append_seam, drop-append-add, get_or-append_seam, drop-cons, drop-drop}
use lib.Dec.{eqb}
use borrow.Author.Tests.{eqb-true, ltb-true}
use Rattle.slice.specs.BoolLaws.{both_true}
use Rattle.topic_types.specs.declared.KeyRange.{KeyRange}
use Rattle.topic_types.specs.declared.SegmentId.{SegmentId}
use Rattle.topic_types.specs.KeyRanges.{max_hash, key_range}
use Rattle.topic_types.proofs.KeyRangeLaws.{new-valid, valid-new}
use Rattle.slice.specs.Same.{starts_with}
use Rattle.slice.proofs.SameLaws.{same_refl, same-eq}
use Rattle.name_parents.specs.Classes.{class_of, is_slash, is_dash, is_digit_byte, is_hex_digit}
use Rattle.name_parents.specs.Parents.{non_empty, is_path}
use Rattle.name_topic.specs.Names.{segment_scheme, hex4, decimal, descriptor, segment_topic}
use Rattle.name_digits.specs.Digits.{every, all_digits, all_hex_digits, decimal_value, hex_value, is_hex_word, is_segment_id}
use Rattle.name_source.specs.Parse.{has_slash, before_last, last_slash, start_part, end_part, id_part, is_descriptor}
use Rattle.name_source.specs.Parse.{descriptor_stage, parse_segment_topic}
use Rattle.name_digits.proofs.ClassLaws.{slash-byte, dash-byte}
use Rattle.name_digits.proofs.DigitLaws.{word-told, id-told}
use Rattle.name_digits.proofs.NumeralLaws.{word-written, word_read, id-written, id-read}
use Rattle.name_source.proofs.SlashLaws.{before-last-at, before-last-take}
use Rattle.name_source.proofs.ParseLaws.{name-descriptor, descriptor-range, range-valid, descriptor_of, name-told}

-- ---- digits are no '/'

hex-no-slash : (b : ℕ) → is_hex_digit b ≡ true → is_slash b ≡ false
hex-no-slash b = go (eqb (class_of b) 1) refl (eqb (class_of b) 2) refl
  where
    go : (t : Bool) → eqb (class_of b) 1 ≡ t → (u : Bool) → eqb (class_of b) 2 ≡ u → (t || u) ≡ true → is_slash b ≡ false
    go true p u q e = rw (eqb-true (class_of b) 1 p)
    go false p true q e = rw (eqb-true (class_of b) 2 q)
    go false p false q e = absurd (true≢false (sym e))

digit-no-slash : (b : ℕ) → is_digit_byte b ≡ true → is_slash b ≡ false
digit-no-slash b e = rw (eqb-true (class_of b) 1 e)

digits-no-slash : (test : ℕ → Bool) → ((b : ℕ) → test b ≡ true → is_slash b ≡ false) → (l : List ℕ) → every test l ≡ true
    → has_slash l ≡ false
unfolding every has_slash
digits-no-slash test h [] e = refl
digits-no-slash test h (b ∷ l) e =
    let p = both_true (test b) (every test l) e in
    rw (h b p.0) (digits-no-slash test h l p.1)

slash-append : (l m : List ℕ) → has_slash (l ++ m) ≡ (has_slash l || has_slash m)
unfolding has_slash
slash-append [] m = refl
slash-append (b ∷ l) m = rw (slash-append l m) (sym (or_assoc (is_slash b) (has_slash l) (has_slash m)))

slash-dash : (m : List ℕ) → has_slash (0x2D ∷ m) ≡ has_slash m
unfolding has_slash class_of
slash-dash m = refl

-- ---- a name that is built

-- what follows the '/' behind the path
abbrev behind_path : ℕ → ℕ → ℕ → List ℕ
behind_path s e i = hex4 s ++ (0x2D ∷ (hex4 e ++ (0x2D ∷ decimal i)))

word-no-slash : (v : ℕ) → v < 65536 → has_slash (hex4 v) ≡ false
unfolding is_hex_word
word-no-slash v h =
    let p = (word-told (hex4 v) v (word-written v h)).0 in
    digits-no-slash is_hex_digit hex-no-slash (hex4 v) (both_true (eqb (length (hex4 v)) 4) (all_hex_digits (hex4 v)) p).1

id-no-slash : (v : ℕ) → v < 2 ^ 64 → has_slash (decimal v) ≡ false
unfolding is_segment_id
id-no-slash v h =
    let p = (id-told (decimal v) v (id-written v h)).0 in
    let q = (both_true (non_empty (decimal v)) _ p).1 in
    digits-no-slash is_digit_byte digit-no-slash (decimal v) (both_true (all_digits (decimal v)) _ q).0

module _ (s e i : ℕ) (hs : s < 65536) (he : e < 65536) (hi : i < 2 ^ 64) where
  behind-no-slash : has_slash (behind_path s e i) ≡ false
  behind-no-slash =
      slash-append (hex4 s) (0x2D ∷ (hex4 e ++ (0x2D ∷ decimal i)))
      ∙ rw (word-no-slash s hs, slash-dash (hex4 e ++ (0x2D ∷ decimal i)))
      (slash-append (hex4 e) (0x2D ∷ decimal i) ∙ rw (word-no-slash e he, slash-dash (decimal i)) (id-no-slash i hi))

  behind-read : (n : ℕ) → s ≤ e → descriptor_stage n (behind_path s e i) ≡ Ok (n, key_range s e, record { 0 = i })
  unfolding hex4 class_of
  behind-read n h =
      descriptor-range n (behind_path s e i) s e i (word-written s hs) refl (word-written e he) refl (id-written i hi)
      ∙ range-valid n i _ (key_range s e) (valid-new s e h (omega arith))

module _ (path : List ℕ) (d : List ℕ) (h : has_slash d ≡ false) where
  last-slash-append : last_slash (path ++ (0x2F ∷ d)) ≡ Some (length path)
  unfolding last_slash class_of
  last-slash-append =
      let l : List ℕ = path ++ (0x2F ∷ d) in
      let k : length l ≡ length path + suc (length d) = length-append path (0x2F ∷ d) in
      let b : drop (suc (length path)) l ≡ d =
      ap (λ (n : ℕ). drop n l) (sym (add-one (length path))) ∙ drop-append-add path (0x2F ∷ d) 1 in
      let p = before-last-at l (length path) (omega arith) (ap is_slash (get_or-append_seam path 0x2F d 0)) (rw b h) in
      rw (p.0, p.1, take-append_seam)

starts-append : (p q : List ℕ) → starts_with p (p ++ q) ≡ true
unfolding starts_with
starts-append p q = rw take-append_seam (same_refl p)

pub reads-built : (path : List ℕ) (s e : ℕ) (id : SegmentId) → is_path path ≡ true → s ≤ e → e ≤ max_hash → id.0 < 2 ^ 64
    → parse_segment_topic (segment_topic path (key_range s e) id) ≡ Ok (10 + length path, key_range s e, id)
unfolding segment_topic descriptor
reads-built path s e id valid h k b =
    let d : List ℕ = behind_path s e id.0 in
    let n : ℕ = length path in
    let t : List ℕ = segment_scheme ++ (path ++ (0x2F ∷ d)) in
    let slash : last_slash (drop 10 t) ≡ Some n =
    last-slash-append path d (behind-no-slash s e id.0 (omega arith) (omega arith) b) in
    let whole : is_path (take n (drop 10 t)) ≡ true = rw take-append_seam valid in
    let f : 10 + n + 1 ≡ 10 + (n + 1) = omega arith in
    let rest : drop (10 + n + 1) t ≡ d =
    ap (λ (m : ℕ). drop m t) f ∙ sym (drop-drop (n + 1) 10 t) ∙ drop-append-add path (0x2F ∷ d) 1 in
    name-descriptor t (starts-append segment_scheme (path ++ (0x2F ∷ d))) n slash whole
    ∙ ap (descriptor_stage (10 + n)) rest
    ∙ behind-read s e id.0 (omega arith) (omega arith) b (10 + n) h

-- ---- a text that is read

starts-split : (p s : List ℕ) → starts_with p s ≡ true → s ≡ p ++ drop (length p) s
unfolding starts_with
starts-split p s e =
    sym (take-append-drop (length p) s) ∙ ap (λ (l : List ℕ). l ++ drop (length p) s) (same-eq (take (length p) s) p e)

last-split : (s : List ℕ) → has_slash s ≡ true → s ≡ before_last s ++ (0x2F ∷ drop (suc (length (before_last s))) s)
unfolding has_slash before_last
last-split [] e = absurd (true≢false (sym e))
last-split (b ∷ l) e = go (has_slash l) e (last-split l)
  where
    go : (t : Bool) → (is_slash b || t) ≡ true → (t ≡ true → l ≡ before_last l ++ (0x2F ∷ drop (suc (length (before_last l))) l)) →
        let f = cond t (b ∷ before_last l) [] in
        b ∷ l ≡ f ++ (0x2F ∷ drop (suc (length f)) (b ∷ l))
    go true q h = ap (λ (m : List ℕ). b ∷ m) (h refl)
    go false q h =
        let x : b ≡ 0x2F = slash-byte b (eqb-true (class_of b) 3 (sym (or-false (is_slash b)) ∙ q)) in
        ap (λ (c : ℕ). c ∷ l) x

descriptor-split : (d : List ℕ) → is_descriptor d ≡ true
    → d ≡ behind_path (hex_value (start_part d)) (hex_value (end_part d)) (decimal_value (id_part d))
unfolding is_descriptor is_segment_id
descriptor-split d e =
    let A = both_true (is_hex_word (start_part d)) _ e in
    let B = both_true (is_dash (get_or d 4 0)) _ A.1 in
    let C = both_true (is_hex_word (end_part d)) _ B.1 in
    let D = both_true (is_dash (get_or d 9 0)) (is_segment_id (id_part d)) C.1 in
    let k = ltb-true 0 (length (id_part d)) (both_true (non_empty (id_part d)) _ D.1).0 in
    let n : 10 < length d = omega (arith, length-drop 10 d) in
    let x : get_or d 4 0 ≡ 0x2D = dash-byte (get_or d 4 0) (eqb-true (class_of (get_or d 4 0)) 4 B.0) in
    let y : get_or d 9 0 ≡ 0x2D = dash-byte (get_or d 9 0) (eqb-true (class_of (get_or d 9 0)) 4 D.0) in
    let nine : drop 9 d ≡ 0x2D ∷ drop 10 d = drop-cons d 9 0 (omega arith) ∙ ap (λ (c : ℕ). c ∷ drop 10 d) y in
    let five : drop 5 d ≡ end_part d ++ (0x2D ∷ drop 10 d) =
    sym (take-append-drop 4 (drop 5 d)) ∙ ap (λ (l : List ℕ). end_part d ++ l) (drop-drop 4 5 d ∙ nine) in
    let four : drop 4 d ≡ 0x2D ∷ (end_part d ++ (0x2D ∷ drop 10 d)) =
    drop-cons d 4 0 (omega arith) ∙ ap (λ (c : ℕ). c ∷ drop 5 d) x ∙ ap (λ (l : List ℕ). 0x2D ∷ l) five in
    rw (word_read (start_part d) A.0, word_read (end_part d) C.0, id-read (id_part d) D.1)
    (sym (take-append-drop 4 d) ∙ ap (λ (l : List ℕ). start_part d ++ l) four)

pub built-reads : (t : List ℕ) (n : ℕ) (range : KeyRange) (id : SegmentId) → parse_segment_topic t ≡ Ok (n, range, id)
    → t ≡ segment_topic (take (n - 10) (drop 10 t)) range id
unfolding segment_topic descriptor
built-reads t n range id e =
    let N = name-told t n range id e in
    let p : List ℕ = drop 10 t in
    let b : List ℕ = before_last p in
    let d : List ℕ = descriptor_of t in
    let m : n - 10 ≡ length b = omega (arith, N.place) in
    let path : take (n - 10) p ≡ b = ap (λ (i : ℕ). take i p) m ∙ before-last-take p in
    let made = (new-valid (hex_value (start_part d)) (hex_value (end_part d)) range N.ends).made in
    let behind : p ≡ b ++ (0x2F ∷ d) = last-split p N.slash ∙ ap (λ (i : ℕ). b ++ (0x2F ∷ drop i p)) (sym (add-one (length b))) in
    rw (path, made, N.number)
    (starts-split segment_scheme t N.scheme
    ∙ ap (λ (l : List ℕ). segment_scheme ++ l) (behind ∙ ap (λ (l : List ℕ). b ++ (0x2F ∷ l)) (descriptor-split d N.descriptor)))
