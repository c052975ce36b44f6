-- Laws of the packed form: sizes, what is written reads back (`read_back`, `whole_back`), and what is read was written (`write-back`,
-- `read_short`). The first topics of a packed list, and what is behind them: `front-topics`, `rest-topics`.
-- Assumes nothing.
use Prim.Native.Nat.{ℕ, zero, suc, ◌+◌, ◌-◌, ◌^◌, ◌≤◌, ◌<◌}
use native.Mathlib.Nat.{not-suc-le-zero}
use native.Mathlib.Decide.{dec_le}
use native.Mathlib.Omega.{arith}
use mathlib.Core.Path.{◌≡◌, refl, sym, ap, ap₂, ◌∙◌, subst}
use mathlib.Core.Bool.{true, false, false≢true}
use mathlib.Core.List.{List, [], ◌∷◌, ◌++◌, append_assoc}
use lib.ListN.{length, take, drop, length-append, length-drop, length-take, take-append-drop, drop_of_length-le}
use lib.Seq.{take_at, drop_at, length-take-le, take-add}
use lib.Dec.{leb}
use borrow.Author.Tests.{leb-true, le-leb}
use Rattle.slice.specs.BoolLaws.{both, both_true}
use Rattle.slice.proofs.PartLaws.{Bytes, Bytes-take, Bytes-drop}
use Rattle.slice_int.specs.Be.{be, bytes_of}
use Rattle.slice_int.proofs.BeLaws.{length-bytes_of, be-front, drop-front, bytes_of-front, be-below}
use Rattle.watch_topics.specs.Topics.{max_topic, all_short}
use Rattle.watch_topics.specs.Packed.{encode_topic, encode_topics, size_topics, length_at, topics_after, decode_topics, whole_after, is_whole}
use Rattle.watch_topics.proofs.EachLaws.{short-parts}

-- ---- sizes

pub length-encode_topic : (t : List ℕ) → length (encode_topic t) ≡ 2 + length t
unfolding encode_topic
length-encode_topic t = length-append (bytes_of 2 (length t)) t ∙ ap (λ (n : ℕ). n + length t) (length-bytes_of 2 (length t))

pub length-encode : (ts : List (List ℕ)) → length (encode_topics ts) ≡ size_topics ts
unfolding encode_topics size_topics
length-encode [] = refl
length-encode (t ∷ ts) = length-append (encode_topic t) (encode_topics ts) ∙ ap₂ (λ (a b : ℕ). a + b) (length-encode_topic t) (length-encode ts)

pub encode-append : (a b : List (List ℕ)) → encode_topics (a ++ b) ≡ encode_topics a ++ encode_topics b
unfolding encode_topics
encode-append [] b = refl
encode-append (t ∷ a) b =
    ap (λ (l : List ℕ). encode_topic t ++ l) (encode-append a b) ∙ sym (append_assoc (encode_topic t) (encode_topics a) (encode_topics b))

pub size-append : (a b : List (List ℕ)) → size_topics (a ++ b) ≡ size_topics a + size_topics b
unfolding size_topics
size-append [] b = omega arith
size-append (t ∷ a) b = let h : size_topics (a ++ b) ≡ size_topics a + size_topics b = size-append a b in omega arith

-- ---- reading at the front

topics-skip : (n : ℕ) (l : List ℕ) → topics_after n l ≡ decode_topics (drop n l)
unfolding decode_topics topics_after
topics-skip zero l = refl
topics-skip (suc n) [] = refl
topics-skip (suc n) (b ∷ l) = topics-skip n l

whole-skip : (n : ℕ) (l : List ℕ) → n ≤ length l → whole_after n l ≡ is_whole (drop n l)
unfolding is_whole whole_after
whole-skip zero l h = refl
whole-skip (suc n) [] h = absurd (not-suc-le-zero h)
whole-skip (suc n) (b ∷ l) h = whole-skip n l (omega arith)

whole-over : (n : ℕ) (l : List ℕ) → length l < n → whole_after n l ≡ false
unfolding whole_after
whole-over zero l h = absurd (not-suc-le-zero h)
whole-over (suc n) [] h = refl
whole-over (suc n) (b ∷ l) h = whole-over n l (omega arith)

pub topics-nil : decode_topics [] ≡ []
unfolding decode_topics topics_after
topics-nil = refl

pub whole-nil : is_whole [] ≡ true
unfolding is_whole whole_after
whole-nil = refl

pub topics-cons : (l : List ℕ) → 0 < length l → decode_topics l ≡ take (length_at l) (drop 2 l) ∷ decode_topics (drop (2 + length_at l) l)
unfolding decode_topics topics_after
topics-cons [] h = absurd (not-suc-le-zero h)
topics-cons (b ∷ l) h =
    let n : ℕ = length_at (b ∷ l) in
    let e : suc (suc n) ≡ 2 + n = omega arith in
    ap (λ (ts : List (List ℕ)). take n (drop 1 l) ∷ ts) (topics-skip (suc n) l)
    ∙ ap (λ (m : ℕ). take n (drop 1 l) ∷ decode_topics (drop m (b ∷ l))) e

pub whole-cons : (l : List ℕ) → 0 < length l → 2 + length_at l ≤ length l → is_whole l ≡ is_whole (drop (2 + length_at l) l)
unfolding is_whole whole_after
whole-cons [] h k = absurd (not-suc-le-zero h)
whole-cons (b ∷ l) h k =
    let n : ℕ = length_at (b ∷ l) in
    let e : suc (suc n) ≡ 2 + n = omega arith in
    whole-skip (suc n) l (omega arith) ∙ ap (λ (m : ℕ). is_whole (drop m (b ∷ l))) e

pub whole-short : (l : List ℕ) → 0 < length l → length l < 2 + length_at l → is_whole l ≡ false
unfolding is_whole whole_after
whole-short [] h k = absurd (not-suc-le-zero h)
whole-short (b ∷ l) h k = whole-over (suc (length_at (b ∷ l))) l (omega arith)

pub whole-fits : (l : List ℕ) → 0 < length l → is_whole l ≡ true → 2 + length_at l ≤ length l
whole-fits l h e = go (dec_le (2 + length_at l) (length l))
  where
    go : Dec (2 + length_at l ≤ length l) → 2 + length_at l ≤ length l
    go (yes k) = k
    go (no k) = absurd (false≢true (sym (whole-short l h (omega arith)) ∙ e))

pub whole-tail : (l : List ℕ) → 0 < length l → is_whole l ≡ true → is_whole (drop (2 + length_at l) l) ≡ true
whole-tail l h w = sym (whole-cons l h (whole-fits l h w)) ∙ w

-- ---- written and read

-- a topic in front of other bytes
module _ (t : List ℕ) (r : List ℕ) (h : length t ≤ max_topic) where
  abbrev ahead : List ℕ
  ahead = encode_topic t ++ r

  length_front : length_at ahead ≡ length t
  unfolding encode_topic
  length_front = ap (λ (l : List ℕ). be (take 2 l)) (append_assoc (bytes_of 2 (length t)) t r) ∙ be-front 2 (length t) (t ++ r) (omega arith)

  text-front : take (length t) (drop 2 ahead) ≡ t
  unfolding encode_topic
  text-front =
      ap (λ (l : List ℕ). take (length t) (drop 2 l)) (append_assoc (bytes_of 2 (length t)) t r)
      ∙ ap (take (length t)) (drop-front 2 (length t) (t ++ r))
      ∙ take_at t r (length t) refl

  rest-front : drop (2 + length t) ahead ≡ r
  rest-front = drop_at (encode_topic t) r (2 + length t) (length-encode_topic t)

  long : 2 + length t ≤ length ahead
  long = omega (arith, length-append (encode_topic t) r, length-encode_topic t)

  some : 0 < length ahead
  some = omega (arith, long)

  pub read-front : decode_topics ahead ≡ t ∷ decode_topics r
  read-front = topics-cons ahead some ∙ rw (length_front, text-front, rest-front)

  pub whole-front : is_whole ahead ≡ is_whole r
  whole-front = whole-cons ahead some (omega (arith, length_front, long)) ∙ rw (length_front, rest-front)

pub short-head : (t : List ℕ) (ts : List (List ℕ)) → all_short (t ∷ ts) ≡ true → length t ≤ max_topic
unfolding all_short
short-head t ts e = leb-true (length t) max_topic (both_true (leb (length t) max_topic) (all_short ts) e).0

pub short-tail : (t : List ℕ) (ts : List (List ℕ)) → all_short (t ∷ ts) ≡ true → all_short ts ≡ true
unfolding all_short
short-tail t ts e = (both_true (leb (length t) max_topic) (all_short ts) e).1

pub short-cons : (t : List ℕ) (ts : List (List ℕ)) → length t ≤ max_topic → all_short ts ≡ true → all_short (t ∷ ts) ≡ true
unfolding all_short
short-cons t ts h e = both (leb (length t) max_topic) (all_short ts) (le-leb (length t) max_topic h) e

pub read-ahead : (ts : List (List ℕ)) (r : List ℕ) → all_short ts ≡ true → decode_topics (encode_topics ts ++ r) ≡ ts ++ decode_topics r
unfolding encode_topics
read-ahead [] r e = refl
read-ahead (t ∷ ts) r e =
    ap decode_topics (append_assoc (encode_topic t) (encode_topics ts) r)
    ∙ read-front t (encode_topics ts ++ r) (short-head t ts e)
    ∙ ap (λ (l : List (List ℕ)). t ∷ l) (read-ahead ts r (short-tail t ts e))

pub whole-ahead : (ts : List (List ℕ)) (r : List ℕ) → all_short ts ≡ true → is_whole (encode_topics ts ++ r) ≡ is_whole r
unfolding encode_topics
whole-ahead [] r e = refl
whole-ahead (t ∷ ts) r e =
    ap is_whole (append_assoc (encode_topic t) (encode_topics ts) r)
    ∙ whole-front t (encode_topics ts ++ r) (short-head t ts e)
    ∙ whole-ahead ts r (short-tail t ts e)

pub read_back : (ts : List (List ℕ)) → all_short ts ≡ true → decode_topics (encode_topics ts) ≡ ts
unfolding encode_topics
read_back [] e = topics-nil
read_back (t ∷ ts) e =
    read-front t (encode_topics ts) (short-head t ts e) ∙ ap (λ (l : List (List ℕ)). t ∷ l) (read_back ts (short-tail t ts e))

pub whole_back : (ts : List (List ℕ)) → all_short ts ≡ true → is_whole (encode_topics ts) ≡ true
unfolding encode_topics
whole_back [] e = whole-nil
whole_back (t ∷ ts) e = whole-front t (encode_topics ts) (short-head t ts e) ∙ whole_back ts (short-tail t ts e)

-- ---- read and written

-- the first topic as it lies
pub write-front : (l : List ℕ) → 2 + length_at l ≤ length l → Bytes l → encode_topic (take (length_at l) (drop 2 l)) ≡ take (2 + length_at l) l
unfolding encode_topic
write-front l k b =
    let n : ℕ = length_at l in
    let e : length (take n (drop 2 l)) ≡ n = length-take-le n (drop 2 l) (omega (arith, length-drop 2 l)) in
    ap (λ (m : ℕ). bytes_of 2 m ++ take n (drop 2 l)) e
    ∙ ap (λ (m : List ℕ). m ++ take n (drop 2 l)) (bytes_of-front 2 l (omega arith) b)
    ∙ sym (take-add 2 n l)

pub length_at-below : (l : List ℕ) → Bytes l → length_at l ≤ max_topic
length_at-below l b =
    let e : length (take 2 l) ≤ 2 = rw length-take (omega arith) in
    let k : be (take 2 l) < 256 ^ 2 = be-below 2 (take 2 l) e (Bytes-take 2 l b) in
    omega arith

record Written (l : List ℕ) : Type 0 where
  bytes : encode_topics (decode_topics l) ≡ l
  short : all_short (decode_topics l) ≡ true

written-nil : Written []
unfolding encode_topics all_short
written-nil = record { bytes = ap encode_topics topics-nil; short = ap all_short topics-nil }

written-cons : (s : List ℕ) → 0 < length s → Bytes s → is_whole s ≡ true → Written (drop (2 + length_at s) s) → Written s
unfolding encode_topics
written-cons s p b w i =
    let k : 2 + length_at s ≤ length s = whole-fits s p w in
    let r : List ℕ = drop (2 + length_at s) s in
    let t : List ℕ = take (length_at s) (drop 2 s) in
    let e : length t ≡ length_at s = length-take-le (length_at s) (drop 2 s) (omega (arith, length-drop 2 s)) in
    let m : length t ≤ max_topic = omega (arith, length_at-below s b) in
    let c : decode_topics s ≡ t ∷ decode_topics r = topics-cons s p in
    record {
      bytes =
          ap encode_topics c
          ∙ ap₂ (λ (a d : List ℕ). a ++ d) (write-front s k b) i.bytes
          ∙ take-append-drop (2 + length_at s) s;
      short = ap all_short c ∙ short-cons t (decode_topics r) m i.short;
    }

written : (n : ℕ) (l : List ℕ) → length l ≤ n → Bytes l → is_whole l ≡ true → Written l
written zero l h b w = subst Written (sym (drop_of_length-le l {i = 0} h)) written-nil
written (suc n) l h b w = go (λ m k c d. written n m k c d) (dec_le 1 (length l))
  where
    go : ((m : List ℕ) → length m ≤ n → Bytes m → is_whole m ≡ true → Written m) → Dec (1 ≤ length l) → Written l
    go ih (yes p) =
        let k : 2 + length_at l ≤ length l = whole-fits l p w in
        let e : length (drop (2 + length_at l) l) ≡ length l - (2 + length_at l) = length-drop (2 + length_at l) l in
        written-cons l p b w (ih (drop (2 + length_at l) l) (omega arith) (Bytes-drop (2 + length_at l) l b) (whole-tail l p w))
    go ih (no p) = subst Written (sym (drop_of_length-le l {i = 0} (omega arith))) written-nil

module _ (l : List ℕ) (b : Bytes l) (w : is_whole l ≡ true) where
  pub write-back : encode_topics (decode_topics l) ≡ l
  write-back = (written (length l) l (omega arith) b w).bytes

  pub read_short : all_short (decode_topics l) ≡ true
  read_short = (written (length l) l (omega arith) b w).short

  pub size-topics : size_topics (decode_topics l) ≡ length l
  size-topics = sym (length-encode (decode_topics l)) ∙ ap length write-back

-- ---- the first topics of a list, and what is behind them

-- bytes whose topics are those of a and then those of c
module _ (l : List ℕ) (b : Bytes l) (w : is_whole l ≡ true) (a c : List (List ℕ)) (e : decode_topics l ≡ a ++ c) where
  short-both : (all_short a ≡ true) × (all_short c ≡ true)
  short-both = short-parts a c (ap all_short (sym e) ∙ read_short l b w)

  pub in_parts : l ≡ encode_topics a ++ encode_topics c
  in_parts = sym (write-back l b w) ∙ ap encode_topics e ∙ encode-append a c

  pub size-parts : length l ≡ size_topics a + size_topics c
  size-parts = sym (size-topics l b w) ∙ ap size_topics e ∙ size-append a c

  pub front_bytes : take (size_topics a) l ≡ encode_topics a
  front_bytes = ap (take (size_topics a)) in_parts ∙ take_at (encode_topics a) (encode_topics c) (size_topics a) (length-encode a)

  pub rest-bytes : drop (size_topics a) l ≡ encode_topics c
  rest-bytes = ap (drop (size_topics a)) in_parts ∙ drop_at (encode_topics a) (encode_topics c) (size_topics a) (length-encode a)

  pub front-topics : decode_topics (take (size_topics a) l) ≡ a
  front-topics = ap decode_topics front_bytes ∙ read_back a short-both.0

  pub rest-topics : decode_topics (drop (size_topics a) l) ≡ c
  rest-topics = ap decode_topics rest-bytes ∙ read_back c short-both.1

  pub rest-whole : is_whole (drop (size_topics a) l) ≡ true
  rest-whole = ap is_whole rest-bytes ∙ whole_back c short-both.1
