-- A packed list gone through topic by topic: what is known at a place `at` where the length n was read (`entry-..`), and what the loops of
-- `is_list`, `is_rising` and `find` ask there (`list-..`, `rising-..`, `place-..`).
-- Assumes nothing.
use Prim.Native.Nat.{ℕ, zero, suc, ◌+◌, ◌-◌, ◌≤◌, ◌<◌}
use native.Mathlib.Nat.{add-sub_cancel_left}
use native.Mathlib.Decide.{dec_le}
use native.Mathlib.Omega.{arith}
use mathlib.Core.Path.{◌≡◌, refl, sym, ap, ◌∙◌}
use mathlib.Core.Bool.{Bool, true, false, ◌&&◌, and-true, and-false, true≢false, false≢true}
use mathlib.Core.List.{List, [], ◌∷◌}
use lib.ListN.{length, take, drop, length-take, length-drop, drop_of_length-le}
use lib.Seq.{drop-drop, length-take-le, get_or-take, get_or-drop}
use Rattle.slice.specs.BoolLaws.{both}
use Rattle.slice.proofs.PartLaws.{Bytes, Bytes-drop}
use Rattle.slice_int.specs.Be.{be_at}
use Rattle.utf8.specs.Table.{is_utf8}
use Rattle.utf8.specs.Passes.{Ascii}
use Rattle.utf8.proofs.TextLaws.{ascii-text}
use Rattle.std.specs.declared.cmp.Ordering.{Ordering}
use Rattle.watch_topics.specs.Topics.{order, by_order, before, leads, rising, max_topic}
use Rattle.watch_topics.specs.Packed.{encode_topic, length_at, decode_topics, is_whole, all_utf8, is_set, topic_place}
use Rattle.watch_topics.proofs.PackedLaws.{topics-nil, topics-cons, whole-nil, whole-cons, whole-short, whole-fits}
use Rattle.watch_topics.proofs.PackedLaws.{write-front, length_at-below}

-- the part of a slice from a place on, as a call is lent it
pub part-is : (s : List ℕ) (from n : ℕ) → take (from + n - from) (drop from s) ≡ take n (drop from s)
part-is s from n = ap (λ (k : ℕ). take k (drop from s)) (add-sub_cancel_left from n)

-- ---- a place of a slice where the length n was read

module _ (s : List ℕ) (at n : ℕ) (h : at < length s) (e : n ≡ be_at 2 s at) where
  some : 0 < length (drop at s)
  some = omega (arith, length-drop at s)

  is-length : length_at (drop at s) ≡ n
  unfolding be_at
  is-length = sym e

  pub entry-topics : decode_topics (drop at s) ≡ take n (drop (at + 2) s) ∷ decode_topics (drop (at + 2 + n) s)
  entry-topics =
      let a : at + (2 + n) ≡ at + 2 + n = omega arith in
      topics-cons (drop at s) some ∙ rw (is-length, drop-drop 2 at s, drop-drop (2 + n) at s, a)

  pub entry_whole : at + 2 + n ≤ length s → is_whole (drop at s) ≡ is_whole (drop (at + 2 + n) s)
  entry_whole k =
      let a : at + (2 + n) ≡ at + 2 + n = omega arith in
      let f : 2 + length_at (drop at s) ≤ length (drop at s) = omega (arith, length-drop at s, is-length) in
      whole-cons (drop at s) some f ∙ rw (is-length, drop-drop (2 + n) at s, a)

  pub entry-short : length s < at + 2 + n → is_whole (drop at s) ≡ false
  entry-short k = whole-short (drop at s) some (omega (arith, length-drop at s, is-length))

  pub entry-fits : is_whole (drop at s) ≡ true → at + 2 + n ≤ length s
  entry-fits w = omega (arith, whole-fits (drop at s) some w, length-drop at s, is-length)

  pub entry-rest : is_whole (drop at s) ≡ true → is_whole (drop (at + 2 + n) s) ≡ true
  entry-rest w = sym (entry_whole (entry-fits w)) ∙ w

  pub entry_length : at + 2 + n ≤ length s → length (take n (drop (at + 2) s)) ≡ n
  entry_length k = length-take-le n (drop (at + 2) s) (omega (arith, length-drop (at + 2) s))

  -- the topic with its length, as it lies
  pub entry-bytes : at + 2 + n ≤ length s → Bytes s → encode_topic (take n (drop (at + 2) s)) ≡ take (2 + n) (drop at s)
  entry-bytes k b =
      let f : 2 + length_at (drop at s) ≤ length (drop at s) = omega (arith, length-drop at s, is-length) in
      rw is-length at rw drop-drop at (write-front (drop at s) f (Bytes-drop at s b))

  pub entry-below : Bytes s → n ≤ max_topic
  entry-below b = omega (arith, length_at-below (drop at s) (Bytes-drop at s b), is-length)

-- a place with one byte left is no entry
pub entry-one : (s : List ℕ) (at : ℕ) → at < length s → length s - at < 2 → is_whole (drop at s) ≡ false
entry-one s at h k = whole-short (drop at s) (omega (arith, length-drop at s)) (omega (arith, length-drop at s))

pub entry-two : (s : List ℕ) (at : ℕ) → at < length s → is_whole (drop at s) ≡ true → at + 2 ≤ length s
entry-two s at h w = omega (arith, entry-fits s at (be_at 2 s at) h refl w)

pub topics-end : (s : List ℕ) (at : ℕ) → length s ≤ at → decode_topics (drop at s) ≡ []
topics-end s at h = ap decode_topics (drop_of_length-le s {i = at} h) ∙ topics-nil

pub whole-end : (s : List ℕ) (at : ℕ) → length s ≤ at → is_whole (drop at s) ≡ true
whole-end s at h = ap is_whole (drop_of_length-le s {i = at} h) ∙ whole-nil

-- ---- `is_list`

abbrev pub is_list : List ℕ → Bool
is_list s = is_whole s && all_utf8 (decode_topics s)

pub list-broken : (s : List ℕ) → is_whole s ≡ false → is_list s ≡ false
list-broken s e = rw e

pub list-end : (s : List ℕ) (at : ℕ) → length s ≤ at → is_list (drop at s) ≡ true
unfolding all_utf8
list-end s at h = rw (whole-end s at h, topics-end s at h)

module _ (s : List ℕ) (at n : ℕ) (h : at < length s) (e : n ≡ be_at 2 s at) (k : at + 2 + n ≤ length s)
    (b : Bool) (f : b ≡ is_utf8 (take (at + 2 + n - (at + 2)) (drop (at + 2) s))) where
  list_at : is_list (drop at s) ≡ (is_whole (drop (at + 2 + n) s) && (b && all_utf8 (decode_topics (drop (at + 2 + n) s))))
  unfolding all_utf8
  list_at =
      let g : is_utf8 (take n (drop (at + 2) s)) ≡ b = sym (f ∙ ap is_utf8 (part-is s (at + 2) n)) in
      rw (entry_whole s at n h e k, entry-topics s at n h e, g)

  pub list-not-utf8 : b ≡ false → is_list (drop at s) ≡ false
  list-not-utf8 g = list_at ∙ rw g (and-false (is_whole (drop (at + 2 + n) s)))

  pub list-next : b ≡ true → is_list (drop at s) ≡ is_list (drop (at + 2 + n) s)
  list-next g = list_at ∙ rw g

-- topics of bytes of the first row

ascii_drop : (k : ℕ) (l : List ℕ) → Ascii l 0 (length l) → Ascii (drop k l) 0 (length (drop k l))
ascii_drop k l p i a h = rw get_or-drop (p (k + i) (omega arith) (omega (arith, length-drop k l)))

ascii_take : (k : ℕ) (l : List ℕ) → Ascii l 0 (length l) → Ascii (take k l) 0 (length (take k l))
ascii_take k l p i a h =
    let e : i < k = omega (arith, length-take k l) in
    let f : i < length l = omega (arith, length-take k l) in
    ap-le (get_or-take k l i 0 e) (p i a f)
  where
    ap-le : {x y : ℕ} → x ≡ y → y ≤ 127 → x ≤ 127
    ap-le e h = omega arith

ascii-utf8 : (n : ℕ) (l : List ℕ) → length l ≤ n → Ascii l 0 (length l) → all_utf8 (decode_topics l) ≡ true
unfolding all_utf8
ascii-utf8 zero l h p = rw (drop_of_length-le l {i = 0} h, topics-nil)
ascii-utf8 (suc n) l h p = go (λ m k q. ascii-utf8 n m k q) (dec_le 1 (length l))
  where
    go : ((m : List ℕ) → length m ≤ n → Ascii m 0 (length m) → all_utf8 (decode_topics m) ≡ true) → Dec (1 ≤ length l)
        → all_utf8 (decode_topics l) ≡ true
    go ih (yes k) =
        let t : List ℕ = take (length_at l) (drop 2 l) in
        let r : List ℕ = drop (2 + length_at l) l in
        ap all_utf8 (topics-cons l k)
        ∙ both (is_utf8 t) (all_utf8 (decode_topics r)) (ascii-text t (ascii_take (length_at l) (drop 2 l) (ascii_drop 2 l p)))
        (ih r (omega (arith, length-drop (2 + length_at l) l)) (ascii_drop (2 + length_at l) l p))
    go ih (no k) = ap (λ (m : List ℕ). all_utf8 (decode_topics m)) (none l (omega arith)) ∙ ap all_utf8 topics-nil
      where
        none : (m : List ℕ) → length m ≤ 0 → m ≡ []
        none m e = drop_of_length-le m {i = 0} e

pub ascii-list : (s : List ℕ) → Ascii s 0 (length s) → is_whole s ≡ is_list s
ascii-list s p = sym (rw (ascii-utf8 (length s) s (omega arith) p) (and-true (is_whole s)))

-- ---- `is_rising`

pub rising-end : (s : List ℕ) (at : ℕ) → length s ≤ at → rising (decode_topics (drop at s)) ≡ true
unfolding rising
rising-end s at h = rw (topics-end s at h)

module _ (s : List ℕ) (at n : ℕ) (h : at < length s) (e : n ≡ be_at 2 s at) where
  rising-at : rising (decode_topics (drop at s))
      ≡ (leads (take n (drop (at + 2) s)) (decode_topics (drop (at + 2 + n) s)) && rising (decode_topics (drop (at + 2 + n) s)))
  unfolding rising
  rising-at = rw (entry-topics s at n h e)

  pub rising-last : length s ≤ at + 2 + n → rising (decode_topics (drop at s)) ≡ rising (decode_topics (drop (at + 2 + n) s))
  rising-last k = rising-at ∙ rw (topics-end s (at + 2 + n) k)

  module _ (m : ℕ) (k : at + 2 + n < length s) (em : m ≡ be_at 2 s (at + 2 + n)) (c : Bool)
      (f : c ≡ before (take (at + 2 + n - (at + 2)) (drop (at + 2) s))
      (take (at + 2 + n + 2 + m - (at + 2 + n + 2)) (drop (at + 2 + n + 2) s))) where
    leads-is : leads (take n (drop (at + 2) s)) (decode_topics (drop (at + 2 + n) s)) ≡ c
    leads-is =
        rw (entry-topics s (at + 2 + n) m k em)
        (sym (f ∙ rw (part-is s (at + 2) n, part-is s (at + 2 + n + 2) m)))

    pub rising-not : c ≡ false → rising (decode_topics (drop at s)) ≡ false
    rising-not g = rising-at ∙ rw (leads-is, g)

    pub rising-on : c ≡ true → rising (decode_topics (drop at s)) ≡ rising (decode_topics (drop (at + 2 + n) s))
    rising-on g = rising-at ∙ rw (leads-is, g)

-- ---- `is_set`

pub set-list : (s : List ℕ) → is_list s ≡ true → rising (decode_topics s) ≡ is_set s
unfolding is_set
set-list s e = go (is_whole s) (all_utf8 (decode_topics s)) e
  where
    go : (a b : Bool) → (a && b) ≡ true → rising (decode_topics s) ≡ (a && (b && rising (decode_topics s)))
    go true true e = refl
    go true false e = absurd (false≢true e)
    go false b e = absurd (false≢true e)

pub set-none : (s : List ℕ) → is_list s ≡ false → false ≡ is_set s
unfolding is_set
set-none s e = go (is_whole s) (all_utf8 (decode_topics s)) e
  where
    go : (a b : Bool) → (a && b) ≡ false → false ≡ (a && (b && rising (decode_topics s)))
    go true true e = absurd (true≢false e)
    go true false e = refl
    go false b e = refl

-- ---- `find`

pub place_end : (s t : List ℕ) (at : ℕ) → length s ≤ at → topic_place t at (decode_topics (drop at s)) ≡ record { at = at; present = false }
unfolding topic_place
place_end s t at h = rw (topics-end s at h)

pub place-next : (s : List ℕ) (at n : ℕ) → at < length s → n ≡ be_at 2 s at → at + 2 + n ≤ length s
    → (t : List ℕ) (o : Ordering) → o ≡ order t (take (at + 2 + n - (at + 2)) (drop (at + 2) s))
    → topic_place t at (decode_topics (drop at s))
    ≡ by_order o (record { at = at; present = false }) (record { at = at; present = true })
    (topic_place t (at + 2 + n) (decode_topics (drop (at + 2 + n) s)))
unfolding topic_place
place-next s at n h e k t o f =
    let g : order t (take n (drop (at + 2) s)) ≡ o = sym (f ∙ ap (order t) (part-is s (at + 2) n)) in
    let a : at + (2 + n) ≡ at + 2 + n = omega arith in
    rw (entry-topics s at n h e, entry_length s at n h e k, a, g)
