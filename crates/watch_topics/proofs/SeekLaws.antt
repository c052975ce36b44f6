-- Topics that are passed over (`skip-..`), what stands between two places of a packed list (`between-..`), and what `seek` asks at a topic behind
-- those that it passed over (`place-..`, `seek-..`).
-- Assumes nothing.
use Prim.Native.Nat.{ℕ, ◌+◌, ◌-◌, ◌≤◌, ◌<◌}
use native.Mathlib.Omega.{arith}
use mathlib.Core.Path.{◌≡◌, refl, sym, ap, ◌∙◌}
use mathlib.Core.Bool.{Bool, true, false, ◌||◌, or-true}
use mathlib.Core.List.{List, [], ◌∷◌, ◌++◌, append_assoc}
use lib.ListN.{length, take, drop, length-drop}
use lib.Seq.{length-take-le}
use Rattle.slice.proofs.PartLaws.{Bytes, Bytes-take, Bytes-drop}
use Rattle.slice_int.specs.Be.{be_at}
use Rattle.std.specs.declared.cmp.Ordering.{Ordering}
use Rattle.std.specs.declared.cmp.Ordering.TheVariants.{Less, Equal, Greater}
use Rattle.watch_topics.specs.declared.Place.{Place}
use Rattle.watch_topics.specs.Topics.{order, by_order, has, leads, rising, all_short}
use Rattle.watch_topics.specs.Packed.{size_topics, decode_topics, is_whole, topic_place}
use Rattle.watch_topics.specs.Skipped.{Skipped}
use Rattle.watch_topics.proofs.OrderLaws.{order-equal, order_trans, less-flip, greater-flip, before-is, is-before}
use Rattle.watch_topics.proofs.SetLaws.{has_first, has-append, rising-tail, first-before}
use Rattle.watch_topics.proofs.EachLaws.{short-parts}
use Rattle.watch_topics.proofs.PackedLaws.{size-append, read_short, whole_back, front_bytes, front-topics}
use Rattle.watch_topics.proofs.PlaceLaws.{lower, place_at, lower-within}
use Rattle.watch_topics.proofs.WalkLaws.{part-is, entry-topics, entry-fits, entry-rest, entry_length, topics-end}

-- ---- passed over

pub skip-start : (s : List ℕ) (from : ℕ) → from ≤ length s → is_whole (drop from s) ≡ true → Skipped s from from
unfolding size_topics
skip-start s from h w = record { inside = h; over = []; topics = refl; place = omega arith; whole = w }

size-one : (t : List ℕ) → size_topics (t ∷ []) ≡ 2 + length t
unfolding size_topics
size-one t = omega arith

pub skip-turn : (s : List ℕ) (from at n : ℕ) → Skipped s from at → at < length s → n ≡ be_at 2 s at → Skipped s from (at + 2 + n)
skip-turn s from at n k h e =
    let f : at + 2 + n ≤ length s = entry-fits s at n h e k.whole in
    let t : List ℕ = take n (drop (at + 2) s) in
    let z : length t ≡ n = entry_length s at n h e f in
    let a : size_topics (k.over ++ (t ∷ [])) ≡ size_topics k.over + size_topics (t ∷ []) = size-append k.over (t ∷ []) in
    let b : size_topics (t ∷ []) ≡ 2 + length t = size-one t in
    let c : at ≡ from + size_topics k.over = k.place in
    record {
      inside = f;
      over = k.over ++ (t ∷ []);
      topics =
          k.topics
          ∙ ap (λ (l : List (List ℕ)). k.over ++ l) (entry-topics s at n h e)
          ∙ sym (append_assoc k.over (t ∷ []) (decode_topics (drop (at + 2 + n) s)));
      place = omega arith;
      whole = entry-rest s at n h e k.whole;
    }

-- ---- between two places

module _ (s : List ℕ) (low at : ℕ) (b : Bytes s) (w : is_whole (drop low s) ≡ true) (k : Skipped s low at) where
  between-size : at - low ≡ size_topics k.over
  between-size = let c : at ≡ low + size_topics k.over = k.place in omega arith

  pub between-within : low ≤ at
  between-within = let c : at ≡ low + size_topics k.over = k.place in omega arith

  pub between-topics : decode_topics (take (at - low) (drop low s)) ≡ k.over
  between-topics =
      ap (λ (n : ℕ). decode_topics (take n (drop low s))) between-size
      ∙ front-topics (drop low s) (Bytes-drop low s b) w k.over (decode_topics (drop at s)) k.topics

  pub between-whole : is_whole (take (at - low) (drop low s)) ≡ true
  between-whole =
      let h : all_short k.over ≡ true =
      (short-parts k.over (decode_topics (drop at s)) (ap all_short (sym k.topics) ∙ read_short (drop low s) (Bytes-drop low s b) w)).0 in
      ap (λ (n : ℕ). is_whole (take n (drop low s))) between-size
      ∙ ap is_whole (front_bytes (drop low s) (Bytes-drop low s b) w k.over (decode_topics (drop at s)) k.topics)
      ∙ whole_back k.over h

-- a place that is found there lies there
pub between-room : (s t : List ℕ) (low high : ℕ) → Bytes s → low ≤ high → high ≤ length s → is_whole (take (high - low) (drop low s)) ≡ true
    → (q : Place) → q ≡ topic_place t 0 (decode_topics (take (high - low) (drop low s))) → low + q.at ≤ high
between-room s t low high b h k w q e =
    let x : List ℕ = take (high - low) (drop low s) in
    let d : length (drop low s) ≡ length s - low = length-drop low s in
    let n : length x ≡ high - low = length-take-le (high - low) (drop low s) (omega arith) in
    let f : q.at ≡ 0 + size_topics (lower t (decode_topics x)) = ap (λ (p : Place). p.at) e ∙ place_at t 0 (decode_topics x) in
    let g : size_topics (lower t (decode_topics x)) ≤ length x = lower-within x (Bytes-take (high - low) (drop low s) (Bytes-drop low s b)) w t in
    omega arith

-- ---- the place of a topic in a list that starts elsewhere

abbrev moved : ℕ → Place → Place
moved k q = record { at = k + q.at; present = q.present }

shift : (t : List ℕ) (k at : ℕ) (l : List (List ℕ)) → topic_place t (k + at) l ≡ moved k (topic_place t at l)
unfolding topic_place
shift t k at [] = refl
shift t k at (u ∷ us) =
    go (order t u) (ap (λ (n : ℕ). topic_place t n us) (let e : k + at + (2 + length u) ≡ k + (at + (2 + length u)) = omega arith in e)
    ∙ shift t k (at + (2 + length u)) us)
  where
    go : (o : Ordering) → topic_place t (k + at + (2 + length u)) us ≡ moved k (topic_place t (at + (2 + length u)) us)
        → by_order o (record { at = k + at; present = false }) (record { at = k + at; present = true }) (topic_place t (k + at + (2 + length u)) us)
        ≡ moved k (by_order o (record { at = at; present = false }) (record { at = at; present = true }) (topic_place t (at + (2 + length u)) us))
    go Less h = refl
    go Equal h = refl
    go Greater h = h

pub place-shift : (t : List ℕ) (low : ℕ) (l : List (List ℕ)) (q : Place) → q ≡ topic_place t 0 l
    → record { at = low + q.at; present = q.present } ≡ topic_place t low l
place-shift t low l q e =
    let f : low + 0 ≡ low = omega arith in
    ap (moved low) e ∙ sym (shift t low 0 l) ∙ ap (λ (n : ℕ). topic_place t n l) f

-- ---- the place of a topic, by the topic u behind those that were passed over

-- t stands before what is behind them
place-front : (t : List ℕ) (at : ℕ) (a c : List (List ℕ)) → leads t c ≡ true → topic_place t at (a ++ c) ≡ topic_place t at a
unfolding topic_place
place-front t at [] [] l = refl
place-front t at [] (u ∷ us) l = rw (before-is t u l)
place-front t at (v ∷ vs) c l =
    ap (λ (q : Place). by_order (order t v) (record { at = at; present = false }) (record { at = at; present = true }) q)
    (place-front t (at + (2 + length v)) vs c l)

rising-behind : (a c : List (List ℕ)) → rising (a ++ c) ≡ true → rising c ≡ true
rising-behind [] c r = r
rising-behind (u ∷ a) c r = rising-behind a c (rising-tail u (a ++ c) r)

before-u : (v u : List ℕ) (vs us : List (List ℕ)) → rising (v ∷ (vs ++ (u ∷ us))) ≡ true → order v u ≡ Less
before-u v u vs us r =
    first-before v (vs ++ (u ∷ us)) u r
    (has-append u vs (u ∷ us) ∙ ap (λ (b : Bool). has u vs || b) (has_first u us) ∙ or-true (has u vs))

-- one that stands before t sends it on
next_place : (t : List ℕ) (at : ℕ) (v : List ℕ) (vs : List (List ℕ)) → order t v ≡ Greater
    → topic_place t at (v ∷ vs) ≡ topic_place t (at + (2 + length v)) vs
unfolding topic_place
next_place t at v vs e = rw e

size-next : (at : ℕ) (v : List ℕ) (vs : List (List ℕ)) → at + (2 + length v) + size_topics vs ≡ at + size_topics (v ∷ vs)
unfolding size_topics
size-next at v vs = omega arith

size_none : (at : ℕ) → at + size_topics [] ≡ at
unfolding size_topics
size_none at = omega arith

place-behind : (t : List ℕ) (at : ℕ) (a : List (List ℕ)) (u : List ℕ) (us : List (List ℕ)) → rising (a ++ (u ∷ us)) ≡ true → order t u ≡ Greater
    → topic_place t at (a ++ (u ∷ us)) ≡ topic_place t (at + size_topics a + (2 + length u)) us
place-behind t at [] u us r e =
    next_place t at u us e ∙ ap (λ (n : ℕ). topic_place t (n + (2 + length u)) us) (sym (size_none at))
place-behind t at (v ∷ vs) u us r e =
    next_place t at v (vs ++ (u ∷ us)) (less-flip v t (order_trans v u t (before-u v u vs us r) (greater-flip t u e)))
    ∙ place-behind t (at + (2 + length v)) vs u us (rising-tail v (vs ++ (u ∷ us)) r) e
    ∙ ap (λ (n : ℕ). topic_place t (n + (2 + length u)) us) (size-next at v vs)

equal-place : (t : List ℕ) (at : ℕ) (u : List ℕ) (us : List (List ℕ)) → order t u ≡ Equal
    → topic_place t at (u ∷ us) ≡ record { at = at; present = true }
unfolding topic_place
equal-place t at u us e = rw e

place-hit : (t : List ℕ) (at : ℕ) (a : List (List ℕ)) (u : List ℕ) (us : List (List ℕ)) → rising (a ++ (u ∷ us)) ≡ true → order t u ≡ Equal
    → topic_place t at (a ++ (u ∷ us)) ≡ record { at = at + size_topics a; present = true }
place-hit t at [] u us r e = equal-place t at u us e ∙ ap (λ (n : ℕ). record { at = n; present = true }) (sym (size_none at))
place-hit t at (v ∷ vs) u us r e =
    next_place t at v (vs ++ (u ∷ us)) (ap (λ (x : List ℕ). order x v) (order-equal t u e) ∙ less-flip v u (before-u v u vs us r))
    ∙ place-hit t (at + (2 + length v)) vs u us (rising-tail v (vs ++ (u ∷ us)) r) e
    ∙ ap (λ (n : ℕ). record { at = n; present = true }) (size-next at v vs)

-- ---- `seek`

-- the topics before the place low stand before t
pub record Sought (s t : List ℕ) (low : ℕ) : Type 0 where
  pub within : low ≤ length s
  pub whole : is_whole (drop low s) ≡ true
  pub rises : rising (decode_topics (drop low s)) ≡ true
  pub alike : topic_place t 0 (decode_topics s) ≡ topic_place t low (decode_topics (drop low s))

module _ (s t : List ℕ) (low at : ℕ) (b : Bytes s) (v : Sought s t low) (k : Skipped s low at) where
  -- among those that were passed over
  among : leads t (decode_topics (drop at s)) ≡ true
      → topic_place t low (decode_topics (take (at - low) (drop low s))) ≡ topic_place t 0 (decode_topics s)
  among l =
      ap (topic_place t low) (between-topics s low at b v.whole k)
      ∙ sym (v.alike ∙ ap (topic_place t low) k.topics ∙ place-front t low k.over (decode_topics (drop at s)) l)

  pub seek-end : length s ≤ at → topic_place t low (decode_topics (take (at - low) (drop low s))) ≡ topic_place t 0 (decode_topics s)
  seek-end h = among (ap (leads t) (topics-end s at h))

  module _ (n : ℕ) (h : at < length s) (e : n ≡ be_at 2 s at) (o : Ordering) (f : o ≡ order t (take (at + 2 + n - (at + 2)) (drop (at + 2) s))) where
    abbrev others : List (List ℕ)
    others = decode_topics (drop (at + 2 + n) s)

    order_is : order t (take n (drop (at + 2) s)) ≡ o
    order_is = sym (f ∙ ap (order t) (part-is s (at + 2) n))

    topics-are : decode_topics (drop low s) ≡ k.over ++ (take n (drop (at + 2) s) ∷ others)
    topics-are = k.topics ∙ ap (λ (l : List (List ℕ)). k.over ++ l) (entry-topics s at n h e)

    rise : rising (k.over ++ (take n (drop (at + 2) s) ∷ others)) ≡ true
    rise = ap rising (sym topics-are) ∙ v.rises

    pub seek-less : o ≡ Less → topic_place t low (decode_topics (take (at - low) (drop low s))) ≡ topic_place t 0 (decode_topics s)
    seek-less g = among (ap (leads t) (entry-topics s at n h e) ∙ is-before t (take n (drop (at + 2) s)) (order_is ∙ g))

    pub seek-equal : o ≡ Equal → record { at = at; present = true } ≡ topic_place t 0 (decode_topics s)
    seek-equal g =
        sym
        (v.alike
        ∙ ap (topic_place t low) topics-are
        ∙ place-hit t low k.over (take n (drop (at + 2) s)) others rise (order_is ∙ g)
        ∙ ap (λ (m : ℕ). record { at = m; present = true }) (sym k.place))

    pub seek-greater : o ≡ Greater → Sought s t (at + 2 + n)
    seek-greater g =
        let i : at + 2 + n ≤ length s = entry-fits s at n h e k.whole in
        let z : length (take n (drop (at + 2) s)) ≡ n = entry_length s at n h e i in
        let p : at ≡ low + size_topics k.over = k.place in
        let m : low + size_topics k.over + (2 + length (take n (drop (at + 2) s))) ≡ at + 2 + n = omega arith in
        record {
          within = i;
          whole = entry-rest s at n h e k.whole;
          rises = rising-tail (take n (drop (at + 2) s)) others (rising-behind k.over (take n (drop (at + 2) s) ∷ others) rise);
          alike =
              v.alike
              ∙ ap (topic_place t low) topics-are
              ∙ place-behind t low k.over (take n (drop (at + 2) s)) others rise (order_is ∙ g)
              ∙ ap (λ (l : ℕ). topic_place t l others) m;
        }
