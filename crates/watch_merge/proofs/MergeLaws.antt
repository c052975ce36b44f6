-- The topics of a packed list merged into a packed set whose bytes were first moved up: what the loop of `merge` keeps (`Merged`), turn by
-- turn.
-- Assumes nothing.
use Prim.Native.Nat.{ℕ, ◌+◌, ◌-◌, ◌≤◌, ◌<◌}
use native.Mathlib.Omega.{arith}
use mathlib.Core.Path.{◌≡◌, refl, sym, ap, ap₂, ◌∙◌, subst}
use mathlib.Core.Bool.{Bool, true, false, ◌||◌, or-true, true≢false}
use mathlib.Core.List.{List, [], ◌∷◌, ◌++◌, append_assoc, append-nil}
use lib.ListN.{length, take, drop, length-append, length-drop}
use lib.Seq.{drop-drop, take-take, length-take-le}
use Rattle.slice.specs.Same.{same_bytes}
use Rattle.slice.proofs.PartLaws.{drop-take, Bytes, Bytes-take, Bytes-drop}
use Rattle.slice_int.specs.Be.{be_at}
use Rattle.slice_int.specs.Put.{put}
use Rattle.slice_int.proofs.PutLaws.{put-nil, put-after, take_put}
use Rattle.std.specs.declared.cmp.Ordering.TheVariants.{Greater}
use Rattle.watch_topics.specs.declared.Place.{Place}
use Rattle.watch_topics.specs.Topics.{order, has, insert_all, rising}
use Rattle.watch_topics.specs.Packed.{encode_topic, encode_topics, size_topics, decode_topics, is_whole, topic_place}
use Rattle.watch_topics.proofs.OrderLaws.{less-flip}
use Rattle.watch_topics.proofs.SetLaws.{has_first, has-append, rising-tail, rising-next}
use Rattle.watch_topics.proofs.PackedLaws.{length-encode, length-encode_topic, encode-append, size-append, size-parts, write-back}
use Rattle.watch_topics.proofs.PlaceLaws.{lower, upper, lower-upper, place_at, lower-below, below-append, below-trans, rising-upper}
use Rattle.watch_topics.proofs.PlaceLaws.{FirstBehind, insert-absent, insert_all-behind, lower-bytes, upper-topics, upper-whole}
use Rattle.watch_topics.proofs.WalkLaws.{part-is, entry-topics, entry-fits, entry-rest, entry_length, entry-bytes, topics-end}
use Rattle.watch_merge.specs.Merge.{Apart, Rises}
use Rattle.slice_moves.proofs.MoveLaws.{drop-behind, put_same, put-over}

-- ---- over lists: the first of the new topics, between those before it and those behind it

module _ (t : List ℕ) (new l : List (List ℕ)) (r : rising (t ∷ new) ≡ true) (absent : has t l ≡ false) where
  first-behind : (ns : List (List ℕ)) → rising (t ∷ ns) ≡ true → FirstBehind ns (lower t l ++ (t ∷ []))
  first-behind [] r = tt
  first-behind (n ∷ ns) r =
      let e : order n t ≡ Greater = less-flip t n (rising-next t n ns r) in
      below-append n (lower t l) (t ∷ []) (below-trans t n (lower t l) (lower-below t l) e) (e, tt)

  pub merge-first : insert_all (t ∷ new) l ≡ (lower t l ++ (t ∷ [])) ++ insert_all new (upper t l)
  unfolding insert_all
  merge-first =
      ap (insert_all new) (insert-absent t l absent ∙ sym (append_assoc (lower t l) (t ∷ []) (upper t l)))
      ∙ insert_all-behind new (lower t l ++ (t ∷ [])) (upper t l) (rising-tail t new r) (first-behind new r)

or-second : (a b : Bool) → (a || b) ≡ false → b ≡ false
or-second true b e = absurd (true≢false e)
or-second false b e = e

-- ---- the bytes

-- the set's bytes, moved up by z
abbrev pub raised : List ℕ → ℕ → ℕ → List ℕ
raised m z used = take used (drop z m)

-- the topics that are written stand at the front of b, `to` bytes; the set from its j-th byte on stands behind the place `from` as it was;
-- the new topics behind the place `at` are still to come
pub record Merged (m new b : List ℕ) (used to from at : ℕ) : Type 0 where
  pub bytes : Bytes m
  pub out : List (List ℕ)
  pub j : ℕ
  pub split : insert_all (decode_topics new) (decode_topics (raised m (length new) used))
      ≡ out ++ insert_all (decode_topics (drop at new)) (decode_topics (drop j (raised m (length new) used)))
  pub wrote : b ≡ put m 0 (encode_topics out)
  pub end : to ≡ size_topics out
  pub reads : from ≡ length new + j
  pub writes : to ≡ j + at
  pub inside : j ≤ used
  pub room : used + length new ≤ length m
  pub long : length b ≡ length m
  pub rises : Rises (drop j (raised m (length new) used))
  pub passed : at ≤ length new
  pub new-rises : Rises (drop at new)
  pub apart : Apart (decode_topics (drop at new)) (decode_topics (drop j (raised m (length new) used)))

-- what the set's bytes are once they are moved up
module _ (o m : List ℕ) (z used : ℕ) (k : used + z ≤ length o) (e : m ≡ put o (0 + z) (take (used - 0) (drop 0 o))) where
  moved-is : m ≡ put o z (take used o)
  moved-is =
      let a : 0 + z ≡ z = omega arith in
      let b : used - 0 ≡ used = omega arith in
      e ∙ ap₂ (λ (x y : ℕ). put o x (take y o)) a b

  length-used : length (take used o) ≡ used
  length-used = length-take-le used o (omega arith)

  raised_is : raised m z used ≡ take used o
  raised_is =
      ap (λ (x : List ℕ). raised x z used) moved-is
      ∙ ap (λ (i : ℕ). take i (drop z (put o z (take used o)))) (sym length-used)
      ∙ take_put o z (take used o) (omega arith)

-- the set's bytes are moved up, and nothing is written
pub merge-begin : (m new s : List ℕ) (used : ℕ) → raised m (length new) used ≡ s → used + length new ≤ length m → Bytes m → Rises s → Rises new
    → Apart (decode_topics new) (decode_topics s) → Merged m new m used 0 (length new) 0
unfolding encode_topics size_topics
merge-begin m new s used f k bm rs rn ap' =
    record {
      bytes = bm;
      out = [];
      j = 0;
      split = refl;
      wrote = sym (put-nil m 0);
      end = refl;
      reads = omega arith;
      writes = omega arith;
      inside = omega arith;
      room = omega arith;
      long = refl;
      rises = subst Rises (sym f) rs;
      passed = omega arith;
      new-rises = rn;
      apart = subst (λ (x : List ℕ). Apart (decode_topics new) (decode_topics x)) (sym f) ap';
    }

pub merge-start : (o m new : List ℕ) (used : ℕ) → used + length new ≤ length o → m ≡ put o (0 + length new) (take (used - 0) (drop 0 o))
    → length m ≡ length o → Bytes m → Rises (take used o) → Rises new → Apart (decode_topics new) (decode_topics (take used o))
    → Merged m new m used 0 (length new) 0
merge-start o m new used k e l bm ro rn ap' =
    merge-begin m new (take used o) used (raised_is o m (length new) used k e) (omega arith) bm ro rn ap'

module _ {m new b : List ℕ} {used to from at : ℕ} (v : Merged m new b used to from at) where
  abbrev rest : List ℕ
  rest = drop v.j (raised m (length new) used)

  rest-bytes : Bytes rest
  rest-bytes = Bytes-drop v.j (raised m (length new) used) (Bytes-take used (drop (length new) m) (Bytes-drop (length new) m v.bytes))

  rest-length : length rest ≡ used - v.j
  rest-length =
      length-drop v.j (raised m (length new) used)
      ∙ ap (λ (i : ℕ). i - v.j) (length-take-le used (drop (length new) m) (omega (arith, length-drop (length new) m, v.room)))

  written : length (encode_topics v.out) ≡ to
  written = length-encode v.out ∙ sym v.end

  pub merge-down : to ≤ from
  merge-down = omega (arith, v.reads, v.writes, v.passed)

  pub merge-within : from ≤ used + length new
  merge-within = omega (arith, v.reads, v.inside)

  -- the set from its j-th byte on, as it stands
  behind-is : drop from b ≡ drop v.j (drop (length new) m)
  behind-is =
      ap (drop from) v.wrote
      ∙ drop-behind m 0 (encode_topics v.out) from (omega (arith, written, merge-down)) (omega arith)
      ∙ ap (λ (i : ℕ). drop i m) v.reads
      ∙ sym (drop-drop v.j (length new) m)

  pub part-rest : take (used + length new - from) (drop from b) ≡ rest
  part-rest =
      let i : used + length new - from ≡ used - v.j = omega (arith, v.reads, v.inside) in
      let k : v.j + (used - v.j) ≡ used = omega (arith, v.inside) in
      ap₂ (λ (x : ℕ) (y : List ℕ). take x y) i behind-is
      ∙ sym (drop-take v.j (used - v.j) (drop (length new) m))
      ∙ ap (λ (x : ℕ). drop v.j (take x (drop (length new) m))) k

  pub part-whole : is_whole (take (used + length new - from) (drop from b)) ≡ true
  part-whole = ap is_whole part-rest ∙ v.rises.whole

  pub part-rises : rising (decode_topics (take (used + length new - from) (drop from b))) ≡ true
  part-rises = ap (λ (l : List ℕ). rising (decode_topics l)) part-rest ∙ v.rises.rises

  -- more bytes written behind
  more : (x y : List ℕ) → x ≡ put m 0 y → (w : List ℕ) (i : ℕ) → i ≡ length y → i + length w ≤ length m → put x i w ≡ put m 0 (y ++ w)
  more x y e w i f k =
      let s : i ≡ 0 + length y = omega arith in
      ap₂ (λ (z : List ℕ) (n : ℕ). put z n w) e s ∙ put-after m 0 y w (omega arith)

  module _ (h : at < length new) (n : ℕ) (e : n ≡ be_at 2 new at) where
    pub new-fits : at + 2 + n ≤ length new
    new-fits = entry-fits new at n h e v.new-rises.whole

    abbrev topic : List ℕ
    topic = take n (drop (at + 2) new)

    abbrev news : List (List ℕ)
    news = decode_topics (drop (at + 2 + n) new)

    abbrev olds : List (List ℕ)
    olds = decode_topics rest

    new-next : decode_topics (drop at new) ≡ topic ∷ news
    new-next = entry-topics new at n h e

    new-rising : rising (topic ∷ news) ≡ true
    new-rising = ap rising (sym new-next) ∙ v.new-rises.rises

    absent : (u : List ℕ) → has u (topic ∷ news) ≡ true → has u olds ≡ false
    absent u k = v.apart u (ap (has u) new-next ∙ k)

    -- the topic with its length, as it lies
    pub piece : Bytes new → take (at + 2 + n - at) (drop at new) ≡ encode_topic topic
    piece nb =
        let i : at + 2 + n - at ≡ 2 + n = omega arith in
        ap (λ (x : ℕ). take x (drop at new)) i ∙ sym (entry-bytes new at n h e new-fits nb)

    pub piece-length : Bytes new → length (take (at + 2 + n - at) (drop at new)) ≡ 2 + n
    piece-length nb = ap length (piece nb) ∙ length-encode_topic topic ∙ ap (λ (i : ℕ). 2 + i) (entry_length new at n h e new-fits)

    module _ (p : Place)
        (q : p ≡ topic_place (take (at + 2 + n - (at + 2)) (drop (at + 2) new)) 0 (decode_topics (take (used + length new - from) (drop from b)))) where
      is_at : p.at ≡ size_topics (lower topic olds)
      is_at =
          let f : p ≡ topic_place topic 0 olds = q ∙ ap₂ (λ (x y : List ℕ). topic_place x 0 (decode_topics y)) (part-is new (at + 2) n) part-rest in
          let g : (topic_place topic 0 olds).at ≡ 0 + size_topics (lower topic olds) = place_at topic 0 olds in
          ap (λ (x : Place). x.at) f ∙ g ∙ omega arith

      -- the bytes before the topic's place are of the set
      pub place-room : from + p.at ≤ used + length new
      place-room =
          omega (
            arith,
            size-parts rest rest-bytes v.rises.whole (lower topic olds) (upper topic olds) (lower-upper topic olds),
            rest-length,
            is_at,
            v.reads,
            v.inside,
          )

      -- and the topic, once it is written, stays behind what is to be read
      pub write-room : to + p.at + 2 + n ≤ used + length new
      write-room = omega (arith, place-room, v.reads, v.writes, new-fits)

      lower-moved : take p.at (drop from b) ≡ encode_topics (lower topic olds)
      lower-moved =
          sym (take-take p.at (used + length new - from) (drop from b) (omega (arith, place-room)))
          ∙ ap₂ (λ (x : ℕ) (y : List ℕ). take x y) is_at part-rest
          ∙ lower-bytes rest rest-bytes v.rises.whole topic

      next-bytes : drop (v.j + p.at) (raised m (length new) used) ≡ drop (size_topics (lower topic olds)) rest
      next-bytes = sym (drop-drop p.at v.j (raised m (length new) used)) ∙ ap (λ (i : ℕ). drop i rest) is_at

      next-topics : decode_topics (drop (v.j + p.at) (raised m (length new) used)) ≡ upper topic olds
      next-topics = ap decode_topics next-bytes ∙ upper-topics rest rest-bytes v.rises.whole topic

      next-whole : is_whole (drop (v.j + p.at) (raised m (length new) used)) ≡ true
      next-whole = ap is_whole next-bytes ∙ upper-whole rest rest-bytes v.rises.whole topic

      next-apart : Apart news (decode_topics (drop (v.j + p.at) (raised m (length new) used)))
      unfolding has
      next-apart u k =
          let f : has u (topic ∷ news) ≡ true = ap (λ (x : Bool). same_bytes u topic || x) k ∙ or-true (same_bytes u topic) in
          ap (has u) next-topics
          ∙ or-second (has u (lower topic olds)) (has u (upper topic olds))
          (sym (has-append u (lower topic olds) (upper topic olds)) ∙ ap (has u) (sym (lower-upper topic olds)) ∙ absent u f)

      pub merge-next : (b₁ b₂ : List ℕ) → b₁ ≡ put b to (take p.at (drop from b))
          → b₂ ≡ put b₁ (to + p.at) (encode_topic topic) → length b₂ ≡ length m
          → Merged m new b₂ used (to + p.at + 2 + n) (from + p.at) (at + 2 + n)
      unfolding encode_topics size_topics
      merge-next b₁ b₂ e₁ e₂ l =
          let low : List (List ℕ) = lower topic olds in
          let front : List (List ℕ) = v.out ++ (low ++ (topic ∷ [])) in
          let d : to ≤ from = merge-down in
          let r : from + p.at ≤ used + length new = place-room in
          let lm : used + length new ≤ length m = v.room in
          let la : length (encode_topics low) ≡ p.at = length-encode low ∙ sym is_at in
          let ll : length (encode_topics v.out ++ encode_topics low) ≡ to + p.at =
          ap length (sym (encode-append v.out low))
          ∙ length-encode (v.out ++ low)
          ∙ size-append v.out low
          ∙ omega (arith, v.end, is_at) in
          let lt : length topic ≡ n = entry_length new at n h e new-fits in
          let lp : length (encode_topic topic) ≡ 2 + n = length-encode_topic topic ∙ ap (λ (i : ℕ). 2 + i) lt in
          let w₁ : b₁ ≡ put m 0 (encode_topics v.out ++ encode_topics low) =
          e₁ ∙ ap (put b to) lower-moved ∙ more b (encode_topics v.out) v.wrote (encode_topics low) to (sym written) (omega arith) in
          let w₂ : b₂ ≡ put m 0 ((encode_topics v.out ++ encode_topics low) ++ encode_topic topic) =
          e₂
          ∙ more b₁ (encode_topics v.out ++ encode_topics low) w₁ (encode_topic topic) (to + p.at) (sym ll)
          (omega (arith, v.reads, v.writes, new-fits)) in
          let shape : (encode_topics v.out ++ encode_topics low) ++ encode_topic topic ≡ encode_topics front =
          append_assoc (encode_topics v.out) (encode_topics low) (encode_topic topic)
          ∙ sym (encode-append v.out (low ++ (topic ∷ []))
          ∙ ap (λ (x : List ℕ). encode_topics v.out ++ x)
          (encode-append low (topic ∷ []) ∙ ap (λ (x : List ℕ). encode_topics low ++ x) (append-nil (encode_topic topic)))) in
          let size : size_topics front ≡ to + p.at + 2 + n =
          size-append v.out (low ++ (topic ∷ []))
          ∙ ap (λ (i : ℕ). size_topics v.out + i) (size-append low (topic ∷ []))
          ∙ omega (arith, v.end, is_at) in
          record {
            bytes = v.bytes;
            out = front;
            j = v.j + p.at;
            split =
                v.split
                ∙ ap (λ (x : List (List ℕ)). v.out ++ insert_all x olds) new-next
                ∙ ap (λ (x : List (List ℕ)). v.out ++ x) (merge-first topic news olds new-rising (absent topic (has_first topic news)))
                ∙ sym (append_assoc v.out (low ++ (topic ∷ [])) (insert_all news (upper topic olds)))
                ∙ ap (λ (x : List (List ℕ)). front ++ insert_all news x) (sym next-topics);
            wrote = w₂ ∙ ap (put m 0) shape;
            end = sym size;
            reads = omega (arith, v.reads);
            writes = omega (arith, v.writes);
            inside = omega (arith, v.reads);
            room = lm;
            long = l;
            rises = record { whole = next-whole; rises = ap rising next-topics ∙ rising-upper topic olds v.rises.rises };
            passed = new-fits;
            new-rises = record { whole = entry-rest new at n h e v.new-rises.whole; rises = rising-tail topic news new-rising };
            apart = next-apart;
          }

  -- what is left is in place already
  module _ (h : length new ≤ at) where
    abbrev all : List (List ℕ)
    all = insert_all (decode_topics new) (decode_topics (raised m (length new) used))

    all-bytes : encode_topics all ≡ encode_topics v.out ++ rest
    unfolding insert_all
    all-bytes =
        ap encode_topics (v.split ∙ ap (λ (x : List (List ℕ)). v.out ++ insert_all x (decode_topics rest)) (topics-end new at h))
        ∙ encode-append v.out (decode_topics rest)
        ∙ ap (λ (x : List ℕ). encode_topics v.out ++ x) (write-back rest rest-bytes v.rises.whole)

    pub merge-long : length (encode_topics all) ≡ used + length new
    merge-long =
        ap length all-bytes
        ∙ length-append (encode_topics v.out) rest
        ∙ omega (arith, written, rest-length, v.writes, v.passed, v.inside)

    pub merge-stays : b ≡ put m 0 (encode_topics all)
    merge-stays =
        let A : List ℕ = encode_topics v.out in
        let z : 0 + length A ≡ from = omega (arith, written, v.reads, v.writes, v.passed) in
        let lq : length rest ≡ used + length new - from = omega (arith, rest-length, v.reads) in
        let there : take (length rest) (drop (0 + length A) b) ≡ rest = ap₂ (λ (x y : ℕ). take x (drop y b)) lq z ∙ part-rest in
        sym (put_same b (0 + length A) rest there)
        ∙ ap (λ (x : List ℕ). put x (0 + length A) rest) v.wrote
        ∙ put-after m 0 A rest (omega (arith, rest-length, z, v.room, v.reads, v.inside))
        ∙ ap (put m 0) (sym all-bytes)

    pub merge-end : (o : List ℕ) → used + length new ≤ length o → m ≡ put o (0 + length new) (take (used - 0) (drop 0 o))
        → b ≡ put o 0 (encode_topics (insert_all (decode_topics new) (decode_topics (take used o))))
    merge-end o k e =
        merge-stays
        ∙ ap (λ (x : List ℕ). put x 0 (encode_topics all)) (moved-is o m (length new) used k e)
        ∙ put-over o (length new) (take used o) (encode_topics all) (omega (arith, merge-long, length-used o m (length new) used k e)) (omega arith)
        ∙ ap (λ (x : List ℕ). put o 0 (encode_topics (insert_all (decode_topics new) (decode_topics x)))) (raised_is o m (length new) used k e)
