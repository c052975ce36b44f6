-- The topics of a packed list taken out of a packed set. First over lists: a topic parts a rising list (`three-parts`), and what is left of
-- the list (`without-next`). Then over bytes: what the loop of `take_out` keeps (`Left`), turn by turn.
-- Assumes nothing.
use Prim.Native.Nat.{ℕ, ◌+◌, ◌-◌, ◌≤◌, ◌<◌}
use native.Mathlib.Omega.{arith}
use mathlib.Core.Path.{◌≡◌, refl, sym, ap, ap₂, ◌∙◌}
use mathlib.Core.Bool.{Bool, true, false, cond, not, ◌||◌, false≢true}
use mathlib.Core.List.{List, [], ◌∷◌, ◌++◌, append_assoc, append-nil}
use lib.ListN.{length, take, drop, length-drop}
use lib.Seq.{drop-drop, take_all}
use Rattle.slice.specs.Same.{same_bytes}
use Rattle.slice.proofs.SameLaws.{same_refl}
use Rattle.slice.proofs.PartLaws.{rest, Bytes, Bytes-drop}
use Rattle.slice_int.specs.Be.{be_at}
use Rattle.slice_int.specs.Put.{put}
use Rattle.slice_int.proofs.PutLaws.{put-nil, put-after}
use Rattle.keyed.specs.Keyed.{filter}
use Rattle.std.specs.declared.cmp.Ordering.{Ordering}
use Rattle.std.specs.declared.cmp.Ordering.TheVariants.{Less, Equal, Greater}
use Rattle.watch_topics.specs.declared.Place.{Place}
use Rattle.watch_topics.specs.Topics.{order, by_order, has, rising}
use Rattle.watch_topics.specs.Packed.{encode_topics, size_topics, decode_topics, is_whole, topic_place}
use Rattle.watch_topics.proofs.OrderLaws.{order-equal, order_trans, less-flip, greater-flip, same-greater, is-before}
use Rattle.watch_topics.proofs.SetLaws.{has-before, has_first, has-cases, rising-tail, first-before, filter_alike, filter-append}
use Rattle.watch_topics.proofs.PackedLaws.{length-encode, encode-append, size-append, size-topics, size-parts}
use Rattle.watch_topics.proofs.PackedLaws.{write-back, front_bytes, rest-topics, rest-whole}
use Rattle.watch_topics.proofs.PlaceLaws.{lower, lower-below, below_in, place_at, place-has}
use Rattle.watch_topics.proofs.WalkLaws.{part-is, entry-topics, entry-fits, entry-rest, entry_length, topics-end}
use Rattle.watch_merge.specs.Merge.{without, Rises}
use Rattle.slice_moves.proofs.MoveLaws.{drop-behind}

-- ---- a topic parts a rising list

-- the topics behind t
unfoldable pub past : List ℕ → List (List ℕ) → List (List ℕ)
past t [] = []
past t (u ∷ us) = by_order (order t u) (u ∷ us) us (past t us)

-- t itself, where it is one of them
abbrev pub here : List ℕ → List (List ℕ) → List (List ℕ)
here t l = cond (has t l) (t ∷ []) []

pub three-parts : (t : List ℕ) (l : List (List ℕ)) → rising l ≡ true → l ≡ (lower t l ++ here t l) ++ past t l
unfolding lower past has
three-parts t [] r = refl
three-parts t (u ∷ us) r = go (order t u) refl (three-parts t us (rising-tail u us r))
  where
    go : (o : Ordering) → order t u ≡ o → us ≡ (lower t us ++ here t us) ++ past t us
        → u ∷ us
        ≡ (by_order (order t u) [] [] (u ∷ lower t us) ++ cond (same_bytes t u || has t us) (t ∷ []) [])
        ++ by_order (order t u) (u ∷ us) us (past t us)
    go Less e h = let k : (same_bytes t u || has t us) ≡ false = has-before t (u ∷ us) (is-before t u e) r in rw (k, e)
    go Equal e h =
        let k : t ≡ u = order-equal t u e in
        let f : same_bytes t u ≡ true = ap (same_bytes t) (sym k) ∙ same_refl t in
        rw (e, f) (ap (λ (x : List ℕ). x ∷ us) (sym k))
    go Greater e h = rw (e, same-greater t u e) (ap (λ (x : List (List ℕ)). u ∷ x) h)

pub rising-past : (t : List ℕ) (l : List (List ℕ)) → rising l ≡ true → rising (past t l) ≡ true
unfolding past
rising-past t [] r = r
rising-past t (u ∷ us) r = go (order t u) refl (rising-past t us (rising-tail u us r))
  where
    go : (o : Ordering) → order t u ≡ o → rising (past t us) ≡ true → rising (by_order (order t u) (u ∷ us) us (past t us)) ≡ true
    go Less e h = rw e r
    go Equal e h = rw e (rising-tail u us r)
    go Greater e h = rw e h

past-behind : (t : List ℕ) (l : List (List ℕ)) (x : List ℕ) → rising l ≡ true → has x (past t l) ≡ true → order t x ≡ Less
unfolding past has
past-behind t [] x r h = absurd (false≢true h)
past-behind t (u ∷ us) x r h = go (order t u) refl h (past-behind t us x (rising-tail u us r))
  where
    go : (o : Ordering) → order t u ≡ o → has x (by_order o (u ∷ us) us (past t us)) ≡ true
        → (has x (past t us) ≡ true → order t x ≡ Less) → order t x ≡ Less
    go Less e k ih = has-cases x u us k (λ q. ap (order t) q ∙ e) (λ q. order_trans t u x e (first-before u us x r q))
    go Equal e k ih = ap (λ (y : List ℕ). order y x) (order-equal t u e) ∙ first-before u us x r k
    go Greater e k ih = ih k

-- ---- taken out

pub without-none : (l : List (List ℕ)) → without l [] ≡ l
unfolding without has
without-none [] = refl
without-none (u ∷ us) = ap (λ (x : List (List ℕ)). u ∷ x) (without-none us)

filter-all : (p : List ℕ → Bool) (l : List (List ℕ)) → ((t : List ℕ) → has t l ≡ true → p t ≡ true) → filter p l ≡ l
filter-all p l h = filter_alike p (λ t. true) l h ∙ all l
  where
    all : (l : List (List ℕ)) → filter (λ (t : List ℕ). true) l ≡ l
    all [] = refl
    all (u ∷ us) = ap (λ (x : List (List ℕ)). u ∷ x) (all us)

module _ (t : List ℕ) (gone : List (List ℕ)) (l : List (List ℕ)) (g : rising (t ∷ gone) ≡ true) (r : rising l ≡ true) where
  abbrev stays : List ℕ → Bool
  stays u = not (has u (t ∷ gone))

  lower-stays : filter stays (lower t l) ≡ lower t l
  lower-stays =
      filter-all stays (lower t l)
      (λ u h. ap not (has-before u (t ∷ gone) (is-before u t (greater-flip t u (below_in t (lower t l) u (lower-below t l) h))) g))

  here-goes : filter stays (here t l) ≡ []
  here-goes = go (has t l)
    where
      go : (b : Bool) → filter stays (cond b (t ∷ []) []) ≡ []
      go true = rw (has_first t gone)
      go false = refl

  past-stays : filter stays (past t l) ≡ filter (λ u. not (has u gone)) (past t l)
  unfolding has
  past-stays =
      filter_alike stays (λ u. not (has u gone)) (past t l)
      (λ u h. ap (λ (b : Bool). not (b || has u gone)) (same-greater u t (less-flip t u (past-behind t l u r h))))

  front-stays : filter stays (lower t l ++ here t l) ≡ lower t l
  front-stays =
      filter-append stays (lower t l) (here t l)
      ∙ ap₂ (λ (x y : List (List ℕ)). x ++ y) lower-stays here-goes
      ∙ append-nil (lower t l)

  pub without-next : without l (t ∷ gone) ≡ lower t l ++ without (past t l) gone
  unfolding without
  without-next =
      ap (filter stays) (three-parts t l r)
      ∙ filter-append stays (lower t l ++ here t l) (past t l)
      ∙ ap₂ (λ (x y : List (List ℕ)). x ++ y) front-stays past-stays

-- ---- the bytes

-- the topics that are kept stand at the front of b, `to` bytes; those behind the place `from` stand as they were; those behind the place
-- `at` of g are still to be taken out
pub record Left (o g b : List ℕ) (to from at : ℕ) : Type 0 where
  pub bytes : Bytes o
  pub gone-bytes : Bytes g
  pub kept : List (List ℕ)
  pub split : without (decode_topics o) (decode_topics g) ≡ kept ++ without (decode_topics (drop from o)) (decode_topics (drop at g))
  pub wrote : b ≡ put o 0 (encode_topics kept)
  pub end : to ≡ size_topics kept
  pub down : to ≤ from
  pub within : from ≤ length o
  pub long : length b ≡ length o
  pub rises : Rises (drop from o)
  pub passed : at ≤ length g
  pub gone-rises : Rises (drop at g)

pub take-start : (o g : List ℕ) → Bytes o → Bytes g → Rises o → Rises g → Left o g o 0 0 0
unfolding encode_topics size_topics
take-start o g bo bg ro rg =
    record {
      bytes = bo;
      gone-bytes = bg;
      kept = [];
      split = refl;
      wrote = sym (put-nil o 0);
      end = refl;
      down = omega arith;
      within = omega arith;
      long = refl;
      rises = ro;
      passed = omega arith;
      gone-rises = rg;
    }

module _ {o g b : List ℕ} {to from at : ℕ} (v : Left o g b to from at) where
  -- what is behind the place is as it was
  rest-is : drop from b ≡ drop from o
  rest-is =
      ap (drop from) v.wrote
      ∙ drop-behind o 0 (encode_topics v.kept) from (omega (arith, length-encode v.kept, v.end, v.down)) (omega arith)

  rest-valid : Bytes (drop from o)
  rest-valid = Bytes-drop from o v.bytes

  pub part-rest : take (length b - from) (drop from b) ≡ drop from o
  part-rest = rest b from ∙ rest-is

  pub part-whole : is_whole (take (length b - from) (drop from b)) ≡ true
  part-whole = ap is_whole part-rest ∙ v.rises.whole

  pub part-rises : rising (decode_topics (take (length b - from) (drop from b))) ≡ true
  part-rises = ap (λ (l : List ℕ). rising (decode_topics l)) part-rest ∙ v.rises.rises

  -- bytes moved down from the place, which are those of more topics
  moved : (more : List (List ℕ)) (m : ℕ) → m ≡ size_topics more → from + m ≤ length o → take m (drop from o) ≡ encode_topics more
      → put b to (take m (drop from b)) ≡ put o 0 (encode_topics (v.kept ++ more))
  moved more m e k f =
      let E : List ℕ = encode_topics v.kept in
      let l : length E ≡ size_topics v.kept = length-encode v.kept in
      let n : length (encode_topics more) ≡ size_topics more = length-encode more in
      let s : 0 + length E ≡ to = omega (arith, v.end) in
      let d : to ≤ from = v.down in
      let room : 0 + length E + length (encode_topics more) ≤ length o = omega arith in
      ap (λ (x : List ℕ). put b to (take m x)) rest-is
      ∙ ap (put b to) f
      ∙ ap (λ (x : List ℕ). put x to (encode_topics more)) v.wrote
      ∙ ap (λ (i : ℕ). put (put o 0 E) i (encode_topics more)) (sym s)
      ∙ put-after o 0 E (encode_topics more) room
      ∙ ap (put o 0) (sym (encode-append v.kept more))

  module _ (h : at < length g) (n : ℕ) (e : n ≡ be_at 2 g at) where
    pub gone-fits : at + 2 + n ≤ length g
    gone-fits = entry-fits g at n h e v.gone-rises.whole

    abbrev topic : List ℕ
    topic = take n (drop (at + 2) g)

    abbrev behind : List (List ℕ)
    behind = decode_topics (drop from o)

    abbrev gone : List (List ℕ)
    gone = decode_topics (drop (at + 2 + n) g)

    gone-next : rising (topic ∷ gone) ≡ true
    gone-next = ap rising (sym (entry-topics g at n h e)) ∙ v.gone-rises.rises

    module _ (p : Place)
        (q : p ≡ topic_place (take (at + 2 + n - (at + 2)) (drop (at + 2) g)) 0 (decode_topics (take (length b - from) (drop from b)))) where
      is-place : p ≡ topic_place topic 0 behind
      is-place = q ∙ ap₂ (λ (x : List ℕ) (y : List ℕ). topic_place x 0 (decode_topics y)) (part-is g (at + 2) n) part-rest

      is_at : p.at ≡ size_topics (lower topic behind)
      is_at =
          let f : (topic_place topic 0 behind).at ≡ 0 + size_topics (lower topic behind) = place_at topic 0 behind in
          ap (λ (x : Place). x.at) is-place ∙ f ∙ omega arith

      is-present : p.present ≡ has topic behind
      is-present = ap (λ (x : Place). x.present) is-place ∙ place-has topic 0 behind v.rises.rises

      module _ (s : ℕ) (f : s ≡ cond p.present (2 + n) 0) where
        abbrev front : List (List ℕ)
        front = lower topic behind ++ here topic behind

        in-front : behind ≡ front ++ past topic behind
        in-front = three-parts topic behind v.rises.rises

        here-size : size_topics (here topic behind) ≡ s
        unfolding size_topics
        here-size = go (has topic behind) (f ∙ ap (λ (x : Bool). cond x (2 + n) 0) is-present)
          where
            go : (x : Bool) → s ≡ cond x (2 + n) 0 → size_topics (cond x (topic ∷ []) []) ≡ s
            go true k = omega (arith, entry_length g at n h e gone-fits)
            go false k = sym k

        front-size : size_topics front ≡ p.at + s
        front-size = size-append (lower topic behind) (here topic behind) ∙ omega (arith, is_at, here-size)

        pub take-room : from + p.at + s ≤ length o
        take-room =
            omega (
              arith,
              size-parts (drop from o) rest-valid v.rises.whole front (past topic behind) in-front,
              length-drop from o,
              front-size,
              v.within,
            )

        next-bytes : drop (from + p.at + s) o ≡ drop (size_topics front) (drop from o)
        next-bytes =
            let k : from + (p.at + s) ≡ from + p.at + s = omega arith in
            sym (ap (λ (i : ℕ). drop i (drop from o)) front-size ∙ drop-drop (p.at + s) from o ∙ ap (λ (i : ℕ). drop i o) k)

        next-topics : decode_topics (drop (from + p.at + s) o) ≡ past topic behind
        next-topics =
            ap decode_topics next-bytes ∙ rest-topics (drop from o) rest-valid v.rises.whole front (past topic behind) in-front

        next-whole : is_whole (drop (from + p.at + s) o) ≡ true
        next-whole =
            ap is_whole next-bytes ∙ rest-whole (drop from o) rest-valid v.rises.whole front (past topic behind) in-front

        lower-bytes : take p.at (drop from o) ≡ encode_topics (lower topic behind)
        lower-bytes =
            ap (λ (i : ℕ). take i (drop from o)) is_at
            ∙ front_bytes (drop from o) rest-valid v.rises.whole (lower topic behind) (here topic behind ++ past topic behind)
            (in-front ∙ append_assoc (lower topic behind) (here topic behind) (past topic behind))

        pub take_next : (b' : List ℕ) → b' ≡ put b to (take p.at (drop from b)) → length b' ≡ length b
            → Left o g b' (to + p.at) (from + p.at + s) (at + 2 + n)
        take_next b' w l =
            record {
              bytes = v.bytes;
              gone-bytes = v.gone-bytes;
              kept = v.kept ++ lower topic behind;
              split =
                  v.split
                  ∙ ap (λ (x : List (List ℕ)). v.kept ++ without behind x) (entry-topics g at n h e)
                  ∙ ap (λ (x : List (List ℕ)). v.kept ++ x) (without-next topic gone behind gone-next v.rises.rises)
                  ∙ sym (append_assoc v.kept (lower topic behind) (without (past topic behind) gone))
                  ∙ ap (λ (x : List (List ℕ)). (v.kept ++ lower topic behind) ++ without x gone) (sym next-topics);
              wrote = w ∙ moved (lower topic behind) p.at is_at (omega (arith, take-room)) lower-bytes;
              end = omega (arith, size-append v.kept (lower topic behind), v.end, is_at);
              down = omega (arith, v.down);
              within = take-room;
              long = l ∙ v.long;
              rises = record { whole = next-whole; rises = ap rising next-topics ∙ rising-past topic behind v.rises.rises };
              passed = gone-fits;
              gone-rises = record {
                whole = entry-rest g at n h e v.gone-rises.whole;
                rises = rising-tail topic gone gone-next;
              };
            }

      pub place-room : from + p.at ≤ length o
      place-room = omega (arith, take-room (cond p.present (2 + n) 0) refl)

  pub take-end : length g ≤ at → (b' : List ℕ) → b' ≡ put b to (take (length b - from) (drop from b))
      → (to + (length b - from) ≡ size_topics (without (decode_topics o) (decode_topics g)))
      × (b' ≡ put o 0 (encode_topics (without (decode_topics o) (decode_topics g))))
  take-end h b' w =
      let r : List (List ℕ) = decode_topics (drop from o) in
      let all : without (decode_topics o) (decode_topics g) ≡ v.kept ++ r =
      v.split ∙ ap (λ (x : List (List ℕ)). v.kept ++ x) (ap (without r) (topics-end g at h) ∙ without-none r) in
      let z : size_topics r ≡ length (drop from o) = size-topics (drop from o) rest-valid v.rises.whole in
      let ld : length (drop from o) ≡ length o - from = length-drop from o in
      let lb : length b ≡ length o = v.long in
      let lw : from ≤ length o = v.within in
      let f : take (length b - from) (drop from o) ≡ encode_topics r =
      take_all (length b - from) (drop from o) (omega arith) ∙ sym (write-back (drop from o) rest-valid v.rises.whole) in (
        omega (arith, ap size_topics all, size-append v.kept r, v.end),
        w ∙ moved r (length b - from) (omega arith) (omega arith) f ∙ ap (λ (x : List (List ℕ)). put o 0 (encode_topics x)) (sym all),
      )
