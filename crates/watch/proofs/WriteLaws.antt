-- What the writes come to, over plain bytes: a snapshot's output, a diff's lists in the output, and its set in the buffer.
--
-- In order: a part that is written whole (`put-prefix`); a snapshot (`snapshot-written`); the three writes of a diff's output
-- (`lists-..`), and the lists read back from it (`output-..`).
-- Assumes nothing.
use Prim.Native.Nat.{ℕ, ◌+◌, ◌-◌, ◌≤◌}
use native.Mathlib.Omega.{arith}
use mathlib.Core.Path.{◌≡◌, sym, ap, ◌∙◌}
use mathlib.Core.List.{List, [], ◌∷◌, ◌++◌, append_assoc}
use lib.ListN.{length, take, drop, set, length-append, length-take, length-drop, take-append-drop}
use lib.Seq.{length-take-le, take_at, drop_at, drop-drop, drop-append-le}
use borrow.Rule.Slice.PartMut.{put_mid}
use Rattle.slice_int.specs.Be.{bytes_of}
use Rattle.slice_int.specs.Put.{put}
use Rattle.slice_int.proofs.BeLaws.{length-bytes_of}
use Rattle.slice_int.proofs.PutLaws.{length-put, put_one, put-before, take_put}
use Rattle.watch_chunks.proofs.DiffLaws.{put_rest}

-- ---- a part of a slice

-- the front of a slice is written, up to n elements of it
pub put-prefix : (b : List ℕ) (n : ℕ) (vs r : List ℕ) → length vs ≤ n → n ≤ length b → r ≡ put (take n b) 0 vs → r ++ drop n b ≡ put b 0 vs
unfolding put
put-prefix b n vs r h k er =
    let i : ℕ = 0 + length vs in
    let l : length (take n b) ≡ n = length-take-le n b k in
    let d : drop i (take n b) ++ drop n b ≡ drop i b =
    sym (drop-append-le i (take n b) (drop n b) (omega arith)) ∙ ap (drop i) (take-append-drop n b) in
    ap (λ (x : List ℕ). x ++ drop n b) er ∙ append_assoc vs (drop i (take n b)) (drop n b) ∙ ap (λ (x : List ℕ). vs ++ x) d

-- the bytes at the front
pub take-front : (b A : List ℕ) (n : ℕ) → n ≡ length A → take n (put b 0 A) ≡ A
take-front b A n e = ap (λ (i : ℕ). take i (put b 0 A)) e ∙ take_put b 0 A (omega arith)

-- ---- a snapshot

-- a byte in front of what was written
front-byte : (o E : List ℕ) (b : ℕ) → 1 + length E ≤ length o → set (put o 1 E) 0 b ≡ put o 0 (b ∷ E)
front-byte o E b h =
    let k : length (put o 1 E) ≡ length o = length-put o 1 E h in
    put_one (put o 1 E) 0 b (omega arith) ∙ put-before o 0 1 (b ∷ []) E (omega arith) h

-- bytes that are written over do not matter
over : (o s X : List ℕ) (n : ℕ) → n ≤ length X → drop n s ≡ drop n o → put s 0 X ≡ put o 0 X
unfolding put
over o s X n h e =
    let k : ℕ = length X - n in
    let d : n + k ≡ 0 + length X = omega arith in
    let on : (l : List ℕ) → drop (0 + length X) l ≡ drop k (drop n l) = λ l. ap (λ (i : ℕ). drop i l) (sym d) ∙ sym (drop-drop k n l) in
    ap (λ (r : List ℕ). X ++ r) (on s ∙ ap (drop k) e ∙ sym (on o))

-- the set is copied behind the kind, to an output whose first n bytes may have changed
pub snapshot-written : (buffer out spare E b w : List ℕ) (n : ℕ) → n ≡ length E → 1 + n ≤ length spare → drop n spare ≡ drop n out
    → b ≡ put buffer 0 E → w ≡ put spare 1 (take n b) → set w 0 0 ≡ put out 0 (0 ∷ E)
snapshot-written buffer out spare E b w n en h es eb ew =
    ap (λ (s : List ℕ). set s 0 0) (ew ∙ ap (put spare 1) (ap (take n) eb ∙ take-front buffer E n en)) ∙ front-byte spare E 0 (omega arith)
    ∙ over out spare (0 ∷ E) n (omega arith) es

-- ---- the output of a diff

module _ (o A R : List ℕ) (z g : ℕ) (ez : z ≡ length A) (eg : g ≡ length R) (h : 5 + z + g ≤ length o) where
  abbrev at : ℕ
  at = 5 + z

  pub lists-room : z + g ≤ length (take (length o - 5) (drop 5 o))
  lists-room = rw (length-take, length-drop) (omega arith)

  module _ (x : List ℕ) (ex : x ≡ put (take (length o - 5) (drop 5 o)) 0 (A ++ R)) where
    abbrev o1 : List ℕ
    o1 = put_mid 5 (length o - 5) o x

    both_is : o1 ≡ put o 5 (A ++ R)
    both_is = put_rest o 5 (A ++ R) x (omega (arith, length-append A R)) ex

    pub both_long : length o1 ≡ length o
    both_long = ap length both_is ∙ length-put o 5 (A ++ R) (omega (arith, length-append A R))

    module _ (w : List ℕ) (ew : w ≡ put o1 1 (bytes_of 4 z)) where
      pub lists-written : set w 0 1 ≡ put o 0 (1 ∷ (bytes_of 4 z ++ (A ++ R)))
      lists-written =
          let B : List ℕ = bytes_of 4 z in
          let lb : length B ≡ 4 = length-bytes_of 4 z in
          let la : length (A ++ R) ≡ length A + length R = length-append A R in
          let lc : length (B ++ (A ++ R)) ≡ length B + length (A ++ R) = length-append B (A ++ R) in
          ap (λ (s : List ℕ). set s 0 1)
          (ew ∙ ap (λ (s : List ℕ). put s 1 B) both_is ∙ put-before o 1 5 B (A ++ R) (omega arith) (omega arith))
          ∙ front-byte o (B ++ (A ++ R)) 1 (omega arith)

      pub lists-long : length (set w 0 1) ≡ length o
      lists-long =
          let B : List ℕ = bytes_of 4 z in
          ap length lists-written
          ∙ length-put o 0 (1 ∷ (B ++ (A ++ R))) (omega (arith, length-bytes_of 4 z, length-append A R, length-append B (A ++ R)))

  -- the lists, read back from the output
  module _ (w : List ℕ) (ew : w ≡ put o 0 (1 ∷ (bytes_of 4 z ++ (A ++ R)))) where
    rest-is : drop 5 w ≡ A ++ (R ++ drop (at + g) o)
    unfolding put
    rest-is =
        let B : List ℕ = bytes_of 4 z in
        let D : List ℕ = drop (0 + length (1 ∷ (B ++ (A ++ R)))) o in
        let n : 0 + length (1 ∷ (B ++ (A ++ R))) ≡ at + g =
        omega (arith, length-bytes_of 4 z, length-append A R, length-append B (A ++ R)) in
        ap (drop 5) ew
        ∙ ap (drop 4) (append_assoc B (A ++ R) D)
        ∙ drop_at B ((A ++ R) ++ D) 4 (length-bytes_of 4 z)
        ∙ append_assoc A R D
        ∙ ap (λ (i : ℕ). A ++ (R ++ drop i o)) n

    pub output-added : take (at - 5) (drop 5 w) ≡ A
    output-added = ap (take (at - 5)) rest-is ∙ take_at A (R ++ drop (at + g) o) (at - 5) (omega arith)

    pub output-removed : take (at + g - at) (drop at w) ≡ R
    output-removed =
        ap (take (at + g - at)) (sym (drop-drop z 5 w) ∙ ap (drop z) rest-is ∙ drop_at A (R ++ drop (at + g) o) z (sym ez))
        ∙ take_at R (drop (at + g) o) (at + g - at) (omega arith)
