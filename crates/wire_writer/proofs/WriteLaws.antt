-- Laws of the bytes that the writers store, over plain lists and numbers.
--
-- In order: an element stored in front of what is put next (`put-cons`); a byte of a varint, where `Left` of proofs/LeftLaws says how
-- far it is written (`write-next`, `write-last`); one list put right behind another (`room-first`, `room-second`, `put_two`).
-- Assumes nothing.
use Prim.Native.Nat.{ℕ, ◌+◌, ◌/◌, ◌%◌, ◌≤◌, ◌<◌}
use native.Mathlib.Omega.{arith}
use mathlib.Core.Path.{◌≡◌, sym, ap, ◌∙◌}
use mathlib.Core.List.{List, [], ◌∷◌, ◌++◌}
use lib.ListN.{length, set, length-append}
use Rattle.slice_int.specs.Put.{put}
use Rattle.slice_int.proofs.PutLaws.{length-put, put_one, put-after}
use Rattle.wire_writer.specs.Encode.{varint_bytes}
use Rattle.wire_writer.proofs.LeftLaws.{left, Left, left-more, left-next, left-last, left_end}

-- ---- a byte

pub put-cons : (o : List ℕ) (i b : ℕ) (l : List ℕ) → i + 1 + length l ≤ length o → put (set o i b) (i + 1) l ≡ put o i (b ∷ l)
put-cons o i b l h = ap (λ (m : List ℕ). put m (i + 1) l) (put_one o i b (omega arith)) ∙ put-after o i (b ∷ []) l (omega arith)

module _ (at v i rest : ℕ) (w : Left at v i rest) (o : List ℕ) (room : at + length (varint_bytes v) ≤ length o) where
  pub write-next : 128 ≤ rest → put (set o i (rest % 128 + 128)) (i + 1) (left at (i + 1) (rest / 128)) ≡ put o i (left at i rest)
  write-next h =
      let n = left-next at v i rest w h in
      put-cons o i (rest % 128 + 128) (left at (i + 1) (rest / 128)) (omega arith) ∙ ap (put o i) (sym (left-more at v i rest w h))

  pub write-last : rest < 128 → set o i rest ≡ put o i (left at i rest)
  write-last h =
      let n = left_end at v i rest w h in
      put_one o i rest (omega arith) ∙ ap (put o i) (sym (left-last at v i rest w h))

-- ---- two lists

module _ (o : List ℕ) (at : ℕ) (A B : List ℕ) (h : at + length (A ++ B) ≤ length o) where
  -- there is room for the first
  pub room-first : at + length A ≤ length o
  room-first = omega (arith, length-append A B)

  module _ (n : ℕ) (p : List ℕ) (e : (n ≡ at + length A) × (p ≡ put o at A)) where
    -- and for the second behind it
    pub room-second : n + length B ≤ length p
    room-second = omega (arith, length-append A B, ap length e.1, length-put o at A room-first)

    pub put_two : (m : ℕ) (q : List ℕ) → (m ≡ n + length B) × (q ≡ put p n B) → (m ≡ at + length (A ++ B)) × (q ≡ put o at (A ++ B))
    put_two m q f = (
      omega (arith, length-append A B),
      f.1
          ∙ ap (λ (l : List ℕ). put l n B) e.1
          ∙ ap (λ (k : ℕ). put (put o at A) k B) e.0
          ∙ put-after o at A B (omega (arith, length-append A B)),
    )
