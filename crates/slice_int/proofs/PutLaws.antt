-- Laws of `put`.
--
-- In order: the length (`length-put`); nothing and one element put (`put-nil`, `put_one`); right behind and right before what was put last (`put-after`,
-- `put-before`), and one element more behind it (`put-snoc`); what is read of the result (`take_put`, `drop-put`).
-- Assumes nothing.
use Prim.Native.Nat.{ℕ, ◌+◌, ◌≤◌, ◌<◌}
use native.Mathlib.Nat.{add-zero}
use native.Mathlib.Numerals.{add-one}
use native.Mathlib.Omega.{arith}
use mathlib.Core.Path.{◌≡◌, refl, sym, ap, ◌∙◌}
use mathlib.Core.List.{List, [], ◌∷◌, ◌++◌, append_assoc}
use lib.ListN.{length, take, drop, set, length-append, length-take, length-drop, take-append-drop}
use lib.Seq.{take_at, drop_at, take-take, take-append-le, drop-drop, set_split, length-take-le}
use Rattle.slice_int.specs.Put.{put}

pub length-put : (l : List ℕ) (at : ℕ) (vs : List ℕ) → at + length vs ≤ length l → length (put l at vs) ≡ length l
unfolding put
length-put l at vs h = simp (length-append, length-take, length-drop) (omega arith)

pub put-nil : (o : List ℕ) (at : ℕ) → put o at [] ≡ o
unfolding put
put-nil o at = rw add-zero (take-append-drop at o)

pub put_one : (o : List ℕ) (at b : ℕ) → at < length o → set o at b ≡ put o at (b ∷ [])
unfolding put
put_one o at b h = set_split o at b h ∙ ap (λ (n : ℕ). take at o ++ (b ∷ drop n o)) (sym (add-one at))

-- ---- next to what was put last

pub put-after : (o : List ℕ) (at : ℕ) (A B : List ℕ) → at + length A + length B ≤ length o → put (put o at A) (at + length A) B ≡ put o at (A ++ B)
unfolding put
put-after o at A B h =
    let P : List ℕ = take at o in
    let R : List ℕ = drop (at + length A) o in
    let lp : length P ≡ at = length-take-le at o (omega arith) in
    let lpa : length (P ++ A) ≡ at + length A = length-append P A ∙ omega arith in
    let f : at + length A + length B ≡ at + length (A ++ B) = rw length-append (omega arith) in
    let s : P ++ (A ++ R) ≡ (P ++ A) ++ R = sym (append_assoc P A R) in
    let t : take (at + length A) (P ++ (A ++ R)) ≡ P ++ A = ap (take (at + length A)) s ∙ take_at (P ++ A) R (at + length A) lpa in
    let d : drop (at + length A + length B) (P ++ (A ++ R)) ≡ drop (at + length (A ++ B)) o =
    sym (drop-drop (length B) (at + length A) (P ++ (A ++ R)))
    ∙ ap (λ (l : List ℕ). drop (length B) (drop (at + length A) l)) s
    ∙ ap (drop (length B)) (drop_at (P ++ A) R (at + length A) lpa)
    ∙ drop-drop (length B) (at + length A) o
    ∙ ap (λ (n : ℕ). drop n o) f in
    ap (λ (l : List ℕ). l ++ (B ++ drop (at + length A + length B) (P ++ (A ++ R)))) t
    ∙ ap (λ (l : List ℕ). (P ++ A) ++ (B ++ l)) d
    ∙ simp append_assoc

pub put-before : (o : List ℕ) (at n : ℕ) (A B : List ℕ) → n ≡ at + length A → n + length B ≤ length o → put (put o n B) at A ≡ put o at (A ++ B)
unfolding put
put-before o at n A B e h =
    let W : List ℕ = B ++ drop (n + length B) o in
    let lt : length (take n o) ≡ n = length-take-le n o (omega arith) in
    let t : take at (take n o ++ W) ≡ take at o = take-append-le at (take n o) W (omega arith) ∙ take-take at n o (omega arith) in
    let d : drop (at + length A) (take n o ++ W) ≡ W = drop_at (take n o) W (at + length A) (omega arith) in
    let f : n + length B ≡ at + length (A ++ B) = rw length-append (omega arith) in
    ap (λ (l : List ℕ). l ++ (A ++ drop (at + length A) (take n o ++ W))) t
    ∙ ap (λ (l : List ℕ). take at o ++ (A ++ l)) d
    ∙ ap (λ (m : ℕ). take at o ++ (A ++ (B ++ drop m o))) f
    ∙ simp append_assoc

-- one element stored right behind
pub put-snoc : (o : List ℕ) (at n : ℕ) (A : List ℕ) (b : ℕ) → length A ≡ n → at + n < length o → set (put o at A) (at + n) b ≡ put o at (A ++ (b ∷ []))
put-snoc o at n A b e h =
    let k : length (put o at A) ≡ length o = length-put o at A (omega arith) in
    put_one (put o at A) (at + n) b (omega arith)
    ∙ ap (λ (m : ℕ). put (put o at A) (at + m) (b ∷ [])) (sym e)
    ∙ put-after o at A (b ∷ []) (omega arith)

-- ---- what is read of the result

-- the elements that were put
pub take_put : (o : List ℕ) (at : ℕ) (A : List ℕ) → at ≤ length o → take (length A) (drop at (put o at A)) ≡ A
unfolding put
take_put o at A h =
    ap (take (length A)) (drop_at (take at o) (A ++ drop (at + length A) o) at (length-take-le at o h)) ∙ take_at A (drop (at + length A) o) (length A) refl

-- those behind them
pub drop-put : (o : List ℕ) (at : ℕ) (A : List ℕ) → at ≤ length o → drop (at + length A) (put o at A) ≡ drop (at + length A) o
unfolding put
drop-put o at A h =
    sym (drop-drop (length A) at (take at o ++ (A ++ drop (at + length A) o)))
    ∙ ap (drop (length A)) (drop_at (take at o) (A ++ drop (at + length A) o) at (length-take-le at o h))
    ∙ drop_at A (drop (at + length A) o) (length A) refl
