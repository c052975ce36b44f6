-- Bytes of one list copied into another, eight at a time, the last eight over those before them.
--
-- In order: a number read and written (`number-bytes`); elements put over others (`put-again`); a piece more (`copy_more`).
-- Assumes nothing.
use Prim.Native.Nat.{ℕ, ◌+◌, ◌-◌, ◌≤◌}
use native.Mathlib.Omega.{arith}
use mathlib.Core.Path.{◌≡◌, sym, ap, ◌∙◌}
use mathlib.Core.List.{List, ◌++◌}
use lib.ListN.{length, take, drop, length-drop}
use lib.Seq.{length-take-le, take_at, take-add, drop-drop}
use Rattle.slice.proofs.PartLaws.{Bytes, Bytes-drop}
use Rattle.slice_int.specs.Be.{be_at, bytes_of}
use Rattle.slice_int.specs.Put.{put}
use Rattle.slice_int.proofs.BeLaws.{bytes_of-front}
use Rattle.slice_int.proofs.PutLaws.{length-put, put-after, drop-put}

-- a number that is read and written is its bytes copied
pub number-bytes : (n : ℕ) (s : List ℕ) (q v : ℕ) → Bytes s → q + n ≤ length s → v ≡ be_at n s q → bytes_of n v ≡ take n (drop q s)
unfolding be_at
number-bytes n s q v b h e = ap (bytes_of n) e ∙ bytes_of-front n (drop q s) (rw length-drop (omega arith)) (Bytes-drop q s b)

-- what was put is put over by no fewer elements
put-again : (o : List ℕ) (at : ℕ) (A B : List ℕ) → length A ≤ length B → at + length B ≤ length o → put (put o at A) at B ≡ put o at B
unfolding put
put-again o at A B h k =
    let R : List ℕ = A ++ drop (at + length A) o in
    let more : ℕ = length B - length A in
    let e : at + length B ≡ at + length A + more = omega arith in
    let t : take at (take at o ++ R) ≡ take at o = take_at (take at o) R at (length-take-le at o (omega arith)) in
    let d : drop (at + length B) (take at o ++ R) ≡ drop (at + length B) o =
    rw e (sym (drop-drop more (at + length A) (take at o ++ R)) ∙ ap (drop more) (drop-put o at A (omega arith)) ∙ drop-drop more (at + length A) o) in
    rw (t, d)

-- i bytes are copied; then n more behind the first j, which are all of them or fewer
pub copy_more : (o s : List ℕ) (at p i j n : ℕ) (t u : List ℕ) → j ≤ i → i ≤ j + n → p + j + n ≤ length s → at + j + n ≤ length o
    → t ≡ put o at (take i (drop p s)) → u ≡ put t (at + j) (take n (drop (p + j) s)) → u ≡ put o at (take (j + n) (drop p s))
copy_more o s at p i j n t u ji ij hs ho et eu =
    let S : List ℕ = drop p s in
    let A : List ℕ = take j S in
    let M : List ℕ = take (i - j) (drop j S) in
    let B : List ℕ = take n (drop j S) in
    let la : length A ≡ j = length-take-le j S (rw length-drop (omega arith)) in
    let lm : length M ≡ i - j = length-take-le (i - j) (drop j S) (simp length-drop (omega arith)) in
    let lb : length B ≡ n = length-take-le n (drop j S) (simp length-drop (omega arith)) in
    let lo : length (put o at A) ≡ length o = length-put o at A (omega arith) in
    let e : j + (i - j) ≡ i = omega arith in
    let am : put (put o at A) (at + j) M ≡ put o at (A ++ M) =
    ap (λ (k : ℕ). put (put o at A) (at + k) M) (sym la) ∙ put-after o at A M (omega arith) in
    let ab : put (put o at A) (at + j) B ≡ put o at (A ++ B) =
    ap (λ (k : ℕ). put (put o at A) (at + k) B) (sym la) ∙ put-after o at A B (omega arith) in
    let first : t ≡ put (put o at A) (at + j) M =
    et ∙ ap (λ (k : ℕ). put o at (take k S)) (sym e) ∙ ap (put o at) (take-add j (i - j) S) ∙ sym am in
    eu
    ∙ ap (λ (l : List ℕ). put t (at + j) (take n l)) (sym (drop-drop j p s))
    ∙ ap (λ (l : List ℕ). put l (at + j) B) first
    ∙ put-again (put o at A) (at + j) M B (omega arith) (omega arith)
    ∙ ab
    ∙ ap (put o at) (sym (take-add j n S))
