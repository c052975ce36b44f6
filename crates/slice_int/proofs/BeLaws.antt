-- Laws of numbers as bytes, over every width.
--
-- In order: `be` of two lists joined (`be-append`), and of the m + n bytes at a place (`be-at-add`); `bytes_of` at the width m + n (`bytes_of-add`) and
-- its length; each undoes the other (`be-bytes_of`, `bytes_of-be`); a number lies below the bound of its width (`be-below`), and is bytes (`Bytes-number`); a
-- number at the front of a list (`be-front`, `drop-front`, `bytes_of-front`, `Bytes-front`).
--
-- The functions of src/ cite `be-at-add` and `bytes_of-add`; readers and writers of packed forms the rest.
-- Assumes nothing.
use Prim.Native.Nat.{ℕ, zero, suc, zero-le, ◌+◌, ◌-◌, ◌*◌, ◌/◌, ◌%◌, ◌^◌, ◌≤◌, ◌<◌}
use native.Mathlib.Nat.{not-suc-le-zero, suc-ne-zero, div-add-mod', pow-succ', add-mul, mul_assoc, add-suc, div-one, mod-lt, pow-suc, pow-le-pow_right, div-div-eq-div-mul}
use native.Mathlib.Decide.{dec_le}
use native.Mathlib.Numerals.{add-one}
use native.Mathlib.Omega.{arith}
use lib.Arith.{digits_div, digits_mod, mod-mul}
use mathlib.Core.Path.{◌≡◌, refl, sym, ap, ◌∙◌}
use mathlib.Core.List.{List, [], ◌∷◌, ◌++◌, append_assoc, append-nil}
use lib.ListN.{length, take, drop, get_or, length-append, length-take, length-drop}
use lib.Seq.{take-suc, take_all, take_at, take-add, drop_at, drop-cons, drop-drop, length-take-le}
use lib.Dec.{lit<}
use Rattle.slice.proofs.PartLaws.{Bytes, Bytes-take, Bytes-nil, Bytes-cons, Bytes-append}
use Rattle.slice_int.specs.Be.{be_from, be, be_at, bytes_of}

-- ---- two lists joined

pub be-nil : be [] ≡ 0
unfolding be be_from
be-nil = refl

from-append : (a : ℕ) (xs ys : List ℕ) → be_from a (xs ++ ys) ≡ be_from (be_from a xs) ys
unfolding be_from
from-append a [] ys = refl
from-append a (x ∷ xs) ys = from-append (a * 256 + x) xs ys

-- leading digits count as often as there are bytes behind them
from-split : (a : ℕ) (ys : List ℕ) → be_from a ys ≡ a * 256 ^ length ys + be_from 0 ys
unfolding be_from
from-split a [] = omega arith
from-split a (y ∷ ys) =
    let n : ℕ = length ys in
    let e : (a * 256 + y) * 256 ^ n ≡ a * 256 ^ suc n + y * 256 ^ n =
    add-mul (a * 256) y (256 ^ n) ∙ ap (λ (m : ℕ). m + y * 256 ^ n) (mul_assoc a 256 (256 ^ n) ∙ ap (λ (m : ℕ). a * m) (sym (pow-succ' 256 n))) in
    let z : 0 * 256 + y ≡ y = omega arith in
    from-split (a * 256 + y) ys ∙ rw (z, from-split y ys, e) (omega arith)

pub be-append : (xs ys : List ℕ) → be (xs ++ ys) ≡ be xs * 256 ^ length ys + be ys
unfolding be
be-append xs ys = from-append 0 xs ys ∙ from-split (be_from 0 xs) ys

be-one : (b : ℕ) → be (b ∷ []) ≡ b
unfolding be be_from
be-one b = omega arith

pub be-snoc : (xs : List ℕ) (b : ℕ) → be (xs ++ (b ∷ [])) ≡ be xs * 256 + b
be-snoc xs b = be-append xs (b ∷ []) ∙ rw (be-one b)

-- one byte at a place
pub be-at-one : (s : List ℕ) (at : ℕ) → at < length s → be_at 1 s at ≡ get_or s at 0
unfolding be_at
be-at-one s at h = rw (drop-cons s at 0 h) (be-one (get_or s at 0))

-- the m + n bytes at a place: the first m, then n
pub be-at-add : (m n : ℕ) (s : List ℕ) (at : ℕ) → at + m + n ≤ length s → be_at (m + n) s at ≡ be_at m s at * 256 ^ n + be_at n s (at + m)
unfolding be_at
be-at-add m n s at h =
    let l : length (take n (drop (at + m) s)) ≡ n = length-take-le n (drop (at + m) s) (rw length-drop (omega arith)) in
    ap be (take-add m n (drop at s))
    ∙ rw (drop-drop m at s) (be-append (take m (drop at s)) (take n (drop (at + m) s)) ∙ rw l)

-- ---- the width m + n

pub length-bytes_of : (w v : ℕ) → length (bytes_of w v) ≡ w
unfolding bytes_of
length-bytes_of zero v = refl
length-bytes_of (suc w) v = length-append (bytes_of w (v / 256)) (v % 256 ∷ []) ∙ ap (λ (n : ℕ). n + 1) (length-bytes_of w (v / 256)) ∙ add-one w

-- the low bytes do not see what stands above them
bytes_of_mod : (n v : ℕ) → bytes_of n (v % 256 ^ n) ≡ bytes_of n v
unfolding bytes_of
bytes_of_mod zero v = refl
bytes_of_mod (suc n) v =
    let p : 0 < 256 ^ n = pow-le-pow_right (omega arith) zero-le in
    let s : v % 256 ^ suc n ≡ v / 256 % 256 ^ n * 256 + v % 256 = ap (λ (m : ℕ). v % m) (pow-suc 256 n) ∙ mod-mul v p (omega arith) in
    let r : v % 256 < 256 = mod-lt v (omega arith) in
    ap (λ (m : ℕ). bytes_of n (m / 256) ++ (m % 256 ∷ [])) s
    ∙ ap (λ (m : ℕ). bytes_of n m ++ ((v / 256 % 256 ^ n * 256 + v % 256) % 256 ∷ [])) (digits_div (v / 256 % 256 ^ n) r)
    ∙ ap (λ (m : ℕ). bytes_of n (v / 256 % 256 ^ n) ++ (m ∷ [])) (digits_mod (v / 256 % 256 ^ n) r)
    ∙ ap (λ (l : List ℕ). l ++ (v % 256 ∷ [])) (bytes_of_mod n (v / 256))

high-first : (m n v : ℕ) → bytes_of (m + n) v ≡ bytes_of m (v / 256 ^ n) ++ bytes_of n v
unfolding bytes_of
high-first m zero v = let e : m + 0 ≡ m = omega arith in let d : v / 256 ^ 0 ≡ v = div-one v in rw (e, d) (sym (append-nil (bytes_of m v)))
high-first m (suc n) v =
    let e : m + suc n ≡ suc (m + n) = add-suc m n in
    let d : v / 256 / 256 ^ n ≡ v / 256 ^ suc n = div-div-eq-div-mul v 256 (256 ^ n) ∙ ap (λ (k : ℕ). v / k) (sym (pow-succ' 256 n)) in
    ap (λ (k : ℕ). bytes_of k v) e
    ∙ rw (high-first m n (v / 256), d) (append_assoc (bytes_of m (v / 256 ^ suc n)) (bytes_of n (v / 256)) (v % 256 ∷ []))

-- m + n bytes are the m bytes of the quotient, then the n of the remainder
pub bytes_of-add : (m n v : ℕ) → bytes_of (m + n) v ≡ bytes_of m (v / 256 ^ n) ++ bytes_of n (v % 256 ^ n)
bytes_of-add m n v = high-first m n v ∙ ap (λ (l : List ℕ). bytes_of m (v / 256 ^ n) ++ l) (sym (bytes_of_mod n v))

-- ---- reading undoes writing, and writing undoes reading

pub be-bytes_of : (w v : ℕ) → v < 256 ^ w → be (bytes_of w v) ≡ v
unfolding bytes_of
be-bytes_of zero v h = be-nil ∙ omega arith
be-bytes_of (suc w) v h =
    be-snoc (bytes_of w (v / 256)) (v % 256) ∙ ap (λ (n : ℕ). n * 256 + v % 256) (be-bytes_of w (v / 256) (omega arith)) ∙ div-add-mod' v 256

-- a list of n + 1 bytes: the first n, then the last
last_apart : (n : ℕ) (l : List ℕ) → length l ≡ suc n → l ≡ take n l ++ (get_or l n 0 ∷ [])
last_apart n l e = sym (take_all (suc n) l (omega arith)) ∙ take-suc l n 0 (omega arith)

pub bytes_of-be : (n : ℕ) (l : List ℕ) → length l ≡ n → Bytes l → bytes_of n (be l) ≡ l
unfolding bytes_of
bytes_of-be zero [] e h = refl
bytes_of-be zero (x ∷ l) e h = absurd (suc-ne-zero (length l) e)
bytes_of-be (suc n) l e h =
    let b : ℕ = get_or l n 0 in
    let t : List ℕ = take n l in
    let v : be l ≡ be t * 256 + b = ap be (last_apart n l e) ∙ be-snoc t b in
    ap (λ (m : ℕ). bytes_of n (m / 256) ++ (m % 256 ∷ [])) v
    ∙ ap (λ (m : ℕ). bytes_of n m ++ ((be t * 256 + b) % 256 ∷ [])) (digits_div (be t) (h n))
    ∙ ap (λ (m : ℕ). bytes_of n (be t) ++ (m ∷ [])) (digits_mod (be t) (h n))
    ∙ ap (λ (m : List ℕ). m ++ (b ∷ [])) (bytes_of-be n t (length-take-le n l (omega arith)) (Bytes-take n l h))
    ∙ sym (last_apart n l e)

-- ---- below the bound of the width

pub be-below : (n : ℕ) (l : List ℕ) → length l ≤ n → Bytes l → be l < 256 ^ n
be-below zero [] e h = rw be-nil (omega arith)
be-below zero (x ∷ l) e h = absurd (not-suc-le-zero e)
be-below (suc n) l e h = go (λ m f b. be-below n m f b) (dec_le (suc n) (length l))
  where
    go : ((m : List ℕ) → length m ≤ n → Bytes m → be m < 256 ^ n) → Dec (suc n ≤ length l) → be l < 256 ^ suc n
    go ih (yes k) =
        let v : be l ≡ be (take n l) * 256 + get_or l n 0 = ap be (last_apart n l (omega arith)) ∙ be-snoc (take n l) (get_or l n 0) in
        let m : be (take n l) < 256 ^ n = ih (take n l) (rw length-take (omega arith)) (Bytes-take n l h) in
        omega (arith, h n)
    go ih (no k) = let m : be l < 256 ^ n = ih l (omega arith) h in omega arith

pub Bytes-number : (w v : ℕ) → Bytes (bytes_of w v)
unfolding bytes_of
Bytes-number zero v = Bytes-nil
Bytes-number (suc w) v =
    Bytes-append (bytes_of w (v / 256)) (v % 256 ∷ []) (Bytes-number w (v / 256)) (Bytes-cons (v % 256) [] (mod-lt v (lit< tt)) Bytes-nil)

-- ---- a number at the front of a list

pub be-front : (w v : ℕ) (r : List ℕ) → v < 256 ^ w → be (take w (bytes_of w v ++ r)) ≡ v
be-front w v r h = ap be (take_at (bytes_of w v) r w (length-bytes_of w v)) ∙ be-bytes_of w v h

pub drop-front : (w v : ℕ) (r : List ℕ) → drop w (bytes_of w v ++ r) ≡ r
drop-front w v r = drop_at (bytes_of w v) r w (length-bytes_of w v)

pub bytes_of-front : (w : ℕ) (l : List ℕ) → w ≤ length l → Bytes l → bytes_of w (be (take w l)) ≡ take w l
bytes_of-front w l k h = bytes_of-be w (take w l) (length-take-le w l k) (Bytes-take w l h)

pub Bytes-front : (w v : ℕ) (l : List ℕ) → Bytes l → Bytes (bytes_of w v ++ l)
Bytes-front w v l h = Bytes-append (bytes_of w v) l (Bytes-number w v) h
