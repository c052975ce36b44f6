-- Laws of parts of a slice, as lists: what every reader needs of `&s[at..]`, `&s[..n]` and `&s[a..e]`.
--
-- In order: a part up to the slice's end (`rest`); a part of a part (`drop-take`); parts of bytes (specs/Bytes) are bytes, and so are lists that are
-- made of them (`Bytes-nil` to `Bytes-set`).
-- Not here: `take-take`, `drop-drop`, `length-take-le`, `get_or-drop` (`lib.Seq`).
-- Assumes nothing.
use Prim.Native.Nat.{ℕ, zero, suc, ◌+◌, ◌-◌, ◌<◌}
use native.Mathlib.Omega.{arith}
use mathlib.Core.Path.{◌≡◌}
use mathlib.Core.List.{List, [], ◌∷◌, ◌++◌}
use lib.ListN.{length, take, drop, set, length-drop}
use lib.Seq.{take_all, take-nil, get_or-drop}
use lib.Dec.{lit<}
pub use Rattle.slice.specs.Bytes.{Bytes}

-- `&s[at..]` is what is left behind the first at elements
pub rest {ℓ} : {A : Type ℓ} (s : List A) (at : ℕ) → take (length s - at) (drop at s) ≡ drop at s
rest s at = take_all (length s - at) (drop at s) (omega (arith, length-drop at s))

-- a part that starts inside a front
pub drop-take {ℓ} : {A : Type ℓ} (m n : ℕ) (l : List A) → drop m (take (m + n) l) ≡ take n (drop m l)
drop-take zero n l = let e : zero + n ≡ n = omega arith in rw e
drop-take (suc m) n [] = rw (take-nil (suc m + n), take-nil n)
drop-take (suc m) n (x ∷ l) = let e : suc m + n ≡ suc (m + n) = omega arith in rw e (drop-take m n l)

pub Bytes-take : (n : ℕ) (l : List ℕ) → Bytes l → Bytes (take n l)
Bytes-take zero l h i = omega arith
Bytes-take (suc n) [] h i = h i
Bytes-take (suc n) (x ∷ l) h zero = h zero
Bytes-take (suc n) (x ∷ l) h (suc i) = Bytes-take n l (λ k. h (suc k)) i

pub Bytes-drop : (n : ℕ) (l : List ℕ) → Bytes l → Bytes (drop n l)
Bytes-drop n l h i = rw get_or-drop (h (n + i))

pub Bytes-nil : Bytes []
Bytes-nil i = lit< tt

pub Bytes-cons : (b : ℕ) (l : List ℕ) → b < 256 → Bytes l → Bytes (b ∷ l)
Bytes-cons b l h k zero = h
Bytes-cons b l h k (suc i) = k i

pub Bytes-append : (a b : List ℕ) → Bytes a → Bytes b → Bytes (a ++ b)
Bytes-append [] b h k = k
Bytes-append (x ∷ a) b h k = Bytes-cons x (a ++ b) (h 0) (Bytes-append a b (λ i. h (suc i)) k)

pub Bytes-set : (l : List ℕ) (i v : ℕ) → v < 256 → Bytes l → Bytes (set l i v)
Bytes-set [] i v h k = k
Bytes-set (b ∷ l) zero v h k = Bytes-cons v l h (λ i. k (suc i))
Bytes-set (b ∷ l) (suc i) v h k = Bytes-cons b (set l i v) (k 0) (Bytes-set l i v h (λ j. k (suc j)))
