-- Laws of `varint_bytes_within`: the bytes of a number, of which at most k are allowed.
--
-- In order: the two cases of a number, below 128 or not (`bytes-ends`, `bytes-more`, and both at once, `bytes-cases`); the bound under
-- which the reader takes k + 1 bytes, v < 2 ^ (7 * k + 1), at the next byte (`room_next`); how many bytes there are (`length-bytes-pos`,
-- `length-bytes-le`).
-- Assumes nothing.
use Prim.Native.Nat.{ℕ, zero, suc, ◌+◌, ◌*◌, ◌/◌, ◌%◌, ◌^◌, ◌≤◌, ◌<◌}
use native.Mathlib.Omega.{arith}
use mathlib.Core.Path.{◌≡◌, refl, subst}
use mathlib.Core.Bool.{Bool, true, false, cond}
use mathlib.Core.List.{List, [], ◌∷◌}
use lib.ListN.{length}
use lib.Pow.{shr_lt}
use lib.Dec.{ltb}
use borrow.Author.Tests.{lt-ltb, le-ltb, ltb-true, ltb-false}
use Rattle.wire_writer.specs.Encode.{varint_bytes_within}

-- ---- the cases of the definition

-- the last byte
pub bytes-ends : (k v : ℕ) → v < 128 → varint_bytes_within (suc k) v ≡ v ∷ []
bytes-ends k v h = rw (lt-ltb v 128 h)

-- another byte follows
pub bytes-more : (k v : ℕ) → 128 ≤ v → varint_bytes_within (suc k) v ≡ (v % 128 + 128) ∷ varint_bytes_within k (v / 128)
bytes-more k v h = rw (le-ltb v 128 h)

cond_below : (P : List ℕ → Type 0) (v : ℕ) (t : Bool) (a b : List ℕ) → ltb v 128 ≡ t → (v < 128 → P a) → (128 ≤ v → P b) → P (cond t a b)
cond_below P v true a b e p q = p (ltb-true v 128 e)
cond_below P v false a b e p q = q (ltb-false v 128 e)

-- what holds in both cases holds of the bytes
pub bytes-cases : (P : List ℕ → Type 0) (k v : ℕ) → (v < 128 → P (v ∷ []))
    → (128 ≤ v → P ((v % 128 + 128) ∷ varint_bytes_within k (v / 128))) → P (varint_bytes_within (suc k) v)
bytes-cases P k v p q = cond_below P v (ltb v 128) (v ∷ []) ((v % 128 + 128) ∷ varint_bytes_within k (v / 128)) refl p q

-- ---- the bound of k + 1 bytes, of which the last holds one bit

pub room_next : (k v : ℕ) → v < 2 ^ (7 * suc k + 1) → v / 128 < 2 ^ (7 * k + 1)
room_next k v h = let e : 7 * suc k + 1 ≡ 7 * k + 1 + 7 = omega arith in shr_lt {n = v} (7 * k + 1) 7 (subst (λ (n : ℕ). v < 2 ^ n) e h)

-- ---- how many bytes

pub length-bytes-pos : (k v : ℕ) → 1 ≤ length (varint_bytes_within (suc k) v)
length-bytes-pos k v = bytes-cases (λ l. 1 ≤ length l) k v (λ h. omega arith) (λ h. omega arith)

pub length-bytes-le : (k v : ℕ) → length (varint_bytes_within k v) ≤ k
length-bytes-le zero v = omega arith
length-bytes-le (suc k) v =
    let p = length-bytes-le k (v / 128) in
    bytes-cases (λ l. length l ≤ suc k) k v (λ h. omega arith) (λ h. omega arith)
