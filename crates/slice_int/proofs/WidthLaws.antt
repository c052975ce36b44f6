-- A number of m + n bytes, read or written as one of m bytes and one of n: what `read_u16` to `write_u64` each cite.
-- Assumes nothing.
use Prim.Native.Nat.{ℕ, ◌+◌, ◌*◌, ◌/◌, ◌%◌, ◌^◌, ◌≤◌, ◌<◌}
use native.Mathlib.Nat.{mod-eq_of_lt}
use native.Mathlib.Omega.{arith}
use mathlib.Core.Path.{◌≡◌, refl, sym, ap, ◌∙◌}
use mathlib.Core.List.{List, [], ◌∷◌, ◌++◌}
use lib.ListN.{length, set}
use Rattle.slice_int.specs.Be.{be_at, bytes_of}
use Rattle.slice_int.specs.Put.{put}
use Rattle.slice_int.proofs.BeLaws.{be-at-add, bytes_of-add, length-bytes_of}
use Rattle.slice_int.proofs.PutLaws.{put_one, put-after}

pub read-add : (m n : ℕ) (s : List ℕ) (at x y : ℕ) → at + m + n ≤ length s → x ≡ be_at m s at → y ≡ be_at n s (at + m)
    → x * 256 ^ n + y ≡ be_at (m + n) s at
read-add m n s at x y h ex ey = rw (ex, ey) (sym (be-at-add m n s at h))

pub write-add : (m n v at : ℕ) (o p q : List ℕ) → at + m + n ≤ length o
    → p ≡ put o at (bytes_of m (v / 256 ^ n)) → q ≡ put p (at + m) (bytes_of n (v % 256 ^ n)) → q ≡ put o at (bytes_of (m + n) v)
write-add m n v at o p q h ep eq =
    let A : List ℕ = bytes_of m (v / 256 ^ n) in
    let B : List ℕ = bytes_of n (v % 256 ^ n) in
    let la : length A ≡ m = length-bytes_of m (v / 256 ^ n) in
    let lb : length B ≡ n = length-bytes_of n (v % 256 ^ n) in
    eq
    ∙ ap (λ (l : List ℕ). put l (at + m) B) ep
    ∙ ap (λ (k : ℕ). put (put o at A) (at + k) B) (sym la)
    ∙ put-after o at A B (omega arith)
    ∙ ap (put o at) (sym (bytes_of-add m n v))

-- a byte stored is a number of one byte written
pub write-one : (o : List ℕ) (at b : ℕ) → at < length o → b < 256 → set o at b ≡ put o at (bytes_of 1 b)
unfolding bytes_of
write-one o at b h k = put_one o at b h ∙ rw (mod-eq_of_lt k)
