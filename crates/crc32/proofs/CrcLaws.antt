-- Laws of `step` and `update`.
--
-- In order: a step is linear (`step-linear`), and so are eight (`steps-linear`); eight steps of a multiple of 256 (`steps_high`); a byte
-- taken in by the table (`update-table`); bytes taken in one after another (`updates-turn`, `updates-end`).
-- Assumes nothing.
use Prim.Native.Nat.{ℕ, zero, suc, ◌+◌, ◌*◌, ◌/◌, ◌%◌, ◌≤◌, ◌<◌}
use native.Mathlib.Nat.{mod-lt}
use native.Mathlib.Numerals.{add-one}
use native.Mathlib.Omega.{arith}
use mathlib.Core.Path.{◌≡◌, refl, sym, ap, ap₂, ◌∙◌}
use mathlib.Core.Bool.{cond}
use mathlib.Core.List.{List}
use lib.ListN.{length, get_or, drop, drop_of_length-le}
use lib.Seq.{drop-cons}
use lib.Dec.{eqb, lit<}
use lib.Bits.{differ}
use Rattle.key_murmur3.specs.Words.{xor}
use Rattle.key_for_hash.proofs.XorLaws.{xor-none-l}
use Rattle.crc32.specs.Crc.{polynomial, step, steps, update, updates}
use Rattle.crc32.proofs.XorLaws.{xor_assoc, xor_comm, xor-half, xor-odd, xor-high, xor-cut, xor_same}

-- ---- a step is linear

-- by the lowest bit
abbrev by : (bit rest : ℕ) → ℕ
by bit rest = cond (eqb bit 1) (xor polynomial rest) rest

by-linear : (x y m n : ℕ) → x < 2 → y < 2 → by (differ x y) (xor m n) ≡ xor (by x m) (by y n)
by-linear zero zero m n p q = refl
by-linear zero (suc zero) m n p q =
    sym (xor_assoc polynomial m n) ∙ ap (λ (k : ℕ). xor k n) (xor_comm polynomial m) ∙ xor_assoc m polynomial n
by-linear (suc zero) zero m n p q = sym (xor_assoc polynomial m n)
by-linear (suc zero) (suc zero) m n p q =
    let e : xor m n ≡ xor (xor m polynomial) (xor polynomial n) =
    sym (xor_assoc m polynomial (xor polynomial n)
    ∙ ap (xor m) (sym (xor_assoc polynomial polynomial n) ∙ ap (λ (k : ℕ). xor k n) (xor_same polynomial) ∙ xor-none-l n)) in
    e ∙ ap (λ (k : ℕ). xor k (xor polynomial n)) (xor_comm m polynomial)
by-linear zero (suc (suc y)) m n p q = absurd (omega arith)
by-linear (suc zero) (suc (suc y)) m n p q = absurd (omega arith)
by-linear (suc (suc x)) y m n p q = absurd (omega arith)

pub step-linear : (a b : ℕ) → step (xor a b) ≡ xor (step a) (step b)
unfolding step
step-linear a b =
    ap₂ by (xor-odd a b) (xor-half a b)
    ∙ by-linear (a % 2) (b % 2) (a / 2) (b / 2) (mod-lt a (lit< tt)) (mod-lt b (lit< tt))

pub steps-linear : (a b : ℕ) → steps (xor a b) ≡ xor (steps a) (steps b)
unfolding steps
steps-linear a b = simp step-linear

-- ---- a byte by the table

step-even : (h : ℕ) → step (h * 2) ≡ h
unfolding step
step-even h =
    let e : h * 2 % 2 ≡ 0 = omega arith in
    let f : h * 2 / 2 ≡ h = omega arith in
    rw (e, f)

pub steps_high : (h : ℕ) → steps (h * 256) ≡ h
unfolding steps
steps_high h =
    let e : h * 256 ≡ h * 2 * 2 * 2 * 2 * 2 * 2 * 2 * 2 = omega arith in
    rw e (simp step-even)

pub update-table : (c b : ℕ) → b < 256 → update c b ≡ xor (steps (xor c b % 256)) (c / 256)
unfolding update
update-table c b h =
    let x = xor c b in
    ap steps (xor-cut (xor c b))
    ∙ steps-linear (xor c b / 256 * 256) (xor c b % 256)
    ∙ ap (λ (n : ℕ). xor n (steps (xor c b % 256))) (steps_high (xor c b / 256) ∙ xor-high c b h)
    ∙ xor_comm (c / 256) (steps (xor c b % 256))

-- ---- a walk over bytes, at the place i

module _ (s : List ℕ) (c i : ℕ) where
  pub updates-turn : i < length s → updates c (drop i s) ≡ updates (update c (get_or s i 0)) (drop (i + 1) s)
  unfolding updates
  updates-turn h = rw (add-one, drop-cons s i 0)

  pub updates-end : length s ≤ i → updates c (drop i s) ≡ c
  unfolding updates
  updates-end h = ap (updates c) (drop_of_length-le s h)
