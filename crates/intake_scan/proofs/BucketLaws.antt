-- Laws of one bucket range: what the tests of `is_bucket` say of it (`negative-fails`, `high-fails`, `order-decides`), the bounds of a
-- valid one (`bucket-fits`), and its ends as they are held (`magnitude-negative`, `magnitude-is`, `magnitude-fits`).
-- Assumes nothing.
use Rattle.std.specs.Prelude.{Ok, Err}
use Prim.Native.Nat.{ℕ, ◌≤◌, ◌<◌}
use native.Mathlib.Decide.{dec_le}
use native.Mathlib.Omega.{arith}
use mathlib.Core.Path.{◌≡◌, refl, sym, ◌∙◌}
use mathlib.Core.Bool.{Bool, true, false, cond, not, ◌&&◌, and-false, true≢false, false≢true}
use lib.IntN.{ℤ, pos, negsuc, nat_abs}
use lib.Signed.{lt_z, le_z, non_neg}
use lib.Dec.{T, ltb}
use mir.Syntax.{w32}
use mir.Val.{SFits, Fits}
use borrow.Author.Tests.{ltb-true, ltb-false, not-true, lt-ltb, le-ltb, le-leb, lt-leb}
use Rattle.slice.specs.BoolLaws.{both_true}
use Rattle.topic_types.specs.declared.KeyRange.{KeyRange}
use Rattle.topic_types.specs.declared.KeyRangeError.{KeyRangeError}
use Rattle.topic_types.specs.KeyRanges.{max_hash, new_key_range}
use Rattle.intake_content.specs.Content.{is_valid, is_bucket, magnitude}

-- ---- the tests of a range of numbers

tests : (x y z : Bool) (a b d : KeyRangeError) (r : KeyRange)
    → is_valid (cond x (Err a) (cond y (Err b) (cond z (Err d) (Ok r)))) ≡ not x && (not y && not z)
tests true y z a b d r = refl
tests false true z a b d r = refl
tests false false true a b d r = refl
tests false false false a b d r = refl

valid-tests : (s e : ℕ) → is_valid (new_key_range s e) ≡ not (ltb max_hash s) && (not (ltb max_hash e) && not (ltb e s))
unfolding new_key_range
valid-tests s e = tests (ltb max_hash s) (ltb max_hash e) (ltb e s) _ _ _ _

-- ---- the tests of a bucket

pub negative-fails : (a e : ℤ) → lt_z a (pos 0) ≡ true → false ≡ is_bucket a e
negative-fails (pos s) e h = absurd (let z : s < 0 = ltb-true s 0 h in let b : ⊥ = omega arith in b)
negative-fails (negsuc s) e h = refl

pub high-fails : (a e : ℤ) → lt_z (pos max_hash) e ≡ true → false ≡ is_bucket a e
high-fails (pos s) (pos e) h = sym (valid-tests s e ∙ rw h (and-false (not (ltb max_hash s))))
high-fails (pos s) (negsuc e) h = refl
high-fails (negsuc s) e h = refl

in_order : (s e : ℕ) → ltb max_hash e ≡ false → Dec (s ≤ e) → le_z (pos s) (pos e) ≡ is_bucket (pos s) (pos e)
in_order s e h (yes k) =
    rw (le-leb s e k, valid-tests s e, le-ltb max_hash s (omega (arith, ltb-false max_hash e h)), h, le-ltb e s k)
in_order s e h (no k) =
    rw (lt-leb s e (omega arith), valid-tests s e, h, lt-ltb e s (omega arith)) (sym (and-false (not (ltb max_hash s))))

pub order-decides : (a e : ℤ) → lt_z a (pos 0) ≡ false → lt_z (pos max_hash) e ≡ false → le_z a e ≡ is_bucket a e
order-decides (pos s) (pos e) g h = in_order s e h (dec_le s e)
order-decides (pos s) (negsuc e) g h = refl
order-decides (negsuc s) e g h = absurd (true≢false g)

-- ---- a valid bucket

pub bucket-fits : (a e : ℤ) → is_bucket a e ≡ true → (magnitude a ≤ magnitude e) × (magnitude e < 65536)
bucket-fits (pos s) (pos e) h =
    let p = both_true (not (ltb max_hash s)) (not (ltb max_hash e) && not (ltb e s)) (sym (valid-tests s e) ∙ h) in
    let q = both_true (not (ltb max_hash e)) (not (ltb e s)) p.1 in
    (ltb-false e s (not-true (ltb e s) q.1), omega (arith, ltb-false max_hash e (not-true (ltb max_hash e) q.0)))
bucket-fits (pos s) (negsuc e) h = absurd (false≢true h)
bucket-fits (negsuc s) e h = absurd (false≢true h)

-- ---- an end of a range as it is held

pub magnitude-negative : (z : ℤ) → lt_z z (pos 0) ≡ true → ◌≡◌ {A = ℕ} 0 (magnitude z)
magnitude-negative (pos n) h = absurd (let z : n < 0 = ltb-true n 0 h in let b : ⊥ = omega arith in b)
magnitude-negative (negsuc n) h = refl

pub magnitude-is : (z : ℤ) → lt_z z (pos 0) ≡ false → nat_abs z ≡ magnitude z
magnitude-is (pos n) h = refl
magnitude-is (negsuc n) h = absurd (true≢false h)

-- it fits an unsigned number of as many bits
pub magnitude-fits : (z : ℤ) → lt_z z (pos 0) ≡ false → SFits w32 z → T (non_neg z) × Fits w32 (nat_abs z)
magnitude-fits (pos n) h f = (tt, record { fits = omega (arith, f.sfits) })
magnitude-fits (negsuc n) h f = absurd (true≢false h)
