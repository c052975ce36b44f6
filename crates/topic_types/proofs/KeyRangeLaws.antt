-- Laws of `new_key_range`: what a range that it gives is (`new-valid`), and that such ends give the range (`valid-new`).
-- Assumes nothing.
use Rattle.std.specs.Prelude.{Ok, Err}
use Prim.Native.Nat.{ℕ, ◌≤◌}
use native.Mathlib.Omega.{arith}
use mathlib.Core.Path.{◌≡◌, refl, sym, ◌∙◌}
use mathlib.Core.Bool.{Bool, true, false, cond}
use lib.Dec.{ltb}
use borrow.Author.Tests.{le-ltb, ltb-false}
use Rattle.topic_types.specs.declared.KeyRange.{KeyRange}
use Rattle.topic_types.specs.declared.KeyRangeError.{KeyRangeError}
use Rattle.topic_types.specs.declared.KeyRangeError.TheVariants.{StartOutOfBounds, EndOutOfBounds, Reversed}
use Rattle.topic_types.specs.KeyRanges.{max_hash, key_range, new_key_range}

-- the ends s and e make the range r, which lies in the key space and is not reversed
pub record Makes (s e : ℕ) (r : KeyRange) : Type 0 where
  pub made : r ≡ key_range s e
  pub order : r.start ≤ r.end
  pub bound : r.end ≤ max_hash

clash : {A : Type 0} {x : KeyRangeError} {r : KeyRange} → Err x ≡ Ok r → A
clash q = let z : ◌≡◌ {A = ℕ} 0 1 = cc in absurd (omega arith)

pub new-valid : (s e : ℕ) (r : KeyRange) → new_key_range s e ≡ Ok r → Makes s e r
unfolding new_key_range
new-valid s e r = first (ltb max_hash s)
  where
    third : (t : Bool) → ltb e s ≡ t → ltb max_hash e ≡ false → cond t (Err (Reversed s e)) (Ok (key_range s e)) ≡ Ok r → Makes s e r
    third true p k q = clash q
    third false p k q = let m : r ≡ key_range s e = cc in record { made = m; order = rw m (ltb-false e s p); bound = rw m (ltb-false max_hash e k) }

    second : (t : Bool) → ltb max_hash e ≡ t
        → cond t (Err (EndOutOfBounds e)) (cond (ltb e s) (Err (Reversed s e)) (Ok (key_range s e))) ≡ Ok r → Makes s e r
    second true k q = clash q
    second false k q = third (ltb e s) refl k q

    first : (t : Bool)
        → cond t (Err (StartOutOfBounds s))
        (cond (ltb max_hash e) (Err (EndOutOfBounds e)) (cond (ltb e s) (Err (Reversed s e)) (Ok (key_range s e)))) ≡ Ok r
        → Makes s e r
    first true q = clash q
    first false q = second (ltb max_hash e) refl q

pub valid-new : (s e : ℕ) → s ≤ e → e ≤ max_hash → new_key_range s e ≡ Ok (key_range s e)
unfolding new_key_range
valid-new s e h k = rw (le-ltb max_hash s (omega arith), le-ltb max_hash e k, le-ltb e s h)
