-- A call on two ranges, by the answer of `both`.
-- Assumes nothing.
use Rattle.std.specs.Prelude.{Result, Ok, Err}
use mathlib.Core.Path.{◌≡◌, refl}
use mathlib.Core.Bool.{Bool}
use Rattle.topic_types.specs.declared.KeyRange.{KeyRange}
use Rattle.refusal.specs.declared.Refusal.TheVariants.{InvalidKeyRange}
use Rattle.refusal.specs.Steps.{take_range}
use Rattle.ranges_calls.specs.Calls.{pair_by}
use Rattle.topic_types.specs.declared.KeyRangeError.{KeyRangeError}
use Rattle.refusal.specs.declared.Refusal.{Refusal}

module _ (f : KeyRange → KeyRange → Bool) where
  abbrev pub test_both : Result (KeyRange × KeyRange) KeyRangeError → Result Bool Refusal
  test_both (Err e) = Err (InvalidKeyRange e)
  test_both (Ok (a, b)) = Ok (f a b)

  pub by-pair : (x y : Result KeyRange KeyRangeError)
      → take_range Err x (λ a. take_range Err y (λ b. Ok (f a b))) ≡ test_both (pair_by x y)
  unfolding pair_by
  by-pair (Err e) y = refl
  by-pair (Ok a) (Err e) = refl
  by-pair (Ok a) (Ok b) = refl
