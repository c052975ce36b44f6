-- Public: a call is the list of its refusals, in their order: each line is a test with the refusal that is due where it holds, or hands on what it read.
--
-- The first argument of a word is what a refusal leaves: the answer alone, or with it what stays as it was.
-- Assumes nothing.
use Rattle.std.specs.Prelude.{Bool, cond, Option, Some, None, Result, Ok, Err}
use Rattle.topic_types.specs.declared.KeyRange.{KeyRange}
use Rattle.refusal.specs.declared.Refusal.{Refusal}
use Rattle.refusal.specs.declared.Refusal.TheVariants.{InvalidKeyRange}
use Rattle.topic_types.specs.declared.KeyRangeError.{KeyRangeError}

infixl 10 ◌>>◌ ◌>>=◌
abbrev pub ◌>>◌ : {R : Type 0} → (R → R) → R → R
◌>>◌ test rest = test rest

abbrev pub ◌>>=◌ : {A R : Type 0} → ((A → R) → R) → (A → R) → R
◌>>=◌ reading rest = reading rest

abbrev pub refuse_if : {R : Type 0} → (Refusal → R) → Bool → Refusal → R → R
refuse_if refuse test x rest = cond test (refuse x) rest

abbrev pub refuse_unless : {R : Type 0} → (Refusal → R) → Bool → Refusal → R → R
refuse_unless refuse test x rest = cond test rest (refuse x)

-- the refusal that is due, if there is one
abbrev pub refuse_due : {R : Type 0} → (Refusal → R) → Option Refusal → R → R
refuse_due refuse (Some x) rest = refuse x
refuse_due refuse None rest = rest

-- 9: the range that two ends give
abbrev pub take_range : {R : Type 0} → (Refusal → R) → Result KeyRange KeyRangeError → (KeyRange → R) → R
take_range refuse (Err e) rest = refuse (InvalidKeyRange e)
take_range refuse (Ok range) rest = rest range
