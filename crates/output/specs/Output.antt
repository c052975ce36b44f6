-- Public: what a call with an output gives: "An output is written from its first byte, its length is answered, and the
-- bytes behind it stay."
-- Assumes nothing.
use Rattle.std.specs.Prelude.{ℕ, cond, List, length, leb, Result, Ok, Err}
use Rattle.refusal.specs.declared.Refusal.{Refusal}
use Rattle.refusal.specs.declared.Refusal.TheVariants.{ResultTooLong}
use Rattle.slice_int.specs.Put.{put}

-- the answer, and the output's bytes behind the call
pub record Outcome : Type 0 where
  pub answer : Result ℕ Refusal
  pub out : List ℕ

abbrev pub outcome : Result ℕ Refusal → List ℕ → Outcome
outcome answer out = record { answer = answer; out = out }

-- a refusal leaves the output as it was
abbrev pub refuse : Refusal → List ℕ → Outcome
refuse x out = outcome (Err x) out

-- what a refusal leaves of an output, as the step words of the crate refusal take it
abbrev pub unwritten : (out : List ℕ) → Refusal → Outcome
unwritten out x = refuse x out

-- the bytes at the front of the output, and how many they are; 21 where they do not fit
unfoldable pub written : (bytes out : List ℕ) → Outcome
written bytes out = cond (leb (length bytes) (length out)) (outcome (Ok (length bytes)) (put out 0 bytes)) (refuse ResultTooLong out)
