-- Public: the first fault of a message, as a line of a call's list of refusals (specs/Steps of the crate refusal).
-- Assumes nothing.
use Rattle.std.specs.Prelude.{⊤, Result, Ok, Err}
use Rattle.refusal.specs.declared.Refusal.{Refusal}

abbrev pub refuse_fault : {R : Type 0} → (Refusal → R) → Result ⊤ Refusal → R → R
refuse_fault refuse (Err x) rest = refuse x
refuse_fault refuse (Ok u) rest = rest
