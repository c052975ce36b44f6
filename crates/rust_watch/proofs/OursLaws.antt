-- The reader's refusals are ours, 3 to 7 (`fault-ours`).
-- Assumes nothing.
use Rattle.std.specs.Prelude.{⊤, Result}
use Prim.Native.Nat.{ℕ}
use mathlib.Core.Path.{◌≡◌, refl}
use mathlib.Core.Bool.{true}
use mathlib.Core.List.{List}
use Rattle.refusal.specs.Refusals.{number_of}
use Rattle.wire_schema.specs.declared.MessageKind.{MessageKind}
use Rattle.wire_schema.specs.FirstFault.{first_fault}
use Rattle.rust_names.proofs.FaultLaws.{IfRefused, fault-if}
use Rattle.rust_watch.specs.Demand.{ours}
use Rattle.refusal.specs.declared.Refusal.{Refusal}

abbrev pub OursIf : Result ⊤ Refusal → Type 0
OursIf = IfRefused (λ x. ours (number_of x) ≡ true)

pub fault-ours : (k : MessageKind) (l : List ℕ) → OursIf (first_fault k l)
fault-ours = fault-if (λ x. ours (number_of x) ≡ true) refl refl refl refl
