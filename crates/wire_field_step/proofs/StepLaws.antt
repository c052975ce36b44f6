-- Laws of one field of a message: a key that is found, by what its field holds (`head-found`), and its length (`head-size`); a field, by what
-- stands behind its key (`field-behind`).
-- Assumes nothing.
use Rattle.std.specs.Prelude.{Option, Some, None, Result, Ok, Err}
use Prim.Native.Nat.{ℕ, ◌-◌, ◌≤◌}
use mathlib.Core.Path.{◌≡◌, refl, ap, subst, ◌∙◌}
use mathlib.Core.Bool.{Bool, true, false, cond}
use mathlib.Core.List.{List}
use lib.ListN.{length, take, drop}
use Rattle.slice.proofs.PartLaws.{rest}
use Rattle.refusal.specs.declared.Refusal.TheVariants.{WrongWireType}
use Rattle.wire.specs.declared.WireType.{WireType}
use Rattle.wire.specs.Field.{key_read, body_of}
use Rattle.wire.proofs.FieldLaws.{key-size}
use Rattle.wire_schema.specs.declared.MessageKind.{MessageKind}
use Rattle.wire_schema.specs.declared.ValueKind.{ValueKind}
use Rattle.wire_schema.specs.Schema.{value_for, fits_wire}
use Rattle.wire_field_step.specs.declared.Step.{Step}
use Rattle.wire_field_step.specs.declared.FieldStep.{FieldStep}
use Rattle.wire_field_step.specs.Steps.{field_head, value_step, field_of}
use Rattle.refusal.specs.declared.Refusal.{Refusal}

pub head-found : (k : MessageKind) (l : List ℕ) (f : ℕ) (w : WireType) (n : ℕ) (v : ValueKind) → key_read l ≡ Some (f, w, n)
    → v ≡ value_for k f → (b : Bool) → fits_wire v w ≡ b → field_head k (key_read l) ≡ cond b (Ok (n, w, v)) (Err WrongWireType)
head-found k l f w n v e g b h = rw (e, ← g, h)

-- a field's key lies in the part
abbrev Fits : List ℕ → Result (ℕ × WireType × ValueKind) Refusal → Type 0
Fits l (Err x) = Unit {0}
Fits l (Ok (n, w, v)) = n ≤ length l

pub head-size : (k : MessageKind) (l : List ℕ) (n : ℕ) (w : WireType) (v : ValueKind) → field_head k (key_read l) ≡ Ok (n, w, v) → n ≤ length l
head-size k l n w v e = subst (Fits l) e (go (key_read l) refl)
  where
    by : (f : ℕ) (u : WireType) (m : ℕ) → key_read l ≡ Some (f, u, m) → (t : Bool)
        → Fits l (cond t (Ok (m, u, value_for k f)) (Err WrongWireType))
    by f u m q true = (key-size l f u m q).1
    by f u m q false = tt

    go : (q : Option (ℕ × WireType × ℕ)) → key_read l ≡ q → Fits l (field_head k q)
    go (Some (f, u, m)) d = by f u m d (fits_wire (value_for k f) u)
    go None d = tt

pub field-behind : (l : List ℕ) (q : Result (ℕ × WireType × ValueKind) Refusal) (n : ℕ) (w : WireType) (v : ValueKind) → q ≡ Ok (n, w, v) → (x : Result Step Refusal)
    → x ≡ value_step v (body_of w (take (length l - n) (drop n l))) (take (length l - n) (drop n l))
    → record { size = n; step = x } ≡ field_of q l
field-behind l q n w v e x h =
    let made : Result Step Refusal → FieldStep = λ y. record { size = n; step = y } in
    rw e (ap made (h ∙ ap (λ (p : List ℕ). value_step v (body_of w p) p) (rest l n)))
