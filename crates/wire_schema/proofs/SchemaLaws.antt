-- Laws of the messages' fields: what a field holds, by its number (`value-known`, `value-unknown`).
-- Assumes nothing.
use Prim.Native.Nat.{ℕ}
use mathlib.Core.Path.{◌≡◌, refl, sym, ◌∙◌}
use mathlib.Core.List.{List, [], ◌∷◌}
use borrow.Author.Tests.{ne_eqb}
use Rattle.wire_schema.specs.declared.MessageKind.{MessageKind}
use Rattle.wire_schema.specs.declared.ValueKind.{ValueKind}
use Rattle.wire_schema.specs.declared.ValueKind.TheVariants as value
use Rattle.wire_schema.specs.Schema.{SchemaField, schema, field_number, value_in, value_for}

-- f is the number of no field; T is known besides
abbrev pub Others : Type 0 → ℕ → List SchemaField → Type 0
Others T f [] = T
Others T f (r ∷ rs) = Others (T × (f ≡ field_number r → ⊥)) f rs

others-unknown : (T : Type 0) (f : ℕ) (rs : List SchemaField) → Others T f rs → T × (value_in f rs ≡ value.Any)
others-unknown T f [] h = (h, refl)
others-unknown T f (r ∷ rs) h =
    let p = others-unknown (T × (f ≡ field_number r → ⊥)) f rs h in
    (p.0.0, rw (ne_eqb f (field_number r) p.0.1) p.1)

module _ {kind k : MessageKind} {r : ValueKind} where
  pub value-known : {f n : ℕ} → kind ≡ k → f ≡ n → r ≡ value_in n (schema k) → r ≡ value_for kind f
  unfolding value_for
  value-known d e g = rw (d, e) g

  pub value-unknown : (f : ℕ) → kind ≡ k → Others (Unit {0}) f (schema k) → r ≡ value.Any → r ≡ value_for kind f
  unfolding value_for
  value-unknown f d h g = rw d (g ∙ sym (others-unknown (Unit {0}) f (schema k) h).1)
