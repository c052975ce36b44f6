-- Laws of a command's shell: its first fault, field after field.
--
-- In order: what a field holds, by its number (`shell-known`, `shell-unknown`), never a text (`part-unread`); the field at the front, by its key
-- (`step-misfit`, `step_fits`, `body-room`); what a step says of the fields from a place on (`StepAt`, `step-at`); the end (`shell-end`).
-- Assumes nothing.
use Rattle.std.specs.Prelude.{Option, Some, None, Result, Ok, Err}
use Prim.Native.Nat.{ℕ, ◌+◌, ◌-◌, ◌≤◌, ◌<◌}
use native.Mathlib.Omega.{arith}
use mathlib.Core.Path.{◌≡◌, refl, sym, ap, subst, ◌∙◌}
use mathlib.Core.Bool.{Bool, true, false, cond}
use mathlib.Core.List.{List}
use lib.ListN.{length, take, drop, length-drop}
use lib.Seq.{drop-drop}
use lib.Dec.{eqb}
use borrow.Author.Tests.{ne_eqb}
use Rattle.slice.proofs.PartLaws.{rest}
use Rattle.refusal.specs.declared.Refusal.TheVariants.{WrongWireType}
use Rattle.wire.specs.declared.WireType.{WireType}
use Rattle.wire.specs.declared.Body.{Body}
use Rattle.wire.specs.declared.Body.TheVariants as body
use Rattle.wire.specs.Field.{key_read, body_of}
use Rattle.wire.specs.Fields.{bytes, fields_of}
use Rattle.wire.proofs.FieldLaws.{BodySized, key-size, body-size-after}
use Rattle.wire.proofs.FieldsLaws.{fields-nil, fields-step, fields-bad-key, fields-cut, fields-number, fields-fixed, fields-part}
use Rattle.wire_schema.specs.declared.MessageKind.TheVariants.{CommandScalableTopicAssignmentUpdate, CommandScalableTopicSubscribeResponse}
use Rattle.wire_schema.specs.declared.MessageKind.TheVariants.{CommandWatchScalableTopicsUpdate}
use Rattle.wire_schema.specs.declared.ValueKind.{ValueKind}
use Rattle.wire_schema.specs.declared.ValueKind.TheVariants as value
use Rattle.wire_schema.specs.Schema.{value_in, fits_wire}
use Rattle.wire_schema.specs.FirstFault.{check_value}
use Rattle.wire_schema.proofs.SchemaLaws.{Others}
use Rattle.wire_command.specs.Shell.{base_command, shell_value, unread, shell_fields}
use Rattle.wire_command.specs.Steps.{step_after, step_by}
use Rattle.refusal.specs.declared.Refusal.{Refusal}

-- ---- what a field holds

pub shell-known : {r : ValueKind} {f n : ℕ} → f ≡ n → r ≡ value_in n base_command → r ≡ shell_value f
unfolding shell_value
shell-known e g = rw e g

pub shell-unknown : (f : ℕ) → Others (Unit {0}) f base_command → value.Any ≡ shell_value f
unfolding shell_value
shell-unknown f h = rw (ne_eqb f 1 h.0.0.0.1, ne_eqb f 74 h.0.0.1, ne_eqb f 75 h.0.1, ne_eqb f 77 h.1)

-- a part is taken as it is
pub part-unread : (f : ℕ) (l : List ℕ) → check_value unread (shell_value f) (bytes l) ≡ Ok record {}
unfolding shell_value
part-unread f l = go (eqb f 1) (eqb f 74) (eqb f 75) (eqb f 77)
  where
    go : (a b c d : Bool)
        → check_value unread
        (cond a value.Number
        (cond b (value.Message CommandScalableTopicSubscribeResponse)
        (cond c (value.Message CommandScalableTopicAssignmentUpdate)
        (cond d (value.Message CommandWatchScalableTopicsUpdate) value.Any)))) (bytes l)
        ≡ Ok record {}
    go true b c d = refl
    go false true c d = refl
    go false false true d = refl
    go false false false true = refl
    go false false false false = refl

-- ---- the field at the front

module _ (l : List ℕ) (f : ℕ) (w : WireType) (n : ℕ) (e : key_read l ≡ Some (f, w, n)) where
  pub step-misfit : (v : ValueKind) → v ≡ shell_value f → fits_wire v w ≡ false → Err WrongWireType ≡ step_by (key_read l) l
  step-misfit v g h = rw (e, ← g, h)

  -- the body stands behind the key, as `&s[n..]`
  pub step_fits : (v : ValueKind) → v ≡ shell_value f → fits_wire v w ≡ true
      → (b : Option Body) → body_of w (take (length l - n) (drop n l)) ≡ b → step_after n b ≡ step_by (key_read l) l
  step_fits v g h b q = let d : body_of w (drop n l) ≡ b = ap (body_of w) (sym (rest l n)) ∙ q in rw (e, ← g, h, d)

  -- it stands inside the part
  pub body-room : (b : Option Body) → body_of w (take (length l - n) (drop n l)) ≡ b → BodySized (length l - n) b
  body-room b q = body-size-after w l n b (ap (body_of w) (sym (rest l n)) ∙ q)

-- ---- the fields from a place on

abbrev pub StepAt : List ℕ → ℕ → Result ℕ Refusal → Type 0
StepAt s at (Err x) = Err x ≡ shell_fields (fields_of (drop at s))
StepAt s at (Ok m) =
    (1 ≤ m) × (at + m ≤ length s) × (shell_fields (fields_of (drop at s)) ≡ shell_fields (fields_of (drop (at + m) s)))

module _ (s : List ℕ) (at : ℕ) (h : at < length s) where
  filled : 0 < length (drop at s)
  filled = omega (arith, length-drop at s)

  module _ (f : ℕ) (w : WireType) (n : ℕ) (e : key_read (drop at s) ≡ Some (f, w, n)) where
    misfits : fits_wire (shell_value f) w ≡ false → Err WrongWireType ≡ shell_fields (fields_of (drop at s))
    misfits g = sym (ap shell_fields (fields-step (drop at s) filled) ∙ rw (e, g))

    module _ (g : fits_wire (shell_value f) w ≡ true) where
      -- a whole field, behind which the others decide
      goes_on : (m : ℕ) → m ≤ length (drop at s) - n → shell_fields (fields_of (drop at s)) ≡ shell_fields (fields_of (drop (n + m) (drop at s)))
          → StepAt s at (Ok (n + m))
      goes_on m z q =
          let k = key-size (drop at s) f w n e in
          (omega (arith, k.0), omega (arith, k.1, length-drop at s), q ∙ rw (drop-drop (n + m) at s))

      by-body : (b : Option Body) → body_of w (drop n (drop at s)) ≡ b → StepAt s at (step_after n b)
      by-body (Some (body.Number v m)) q =
          goes_on m (body-size-after w (drop at s) n (Some (body.Number v m)) q)
          (ap shell_fields (fields-number (drop at s) filled f w n e v m q) ∙ rw g)
      by-body (Some (body.Fixed m)) q =
          goes_on m (body-size-after w (drop at s) n (Some (body.Fixed m)) q)
          (ap shell_fields (fields-fixed (drop at s) filled f w n e m q) ∙ rw g)
      by-body (Some (body.Part m len)) q =
          goes_on (m + len) (body-size-after w (drop at s) n (Some (body.Part m len)) q)
          (ap shell_fields (fields-part (drop at s) filled f w n e m len q) ∙ rw (g, part-unread f (take len (drop m (drop n (drop at s))))))
      by-body None q = sym (ap shell_fields (fields-cut (drop at s) filled f w n e q) ∙ rw g)

    by-fit : (t : Bool) → fits_wire (shell_value f) w ≡ t
        → StepAt s at (cond t (step_after n (body_of w (drop n (drop at s)))) (Err WrongWireType))
    by-fit true g = by-body g (body_of w (drop n (drop at s))) refl
    by-fit false g = misfits g

  by_key : (q : Option (ℕ × WireType × ℕ)) → key_read (drop at s) ≡ q → StepAt s at (step_by q (drop at s))
  by_key (Some (f, w, n)) e = by-fit f w n e (fits_wire (shell_value f) w) refl
  by_key None e = sym (ap shell_fields (fields-bad-key (drop at s) filled e))

  -- the step of `&s[at..]`
  pub step-at : (q : Result ℕ Refusal) → step_by (key_read (take (length s - at) (drop at s))) (take (length s - at) (drop at s)) ≡ q → StepAt s at q
  step-at q e = subst (StepAt s at) (ap (λ (l : List ℕ). step_by (key_read l) l) (sym (rest s at)) ∙ e) (by_key (key_read (drop at s)) refl)

pub shell-end : (s : List ℕ) (at : ℕ) → length s ≤ at → (Ok record {}) ≡ shell_fields (fields_of (drop at s))
shell-end s at h = sym (ap shell_fields (fields-nil (drop at s) (omega (arith, length-drop at s))))
