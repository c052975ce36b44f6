-- Laws of the scan of a message: where the loop stands, and what each answer of `read_field` says there.
--
-- In order: 3, 4 and 7 come before 6 (`first-refused`, `first-complete`); where the loop stands (`Scanned`), at its start (`scanned-start`); the end (`end-at`); what an answer says (`StepAt`, `FieldAt`); a
-- field's key (`Headed`, `head-says`), what stands behind the key (`step-says`); the whole field (`field_at`).
-- Not here: the same of a part alone, without places (FaultLaws of the crate schema).
-- Assumes nothing.
use Rattle.std.specs.Prelude.{⊤, Option, Some, None, Result, Ok, Err}
use Prim.Native.Nat.{ℕ, zero, suc, ◌+◌, ◌-◌, ◌≤◌, ◌<◌}
use native.Mathlib.Nat.{add-sub_cancel_left}
use native.Mathlib.Omega.{arith}
use mathlib.Core.Path.{◌≡◌, refl, sym, ap, subst, ◌∙◌}
use mathlib.Core.Bool.{Bool, true, false, cond}
use mathlib.Core.List.{List}
use lib.ListN.{length, take, drop, length-drop}
use lib.Seq.{drop-drop}
use Rattle.slice.proofs.PartLaws.{rest}
use Rattle.utf8.specs.Table.{is_utf8}
use Rattle.refusal.specs.declared.Refusal.{Refusal}
use Rattle.refusal.specs.declared.Refusal.TheVariants.{WrongWireType, MissingField, InvalidUtf8}
use Rattle.wire.specs.declared.WireType.{WireType}
use Rattle.wire.specs.declared.Body.{Body}
use Rattle.wire.specs.declared.Body.TheVariants as body
use Rattle.wire.specs.Field.{key_read, body_of}
use Rattle.wire.specs.Fields.{bytes, fields_of}
use Rattle.wire.proofs.FieldLaws.{key-size, body-size-after}
use Rattle.wire_schema.specs.declared.MessageKind.{MessageKind}
use Rattle.wire_schema.specs.declared.ValueKind.{ValueKind}
use Rattle.wire_schema.specs.declared.ValueKind.TheVariants as value
use Rattle.wire_schema.specs.Schema.{value_for, fits_wire, levels}
use Rattle.wire_schema.specs.Required.{is_complete}
use Rattle.wire_schema.specs.FirstFault.{first, check_value, fault_within, first_fault}
use Rattle.wire_schema.proofs.FaultLaws.{fault_of, fault-end, fault-bad-key, fault-type, fault-cut, fault-number, fault-fixed, fault-part}
use Rattle.wire_field_step.specs.declared.Step.{Step}
use Rattle.wire_field_step.specs.declared.Step.TheVariants as step
use Rattle.wire_field_step.specs.declared.FieldStep.{FieldStep}
use Rattle.wire_field_step.specs.Steps.{field_head, part_step, value_step, field_of}

-- ---- the two looks at a message

module _ (k : MessageKind) (l : List ℕ) (d : ℕ) (e : d ≡ levels k) where
  pub first-refused : (x : Refusal) → fault_within d k l ≡ Err x → Err x ≡ first_fault k l
  unfolding first_fault
  first-refused x g = rw (← e, g)

  pub first-complete : fault_within d k l ≡ Ok record {} → (b : Bool) → is_complete k (fields_of l) ≡ b
      → cond b (Ok record {}) (Err MissingField) ≡ first_fault k l
  unfolding first_fault
  first-complete g b h = rw (← e, g, h)

-- ---- where the loop stands

-- the fields from a place on decide
pub record Scanned (depth : ℕ) (k : MessageKind) (s : List ℕ) (at : ℕ) : Type 0 where
  pub within : at ≤ length s
  pub stands : fault_within depth k s ≡ fault_of (fault_within (depth - 1)) k (drop at s)

pub scanned-start : (depth : ℕ) (k : MessageKind) (s : List ℕ) → (depth ≡ 0 → ⊥) → Scanned depth k s 0
scanned-start zero k s h = absurd (h refl)
scanned-start (suc d) k s h = let e : suc d - 1 ≡ d = omega arith in record { within = omega arith; stands = rw e }

-- a key at a place of s, whose field has a type that fits: its field's number, and what the reader answers
record Headed (k : MessageKind) (s : List ℕ) (at n : ℕ) (w : WireType) (v : ValueKind) : Type 0 where
  f : ℕ
  found : key_read (drop at s) ≡ Some (f, w, n)
  value : v ≡ value_for k f
  fits : fits_wire (value_for k f) w ≡ true
  moved : 1 ≤ n
  inside : at + n ≤ length s

module _ {depth : ℕ} {k : MessageKind} {s : List ℕ} {at : ℕ} (i : Scanned depth k s at) where
  abbrev inner : MessageKind → List ℕ → Result ⊤ Refusal
  inner = fault_within (depth - 1)

  -- ---- the end

  pub end-at : length s ≤ at → (Ok record {}) ≡ fault_within depth k s
  end-at h = sym (i.stands ∙ fault-end inner k (drop at s) (omega (arith, length-drop at s)))

  -- ---- what an answer says

  -- a message that stands in a field, which ends at a place
  abbrev pub InnerAt : ℕ → Result ⊤ Refusal → Type 0
  InnerAt to (Ok u) = Scanned depth k s to
  InnerAt to (Err x) = Err x ≡ fault_within depth k s

  abbrev pub StepAt : ℕ → Result Step Refusal → Type 0
  StepAt size (Err x) = Err x ≡ fault_within depth k s
  StepAt size (Ok (step.Next m)) = (at < at + size + m) × Scanned depth k s (at + size + m)
  StepAt size (Ok (step.Inner j m len)) =
      (at < at + size + m)
      × (at + size + m + len ≤ length s)
      × ((q : Result ⊤ Refusal) → fault_within (depth - 1) j (take (at + size + m + len - (at + size + m)) (drop (at + size + m) s)) ≡ q
      → InnerAt (at + size + m + len) q)

  pub record FieldAt (q : FieldStep) : Type 0 where
    pub inside : at + q.size ≤ length s
    pub stands : StepAt q.size q.step

  -- ---- a field's key

  abbrev HeadAt : Result (ℕ × WireType × ValueKind) Refusal → Type 0
  HeadAt (Err x) = Err x ≡ fault_within depth k s
  HeadAt (Ok (n, w, v)) = Headed k s at n w v

  head-says : at < length s → HeadAt (field_head k (key_read (drop at s)))
  head-says h = go (key_read (drop at s)) refl
    where
      low : 0 < length (drop at s)
      low = omega (arith, length-drop at s)

      by : (f : ℕ) (w : WireType) (n : ℕ) → key_read (drop at s) ≡ Some (f, w, n) → (t : Bool) → fits_wire (value_for k f) w ≡ t
          → HeadAt (cond t (Ok (n, w, value_for k f)) (Err WrongWireType))
      by f w n e true g =
          let z = key-size (drop at s) f w n e in
          record { f = f; found = e; value = refl; fits = g; moved = z.0; inside = omega (arith, length-drop at s) }
      by f w n e false g = sym (i.stands ∙ fault-type inner k (drop at s) low f w n e g)

      go : (q : Option (ℕ × WireType × ℕ)) → key_read (drop at s) ≡ q → HeadAt (field_head k q)
      go (Some (f, w, n)) e = by f w n e (fits_wire (value_for k f) w) refl
      go None e = sym (i.stands ∙ fault-bad-key inner k (drop at s) low e)

  module _ {n : ℕ} {w : WireType} {v : ValueKind} (h : Headed k s at n w v) where
    -- ---- what stands behind the key

    some : 0 < length (drop at s)
    some = omega (arith, length-drop at s, h.moved, h.inside)

    gone : (m : ℕ) → at < at + n + m
    gone m = omega (arith, h.moved)

    -- the fields behind m more bytes decide
    on-at : (m : ℕ) → m ≤ length s - (at + n)
        → fault_of inner k (drop at s) ≡ fault_of inner k (drop (n + m) (drop at s))
        → Scanned depth k s (at + n + m)
    on-at m g e =
        let a : at + (n + m) ≡ at + n + m = omega arith in
        record { within = omega (arith, h.inside); stands = i.stands ∙ e ∙ rw (drop-drop (n + m) at s, a) }

    inner-at : (m len : ℕ) → m + len ≤ length s - (at + n) → (q p : Result ⊤ Refusal) → p ≡ q
        → fault_of inner k (drop at s) ≡ first p (fault_of inner k (drop (n + (m + len)) (drop at s)))
        → InnerAt (at + n + m + len) q
    inner-at m len g (Ok u) p d e =
        let a : at + n + (m + len) ≡ at + n + m + len = omega arith in
        subst (λ (to : ℕ). Scanned depth k s to) a (on-at (m + len) g (e ∙ rw d))
    inner-at m len g (Err x) p d e = sym (i.stands ∙ e ∙ rw d)

    same : (m len : ℕ) (j : MessageKind)
        → inner j (take len (drop (at + n + m) s)) ≡ inner j (take (at + n + m + len - (at + n + m)) (drop (at + n + m) s))
    same m len j = rw (add-sub_cancel_left (at + n + m) len)

    part_at : (u : ValueKind) (m len : ℕ) → m + len ≤ length s - (at + n)
        → fault_of inner k (drop at s)
        ≡ first (check_value inner u (bytes (take len (drop m (drop (at + n) s))))) (fault_of inner k (drop (n + (m + len)) (drop at s)))
        → StepAt n (part_step u m len (take len (drop m (drop (at + n) s))))
    part_at value.Any m len g e = (gone (m + len), on-at (m + len) g e)
    part_at value.Number m len g e = (gone (m + len), on-at (m + len) g e)
    part_at value.Text m len g e = go (is_utf8 (take len (drop m (drop (at + n) s)))) e
      where
        go : (t : Bool)
            → fault_of inner k (drop at s)
            ≡ first (cond t (Ok record {}) (Err InvalidUtf8)) (fault_of inner k (drop (n + (m + len)) (drop at s)))
            → StepAt n (cond t (Ok (step.Next (m + len))) (Err InvalidUtf8))
        go true e = (gone (m + len), on-at (m + len) g e)
        go false e = sym (i.stands ∙ e)
    part_at (value.Message j) m len g e = (
      gone m,
      omega (arith, h.inside),
      λ q d. inner-at m len g q (inner j (take len (drop m (drop (at + n) s)))) (rw (drop-drop m (at + n) s) (same m len j ∙ d)) e,
    )

    step-says : StepAt n (value_step v (body_of w (drop (at + n) s)) (drop (at + n) s))
    step-says = go (body_of w (drop (at + n) s)) refl
      where
        behind : (b : Option Body) → body_of w (drop (at + n) s) ≡ b → body_of w (drop n (drop at s)) ≡ b
        behind b e = rw (drop-drop n at s) e

        go : (b : Option Body) → body_of w (drop (at + n) s) ≡ b → StepAt n (value_step v b (drop (at + n) s))
        go (Some (body.Number x m)) e = (
          gone m,
          on-at m (body-size-after w s (at + n) (Some (body.Number x m)) e)
              (fault-number inner k (drop at s) some h.f w n h.found h.fits x m (behind (Some (body.Number x m)) e)),
        )
        go (Some (body.Fixed m)) e = (
          gone m,
          on-at m (body-size-after w s (at + n) (Some (body.Fixed m)) e)
              (fault-fixed inner k (drop at s) some h.f w n h.found h.fits m (behind (Some (body.Fixed m)) e)),
        )
        go (Some (body.Part m len)) e =
            part_at v m len (body-size-after w s (at + n) (Some (body.Part m len)) e)
            (fault-part inner k (drop at s) some h.f w n h.found h.fits m len (behind (Some (body.Part m len)) e)
            ∙ rw (← h.value, drop-drop n at s))
        go None e =
            sym (i.stands ∙ fault-cut inner k (drop at s) some h.f w n h.found h.fits (behind None e))

  -- ---- the whole field

  field-says : at < length s → FieldAt (field_of (field_head k (key_read (drop at s))) (drop at s))
  field-says h = go (field_head k (key_read (drop at s))) (head-says h)
    where
      go : (q : Result (ℕ × WireType × ValueKind) Refusal) → HeadAt q → FieldAt (field_of q (drop at s))
      go (Err x) e = record { inside = omega (arith, i.within); stands = e }
      go (Ok (n, w, v)) g = record { inside = g.inside; stands = rw (drop-drop n at s) (step-says g) }

  pub field_at : at < length s → (q : FieldStep)
      → q ≡ field_of (field_head k (key_read (take (length s - at) (drop at s)))) (take (length s - at) (drop at s)) → FieldAt q
  field_at h q e = subst FieldAt (sym (e ∙ ap (λ (l : List ℕ). field_of (field_head k (key_read l)) l) (rest s at))) (field-says h)
