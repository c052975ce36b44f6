-- Laws of a message as a row of fields: `fields_of`, one field after the other.
--
-- In order: the field at the front stands inside its part (`size-le`); no field (`fields-nil`); a field and the rest (`fields-step`;
-- `fields-whole`, `fields-broken`); the same by what key and body say (`fields-bad-key`, `fields-cut`, `fields-body`, and of that the cases
-- `fields-number`, `fields-fixed`, `fields-part`). Not here: a field's parts, one by one (proofs/FieldLaws).
-- Assumes nothing.
use Rattle.std.specs.Prelude.{Option, Some, None}
use Prim.Native.Nat.{ℕ, zero, suc, ◌+◌, ◌-◌, ◌≤◌, ◌<◌}
use native.Mathlib.Omega.{arith}
use mathlib.Core.Path.{◌≡◌, refl, ap, ◌∙◌}
use mathlib.Core.Bool.{cond}
use mathlib.Core.List.{List, [], ◌∷◌}
use lib.ListN.{length, take, drop}
use lib.Dec.{eqb}
use borrow.Author.Tests.{eq-eqb, ne_eqb}
use Rattle.wire.specs.declared.WireType.{WireType}
use Rattle.wire.specs.declared.Body.{Body}
use Rattle.wire.specs.declared.Body.TheVariants as body
use Rattle.wire.specs.Field.{key_read, body_of}
use Rattle.wire.specs.Fields.{
  number,
  bytes,
  fixed,
  cut,
  Field,
  bad_key,
  field,
  payload_of,
  size_after,
  field_by,
  size_by,
  fields_after,
  fields_of,
}
use Rattle.wire.proofs.FieldLaws.{BodySized, body-size-after, key-size}

-- ---- the length of the field at the front

after-le : (m n : ℕ) (b : Option Body) → n ≤ m → BodySized (m - n) b → size_after n b ≤ m
after-le m n (Some (body.Number v k)) h g = omega arith
after-le m n (Some (body.Fixed k)) h g = omega arith
after-le m n (Some (body.Part k len)) h g = omega arith
after-le m n None h g = omega arith

by_le : (l : List ℕ) (k : Option (ℕ × WireType × ℕ)) → key_read l ≡ k → size_by k l ≤ length l
by_le l (Some (f, w, n)) e =
    after-le (length l) n (body_of w (drop n l)) (key-size l f w n e).1 (body-size-after w l n (body_of w (drop n l)) refl)
by_le l None e = omega arith

-- a field stands inside its part
pub size-le : (l : List ℕ) → size_by (key_read l) l ≤ length l
size-le l = by_le l (key_read l) refl

-- ---- a field and the rest

pub fields-nil : (l : List ℕ) → length l ≤ 0 → fields_of l ≡ []
unfolding fields_of
fields-nil [] h = refl
fields-nil (b ∷ l) h = absurd (let z : ⊥ = omega arith in z)

fields-skip : (n : ℕ) (l : List ℕ) → fields_after n l ≡ fields_after 0 (drop n l)
fields-skip zero l = refl
fields-skip (suc n) [] = refl
fields-skip (suc n) (b ∷ l) = fields-skip n l

-- what follows a first field of n bytes, as the definition says it and as a part of the list
fields-after : (b : ℕ) (l : List ℕ) (n : ℕ)
    → cond (eqb n 0) [] (fields_after (n - 1) l) ≡ cond (eqb n 0) [] (fields_after 0 (drop n (b ∷ l)))
fields-after b l zero = refl
fields-after b l (suc n) = let e : suc n - 1 ≡ n = omega arith in rw (e, fields-skip n l)

pub fields-step : (l : List ℕ) → 0 < length l
    → fields_of l ≡ field_by (key_read l) l ∷ cond (eqb (size_by (key_read l) l) 0) [] (fields_of (drop (size_by (key_read l) l) l))
unfolding fields_of
fields-step [] h = absurd (let z : ⊥ = omega arith in z)
fields-step (b ∷ l) h =
    ap (λ (r : List Field). field_by (key_read (b ∷ l)) (b ∷ l) ∷ r) (fields-after b l (size_by (key_read (b ∷ l)) (b ∷ l)))

module _ (l : List ℕ) (h : 0 < length l) where
  -- a whole field, and the fields behind it
  pub fields-whole : (size_by (key_read l) l ≡ 0 → ⊥) → fields_of l ≡ field_by (key_read l) l ∷ fields_of (drop (size_by (key_read l) l) l)
  fields-whole z = fields-step l h ∙ rw (ne_eqb (size_by (key_read l) l) 0 z)

  -- a broken field is the last
  pub fields-broken : size_by (key_read l) l ≡ 0 → fields_of l ≡ field_by (key_read l) l ∷ []
  fields-broken z = fields-step l h ∙ rw (eq-eqb (size_by (key_read l) l) 0 z)

  pub fields-bad-key : key_read l ≡ None → fields_of l ≡ bad_key ∷ []
  fields-bad-key e = fields-step l h ∙ rw e

  module _ (f : ℕ) (w : WireType) (n : ℕ) (e : key_read l ≡ Some (f, w, n)) where
    pub fields-cut : body_of w (drop n l) ≡ None → fields_of l ≡ field f w cut ∷ []
    fields-cut g = fields-step l h ∙ rw (e, g)

    pub fields-body : (b : Option Body) → body_of w (drop n l) ≡ b → (size_after n b ≡ 0 → ⊥)
        → fields_of l ≡ field f w (payload_of b (drop n l)) ∷ fields_of (drop (size_after n b) l)
    fields-body b g z = fields-step l h ∙ rw (e, g, ne_eqb (size_after n b) 0 z)

    pub fields-number : (v m : ℕ) → body_of w (drop n l) ≡ Some (body.Number v m)
        → fields_of l ≡ field f w (number v) ∷ fields_of (drop (n + m) l)
    fields-number v m g = let k = key-size l f w n e in fields-body (Some (body.Number v m)) g (λ z. omega arith)

    pub fields-fixed : (m : ℕ) → body_of w (drop n l) ≡ Some (body.Fixed m) → fields_of l ≡ field f w fixed ∷ fields_of (drop (n + m) l)
    fields-fixed m g = let k = key-size l f w n e in fields-body (Some (body.Fixed m)) g (λ z. omega arith)

    pub fields-part : (m len : ℕ) → body_of w (drop n l) ≡ Some (body.Part m len)
        → fields_of l ≡ field f w (bytes (take len (drop m (drop n l)))) ∷ fields_of (drop (n + (m + len)) l)
    fields-part m len g = let k = key-size l f w n e in fields-body (Some (body.Part m len)) g (λ z. omega arith)
