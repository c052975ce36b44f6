-- Laws of the field at the front of a part (`front_of`), and of a walk over the fields of a slice by their fronts.
--
-- In order: `front_of` from what key and body say (`front-bad-key`, `front-of-body`); what the front at a place of a slice says of the
-- fields from there on (`front_at`, which gives a `NumberAt`, `PartAt`, `FixedAt` or `BrokenAt`), and no field (`fields-end`,
-- `numbers-end`, `parts-end`); a number or a part of field n itself, or of another field (`number_same`, `number-other`, `part_same`,
-- `part-other`).
--
-- A walk's invariant speaks of `numbers_from n s at` and `parts_from n s at` for each n that it keeps a value of. At a front, q being what
-- `front_at` says, it steps by `q.numbers n` and `q.parts n`; `q.inside` keeps its sums inside the slice, and `q.ahead` shows that
-- it ends. A walk that keeps something else steps by `q.fields`.
-- Assumes nothing.
use Rattle.std.specs.Prelude.{Option, Some, None}
use Prim.Native.Nat.{ℕ, ◌+◌, ◌-◌, ◌≤◌, ◌<◌}
use native.Mathlib.Omega.{arith}
use mathlib.Core.Path.{◌≡◌, refl, sym, ap, subst, ◌∙◌}
use mathlib.Core.Bool.{cond}
use mathlib.Core.List.{List, [], ◌∷◌}
use lib.ListN.{length, take, drop, length-drop}
use lib.Seq.{drop-drop}
use lib.Dec.{eqb}
use borrow.Author.Tests.{eq-eqb, ne_eqb}
use Rattle.slice.proofs.PartLaws.{rest}
use Rattle.wire.specs.declared.WireType.{WireType}
use Rattle.wire.specs.declared.Body.{Body}
use Rattle.wire.specs.declared.Body.TheVariants as body
use Rattle.wire.specs.Field.{key_read, body_of}
use Rattle.wire.specs.Fields.{number, bytes, fixed, cut, Field, bad_key, field, fields_of}
use Rattle.wire.proofs.FieldLaws.{key-size, body-size-after}
use Rattle.wire.proofs.FieldsLaws.{fields-nil, fields-bad-key, fields-cut, fields-number, fields-fixed, fields-part}
use Rattle.wire_values.specs.declared.Front.{Front}
use Rattle.wire_values.specs.declared.Front.TheVariants as front
use Rattle.wire_values.specs.Values.{numbers_of, parts_of}
use Rattle.wire_values.specs.Places.{front_from, front_by, front_of}

-- ---- from what key and body say

pub front-bad-key : (l : List ℕ) → key_read l ≡ None → front_of l ≡ None
unfolding front_of
front-bad-key l e = rw e

-- the body stands behind the key, as `&s[n..]`
pub front-of-body : (l : List ℕ) (f : ℕ) (w : WireType) (n : ℕ) (b : Option Body)
    → key_read l ≡ Some (f, w, n) → body_of w (take (length l - n) (drop n l)) ≡ b → front_of l ≡ front_from f n b
unfolding front_of
front-of-body l f w n b e g = let h : body_of w (drop n l) ≡ b = ap (body_of w) (sym (rest l n)) ∙ g in rw (e, h)

-- ---- the fields from a place on

abbrev pub numbers_from : ℕ → List ℕ → ℕ → List ℕ
numbers_from n s at = numbers_of n (fields_of (drop at s))

abbrev pub parts_from : ℕ → List ℕ → ℕ → List (List ℕ)
parts_from n s at = parts_of n (fields_of (drop at s))

-- a number v of field f, whose field has size bytes
pub record NumberAt (s : List ℕ) (at f v size : ℕ) : Type 0 where
  pub ahead : 1 ≤ size
  pub inside : at + size ≤ length s
  pub type : WireType
  pub fields : fields_of (drop at s) ≡ field f type (number v) ∷ fields_of (drop (at + size) s)
  pub numbers : (n : ℕ) → numbers_from n s at ≡ cond (eqb f n) (v ∷ numbers_from n s (at + size)) (numbers_from n s (at + size))
  pub parts : (n : ℕ) → parts_from n s at ≡ parts_from n s (at + size)

-- a part of field f, of len bytes, that starts start bytes further on
pub record PartAt (s : List ℕ) (at f start len : ℕ) : Type 0 where
  pub ahead : 1 ≤ start
  pub inside : at + start + len ≤ length s
  pub type : WireType
  pub fields : fields_of (drop at s) ≡ field f type (bytes (take len (drop (at + start) s))) ∷ fields_of (drop (at + start + len) s)
  pub numbers : (n : ℕ) → numbers_from n s at ≡ numbers_from n s (at + start + len)
  pub parts : (n : ℕ)
      → parts_from n s at
      ≡ cond (eqb f n) (take len (drop (at + start) s) ∷ parts_from n s (at + start + len)) (parts_from n s (at + start + len))

-- 8 or 4 bytes of some field, which has size bytes
pub record FixedAt (s : List ℕ) (at size : ℕ) : Type 0 where
  pub ahead : 1 ≤ size
  pub inside : at + size ≤ length s
  pub number : ℕ
  pub type : WireType
  pub fields : fields_of (drop at s) ≡ field number type fixed ∷ fields_of (drop (at + size) s)
  pub numbers : (n : ℕ) → numbers_from n s at ≡ numbers_from n s (at + size)
  pub parts : (n : ℕ) → parts_from n s at ≡ parts_from n s (at + size)

-- a row that is one broken field
pub data BrokenRow : List Field → Type 0 where
  bad-key : BrokenRow (bad_key ∷ [])
  cut_short : (f : ℕ) (w : WireType) → BrokenRow (field f w cut ∷ [])

pub record BrokenAt (s : List ℕ) (at : ℕ) : Type 0 where
  pub fields : BrokenRow (fields_of (drop at s))
  pub numbers : (n : ℕ) → numbers_from n s at ≡ []
  pub parts : (n : ℕ) → parts_from n s at ≡ []

numbers-broken : (n : ℕ) {fs : List Field} → BrokenRow fs → numbers_of n fs ≡ []
numbers-broken n bad-key = refl
numbers-broken n (cut_short f w) = refl

parts-broken : (n : ℕ) {fs : List Field} → BrokenRow fs → parts_of n fs ≡ []
parts-broken n bad-key = refl
parts-broken n (cut_short f w) = refl

-- what each front says
abbrev pub FrontAt : List ℕ → ℕ → Option Front → Type 0
FrontAt s at (Some (front.Number f v size)) = NumberAt s at f v size
FrontAt s at (Some (front.Part f start len)) = PartAt s at f start len
FrontAt s at (Some (front.Fixed size)) = FixedAt s at size
FrontAt s at None = BrokenAt s at

module _ (s : List ℕ) (at : ℕ) (h : at < length s) where
  filled : 0 < length (drop at s)
  filled = omega (arith, length-drop at s)

  broken-at : BrokenRow (fields_of (drop at s)) → BrokenAt s at
  broken-at r = record { fields = r; numbers = λ n. numbers-broken n r; parts = λ n. parts-broken n r }

  -- a field of k + m bytes
  sized : (k m : ℕ) → (1 ≤ k) × (k ≤ length (drop at s)) → m ≤ length (drop at s) - k → (1 ≤ k + m) × (at + (k + m) ≤ length s)
  sized k m p q = (omega arith, omega (arith, length-drop at s))

  by-body : (f : ℕ) (w : WireType) (k : ℕ) → key_read (drop at s) ≡ Some (f, w, k)
      → (b : Option Body) → body_of w (drop k (drop at s)) ≡ b → FrontAt s at (front_from f k b)
  by-body f w k e (Some (body.Number v m)) g =
      let z = sized k m (key-size (drop at s) f w k e) (body-size-after w (drop at s) k (Some (body.Number v m)) g) in
      let r = rw (drop-drop (k + m) at s) at (fields-number (drop at s) filled f w k e v m g) in
      record { ahead = z.0; inside = z.1; type = w; fields = r; numbers = λ n. ap (numbers_of n) r; parts = λ n. ap (parts_of n) r }
  by-body f w k e (Some (body.Fixed m)) g =
      let z = sized k m (key-size (drop at s) f w k e) (body-size-after w (drop at s) k (Some (body.Fixed m)) g) in
      let r = rw (drop-drop (k + m) at s) at (fields-fixed (drop at s) filled f w k e m g) in
      record {
        ahead = z.0;
        inside = z.1;
        number = f;
        type = w;
        fields = r;
        numbers = λ n. ap (numbers_of n) r;
        parts = λ n. ap (parts_of n) r;
      }
  by-body f w k e (Some (body.Part m len)) g =
      let p = key-size (drop at s) f w k e in
      let z = sized k (m + len) p (body-size-after w (drop at s) k (Some (body.Part m len)) g) in
      let a : at + (k + (m + len)) ≡ at + (k + m) + len = omega arith in
      let b = drop-drop (k + m) at s in
      let d = drop-drop (k + (m + len)) at s in
      let r = rw (drop-drop m k (drop at s), b, d, a) at (fields-part (drop at s) filled f w k e m len g) in
      record {
        ahead = omega (arith, p.0);
        inside = omega (arith, z.1);
        type = w;
        fields = r;
        numbers = λ n. ap (numbers_of n) r;
        parts = λ n. ap (parts_of n) r;
      }
  by-body f w k e None g = broken-at (subst BrokenRow (sym (fields-cut (drop at s) filled f w k e g)) (cut_short f w))

  by_key : (q : Option (ℕ × WireType × ℕ)) → key_read (drop at s) ≡ q → FrontAt s at (front_by q (drop at s))
  by_key (Some (f, w, k)) e = by-body f w k e (body_of w (drop k (drop at s))) refl
  by_key None e = broken-at (subst BrokenRow (sym (fields-bad-key (drop at s) filled e)) bad-key)

  front-says : FrontAt s at (front_of (drop at s))
  unfolding front_of
  front-says = by_key (key_read (drop at s)) refl

  -- the front of `&s[at..]`
  pub front_at : (q : Option Front) → front_of (take (length s - at) (drop at s)) ≡ q → FrontAt s at q
  front_at q e = subst (FrontAt s at) (ap front_of (sym (rest s at)) ∙ e) front-says

-- the slice's end
pub fields-end : (s : List ℕ) (at : ℕ) → length s ≤ at → fields_of (drop at s) ≡ []
fields-end s at h = fields-nil (drop at s) (omega (arith, length-drop at s))

pub numbers-end : (n : ℕ) (s : List ℕ) (at : ℕ) → length s ≤ at → numbers_from n s at ≡ []
numbers-end n s at h = ap (numbers_of n) (fields-end s at h)

pub parts-end : (n : ℕ) (s : List ℕ) (at : ℕ) → length s ≤ at → parts_from n s at ≡ []
parts-end n s at h = ap (parts_of n) (fields-end s at h)

-- ---- the field that is looked for, or another

module _ {s : List ℕ} {at f v size : ℕ} (q : NumberAt s at f v size) (n : ℕ) where
  pub number_same : f ≡ n → numbers_from n s at ≡ v ∷ numbers_from n s (at + size)
  number_same e = q.numbers n ∙ rw (eq-eqb f n e)

  pub number-other : (f ≡ n → ⊥) → numbers_from n s at ≡ numbers_from n s (at + size)
  number-other e = q.numbers n ∙ rw (ne_eqb f n e)

module _ {s : List ℕ} {at f start len : ℕ} (q : PartAt s at f start len) (n : ℕ) where
  pub part_same : f ≡ n → parts_from n s at ≡ take len (drop (at + start) s) ∷ parts_from n s (at + start + len)
  part_same e = q.parts n ∙ rw (eq-eqb f n e)

  pub part-other : (f ≡ n → ⊥) → parts_from n s at ≡ parts_from n s (at + start + len)
  part-other e = q.parts n ∙ rw (ne_eqb f n e)
