-- Laws of a field's key and of what stands behind it: `key_read` and `body_of`.
--
-- In order: each case, from what the varint at the front says (`key-broken`, `key-large`, `key-zero`, `key-typed`, `typed-other`;
-- `number-broken`, `number-value`; `part-broken`, `part-fits`, `part-over`); the length of a key (`key-size`);
-- the length of a body (`body-size`), and behind n bytes (`body-size-after`); both at a place of a slice (`key-size-at`, `body-size-at`).
--
-- `KeySized` and `BodySized` say the lengths of any key and body, by cases; a caller with one case in hand cites `key-size`, `body-size`.
-- Assumes nothing.
use Rattle.std.specs.Prelude.{Option, Some, None}
use Prim.Native.Nat.{ℕ, ◌+◌, ◌-◌, ◌/◌, ◌%◌, ◌≤◌, ◌<◌}
use native.Mathlib.Omega.{arith}
use mathlib.Core.Path.{◌≡◌, sym, ap, subst, ◌∙◌}
use mathlib.Core.Bool.{cond}
use mathlib.Core.List.{List}
use lib.ListN.{length, take, drop, length-drop}
use lib.Dec.{leb, eqb}
use borrow.Author.Tests.{le-leb, lt-leb, eq-eqb, ne_eqb, leb-true}
use Rattle.slice.proofs.PartLaws.{rest}
use Rattle.wire.specs.declared.WireType.{WireType}
use Rattle.wire.specs.declared.WireType.TheVariants as type
use Rattle.wire.specs.declared.Body.{Body}
use Rattle.wire.specs.declared.Body.TheVariants as body
use Rattle.wire.specs.Varints.{varint_of}
use Rattle.wire.specs.Field.{max_key, typed_key, key_from, key_read, fixed_of, part_from, part_of, number_from, number_body, body_of}
use Rattle.wire.proofs.CondLaws.{cond_cases}
use Rattle.wire.proofs.VarintLaws.{VarintSized, varint-sized}

-- ---- the cases

module _ (l : List ℕ) (e : varint_of l ≡ None) where
  pub key-broken : key_read l ≡ None
  unfolding key_read
  key-broken = rw e

  pub number-broken : number_body l ≡ None
  unfolding number_body
  number-broken = rw e

  pub part-broken : part_of l ≡ None
  unfolding part_of
  part-broken = rw e

module _ (l : List ℕ) (v n : ℕ) (e : varint_of l ≡ Some (v, n)) where
  pub key-large : max_key < v → key_read l ≡ None
  unfolding key_read
  key-large h = rw (e, lt-leb v max_key h)

  pub key-zero : v ≤ max_key → v / 8 ≡ 0 → key_read l ≡ None
  unfolding key_read
  key-zero h z = rw (e, le-leb v max_key h, eq-eqb (v / 8) 0 z)

  pub key-typed : v ≤ max_key → (v / 8 ≡ 0 → ⊥) → (t : ℕ) → v % 8 ≡ t → key_read l ≡ typed_key (v / 8) t n
  unfolding key_read
  key-typed h z t g = rw (e, le-leb v max_key h, ne_eqb (v / 8) 0 z, g)

  pub number-value : number_body l ≡ Some (body.Number v n)
  unfolding number_body
  number-value = rw e

  pub part-fits : n + v ≤ length l → part_of l ≡ Some (body.Part n v)
  unfolding part_of
  part-fits h = rw (e, le-leb (n + v) (length l) h)

  pub part-over : length l < n + v → part_of l ≡ None
  unfolding part_of
  part-over h = rw (e, lt-leb (n + v) (length l) h)

-- a wire type that is not in use
pub typed-other : (f t n : ℕ) → (t ≡ 0 → ⊥) → (t ≡ 1 → ⊥) → (t ≡ 2 → ⊥) → (t ≡ 5 → ⊥) → typed_key f t n ≡ None
typed-other f t n a b c d = rw (ne_eqb t 0 a, ne_eqb t 1 b, ne_eqb t 2 c, ne_eqb t 5 d)

-- ---- a key's length

-- at least 1, and at most m
abbrev pub KeySized : ℕ → Option (ℕ × WireType × ℕ) → Type 0
KeySized m (Some (f, w, n)) = (1 ≤ n) × (n ≤ m)
KeySized m None = Unit {0}

sized-typed : (m f t n : ℕ) → (1 ≤ n) × (n ≤ m) → KeySized m (typed_key f t n)
sized-typed m f t n h =
    cond_cases (KeySized m) (eqb t 0) (Some (f, type.Varint, n)) _ (λ e. h) (λ e.
    cond_cases (KeySized m) (eqb t 1) (Some (f, type.I64, n)) _ (λ e. h) (λ e.
    cond_cases (KeySized m) (eqb t 2) (Some (f, type.Len, n)) _ (λ e. h) (λ e.
    cond_cases (KeySized m) (eqb t 5) (Some (f, type.I32, n)) None (λ e. h) (λ e. tt))))

sized-key : (m : ℕ) (r : Option (ℕ × ℕ)) → VarintSized m r → KeySized m (key_from r)
sized-key m (Some (v, n)) h =
    cond_cases (KeySized m) (leb v max_key) (cond (eqb (v / 8) 0) None (typed_key (v / 8) (v % 8) n)) None
    (λ g. cond_cases (KeySized m) (eqb (v / 8) 0) None (typed_key (v / 8) (v % 8) n) (λ z. tt)
    (λ z. sized-typed m (v / 8) (v % 8) n h))
    (λ g. tt)
sized-key m None h = tt

pub key-sized : (l : List ℕ) → KeySized (length l) (key_read l)
unfolding key_read
key-sized l = sized-key (length l) (varint_of l) (varint-sized l)

pub key-size : (l : List ℕ) (f : ℕ) (w : WireType) (n : ℕ) → key_read l ≡ Some (f, w, n) → (1 ≤ n) × (n ≤ length l)
key-size l f w n e = subst (KeySized (length l)) e (key-sized l)

-- ---- a body's length

-- at most m
abbrev pub BodySized : ℕ → Option Body → Type 0
BodySized m (Some (body.Number v n)) = n ≤ m
BodySized m (Some (body.Fixed n)) = n ≤ m
BodySized m (Some (body.Part n len)) = n + len ≤ m
BodySized m None = Unit {0}

sized-number : (m : ℕ) (r : Option (ℕ × ℕ)) → VarintSized m r → BodySized m (number_from r)
sized-number m (Some (v, n)) h = h.1
sized-number m None h = tt

sized-fixed : (n : ℕ) (l : List ℕ) → BodySized (length l) (fixed_of n l)
unfolding fixed_of
sized-fixed n l =
    cond_cases (BodySized (length l)) (leb n (length l)) (Some (body.Fixed n)) None (λ e. leb-true n (length l) e) (λ e. tt)

sized-part : (m : ℕ) (r : Option (ℕ × ℕ)) → BodySized m (part_from r m)
sized-part m (Some (v, n)) =
    cond_cases (BodySized m) (leb (n + v) m) (Some (body.Part n v)) None (λ e. leb-true (n + v) m e) (λ e. tt)
sized-part m None = tt

pub body-sized : (w : WireType) (l : List ℕ) → BodySized (length l) (body_of w l)
unfolding number_body part_of
body-sized type.Varint l = sized-number (length l) (varint_of l) (varint-sized l)
body-sized type.I64 l = sized-fixed 8 l
body-sized type.Len l = sized-part (length l) (varint_of l)
body-sized type.I32 l = sized-fixed 4 l

pub body-size : (w : WireType) (l : List ℕ) (b : Option Body) → body_of w l ≡ b → BodySized (length l) b
body-size w l b e = subst (BodySized (length l)) e (body-sized w l)

-- the same behind n bytes
pub body-size-after : (w : WireType) (l : List ℕ) (n : ℕ) (b : Option Body) → body_of w (drop n l) ≡ b → BodySized (length l - n) b
body-size-after w l n b e = subst (λ (m : ℕ). BodySized m b) (length-drop n l) (body-size w (drop n l) b e)

-- ---- at a place of a slice: `&s[at..]`

module _ (s : List ℕ) (at : ℕ) where
  pub key-size-at : (f : ℕ) (w : WireType) (n : ℕ) → at ≤ length s → key_read (take (length s - at) (drop at s)) ≡ Some (f, w, n)
      → (1 ≤ n) × (at + n ≤ length s)
  key-size-at f w n h e =
      let p = key-size (drop at s) f w n (ap key_read (sym (rest s at)) ∙ e) in
      (p.0, omega (arith, length-drop at s, p.1))

  pub body-size-at : (w : WireType) (b : Option Body) → body_of w (take (length s - at) (drop at s)) ≡ b → BodySized (length s - at) b
  body-size-at w b e = body-size-after w s at b (ap (body_of w) (sym (rest s at)) ∙ e)
