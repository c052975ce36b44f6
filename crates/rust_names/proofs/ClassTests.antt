-- The classes of bytes are the Rust's comparisons: '/', '-', '?' or '#', decimal and hexadecimal digits.
-- Assumes nothing.
use Prim.Native.Nat.{ℕ}
use mathlib.Core.Path.{◌≡◌, refl}
use mathlib.Core.Bool.{Bool, true, false, cond, ◌||◌}
use lib.Dec.{eqb}
use borrow.Author.Tests.{eqb-true}
use Rattle.name_parents.specs.Classes.{between, class_of, is_digit_byte, is_hex_digit, is_slash, is_dash, is_mark}
use Rattle.rust_magnetar.specs.SegmentTopic.{slash, dash, question, hash, is_ascii_digit, is-hex-byte}

-- the class by the six tests, in their order
abbrev choice : Bool → Bool → Bool → Bool → Bool → Bool → ℕ
choice t u v w x y = cond t 1 (cond u 2 (cond v 3 (cond w 4 (cond x 5 (cond y 6 0)))))

digit-choice : (t u v w x y : Bool) → eqb (choice t u v w x y) 1 ≡ t
digit-choice true u v w x y = refl
digit-choice false true v w x y = refl
digit-choice false false true w x y = refl
digit-choice false false false true x y = refl
digit-choice false false false false true y = refl
digit-choice false false false false false true = refl
digit-choice false false false false false false = refl

letter-choice : (u v w x y : Bool) → eqb (choice false u v w x y) 2 ≡ u
letter-choice true v w x y = refl
letter-choice false true w x y = refl
letter-choice false false true x y = refl
letter-choice false false false true y = refl
letter-choice false false false false true = refl
letter-choice false false false false false = refl

no-slash-choice : (t u w x y : Bool) → eqb (choice t u false w x y) 3 ≡ false
no-slash-choice true u w x y = refl
no-slash-choice false true w x y = refl
no-slash-choice false false true x y = refl
no-slash-choice false false false true y = refl
no-slash-choice false false false false true = refl
no-slash-choice false false false false false = refl

no-dash-choice : (t u v x y : Bool) → eqb (choice t u v false x y) 4 ≡ false
no-dash-choice true u v x y = refl
no-dash-choice false true v x y = refl
no-dash-choice false false true x y = refl
no-dash-choice false false false true y = refl
no-dash-choice false false false false true = refl
no-dash-choice false false false false false = refl

no-mark-choice : (t u v w : Bool) → (eqb (choice t u v w false false) 5 || eqb (choice t u v w false false) 6) ≡ false
no-mark-choice true u v w = refl
no-mark-choice false true v w = refl
no-mark-choice false false true w = refl
no-mark-choice false false false true = refl
no-mark-choice false false false false = refl

hex-choice : (t u v w x y : Bool) → (eqb (choice t u v w x y) 1 || eqb (choice t u v w x y) 2) ≡ (t || u)
hex-choice true u v w x y = refl
hex-choice false u v w x y = rw digit-choice (letter-choice u v w x y)

module _ (b : ℕ) where
  pub digit-test : is_digit_byte b ≡ is_ascii_digit b
  unfolding class_of
  digit-test = digit-choice (between 0x30 0x39 b) (between 0x61 0x66 b) (eqb b 0x2F) (eqb b 0x2D) (eqb b 0x3F) (eqb b 0x23)

  pub hex-test : is_hex_digit b ≡ is-hex-byte b
  unfolding class_of
  hex-test = hex-choice (between 0x30 0x39 b) (between 0x61 0x66 b) (eqb b 0x2F) (eqb b 0x2D) (eqb b 0x3F) (eqb b 0x23)

  pub slash-test : is_slash b ≡ eqb b slash
  unfolding class_of
  slash-test = go (eqb b 0x2F) refl
    where
      go : (v : Bool) → eqb b 0x2F ≡ v → is_slash b ≡ v
      go true e = rw (eqb-true b 0x2F e)
      go false e = rw e (no-slash-choice (between 0x30 0x39 b) (between 0x61 0x66 b) (eqb b 0x2D) (eqb b 0x3F) (eqb b 0x23))

  pub dash-test : is_dash b ≡ eqb b dash
  unfolding class_of
  dash-test = go (eqb b 0x2D) refl
    where
      go : (w : Bool) → eqb b 0x2D ≡ w → is_dash b ≡ w
      go true e = rw (eqb-true b 0x2D e)
      go false e = rw e (no-dash-choice (between 0x30 0x39 b) (between 0x61 0x66 b) (eqb b 0x2F) (eqb b 0x3F) (eqb b 0x23))

  pub mark-test : is_mark b ≡ (eqb b question || eqb b hash)
  unfolding class_of
  mark-test = go (eqb b 0x3F) refl (eqb b 0x23) refl
    where
      go : (x : Bool) → eqb b 0x3F ≡ x → (y : Bool) → eqb b 0x23 ≡ y → is_mark b ≡ (x || y)
      go true e y f = rw (eqb-true b 0x3F e)
      go false e true f = rw (eqb-true b 0x23 f)
      go false e false f = rw (e, f) (no-mark-choice (between 0x30 0x39 b) (between 0x61 0x66 b) (eqb b 0x2F) (eqb b 0x2D))
