-- A `Result` of the Rust beside a first refusal and a value: `verdict` joins the two, and `?` is `or_else` (`seq`). Where the port may refuse
-- for a reason of its own (`Agreed`), so are `?` (`seq-agreed`) and an early return (`test-agreed`).
-- Assumes nothing.
use Rattle.std.specs.Prelude.{Option, Some, None}
use Prim.Native.Nat.{ℕ}
use native.Mathlib.Omega.{arith}
use mathlib.Core.Path.{◌≡◌, refl, ap, sym, subst}
use mathlib.Core.Bool.{Bool, true, false, cond, false≢true, true≢false}
use Rattle.keyed.specs.Keyed.{or_else}
use Rattle.rust_magnetar.specs.Result.{Result, Ok, Err, ◌>>=◌, map-err}

-- what a refusal, or none, makes of a value
abbrev pub verdict : {A R : Type 0} → Option R → A → Result A R
verdict None a = Ok a
verdict (Some r) a = Err r

pub ok-err : {A E B : Type 0} {a : A} {e : E} → Ok a ≡ Err e → B
ok-err p = let z : ◌≡◌ {A = ℕ} 0 1 = cc in absurd (omega arith)

-- `?`: the refusal of the first part, else of the rest
pub seq : {A B E R : Type 0} (g : E → R) (m : Result A E) (v : Option R) (a : A) → map-err g m ≡ verdict v a
    → (f : A → Result B E) (w : Option R) (b : B) → (v ≡ None → map-err g (f a) ≡ verdict w b)
    → map-err g (m >>= f) ≡ verdict (or_else v w) b
seq g (Ok x) None a e f w b h = let p : x ≡ a = cc in subst (λ y. map-err g (f y) ≡ verdict w b) (sym p) (h refl)
seq g (Ok x) (Some r) a e f w b h = ok-err e
seq g (Err x) None a e f w b h = ok-err (sym e)
seq g (Err x) (Some r) a e f w b h = let p : g x ≡ r = cc in ap Err p

-- ---- the same, where the port may refuse what the Rust takes

module _ {R : Type 0} (Mine : R → Type 0) where
  -- the two say the same, or the port refuses for a reason of its own
  pub data Agreed {A E : Type 0} (g : E → R) (m : Result A E) (v : Option R) (a : A) : Type 0 where
    agree : map-err g m ≡ verdict v a → Agreed g m v a
    mine : (x : R) → v ≡ Some x → Mine x → Agreed g m v a

  seq-same : {A B E : Type 0} (g : E → R) (m : Result A E) (v : Option R) (a : A) → map-err g m ≡ verdict v a
      → (f : A → Result B E) (w : Option R) (b : B) → (v ≡ None → Agreed g (f a) w b) → Agreed g (m >>= f) (or_else v w) b
  seq-same g (Ok x) None a e f w b h = let p : x ≡ a = cc in subst (λ y. Agreed g (f y) w b) (sym p) (h refl)
  seq-same g (Ok x) (Some r) a e f w b h = ok-err e
  seq-same g (Err x) None a e f w b h = ok-err (sym e)
  seq-same g (Err x) (Some r) a e f w b h = let p : g x ≡ r = cc in Agreed.agree (ap Err p)

  pub seq-agreed : {A B E : Type 0} (g : E → R) (m : Result A E) (v : Option R) (a : A) → Agreed g m v a
      → (f : A → Result B E) (w : Option R) (b : B) → (v ≡ None → Agreed g (f a) w b) → Agreed g (m >>= f) (or_else v w) b
  seq-agreed g m v a (Agreed.agree e) f w b h = seq-same g m v a e f w b h
  seq-agreed g m v a (Agreed.mine x p q) f w b h = Agreed.mine x (rw p) q

  -- `if test { return Err(e); }`
  pub test-agreed : {A E : Type 0} (g : E → R) (b c : Bool) → b ≡ c → (e : E) (m : Result A E) (w : Option R) (a : A)
      → (c ≡ false → Agreed g m w a) → Agreed g (cond b (Err e) m) (or_else (cond c (Some (g e)) None) w) a
  test-agreed g true true p e m w a h = Agreed.agree refl
  test-agreed g true false p e m w a h = absurd (true≢false p)
  test-agreed g false true p e m w a h = absurd (false≢true p)
  test-agreed g false false p e m w a h = h refl

-- ---- refusals

module _ {A : Type 0} where
  pub or-none : (o : Option A) → or_else o None ≡ o
  or-none None = refl
  or-none (Some a) = refl

  pub or-unless : (b : Bool) (x : A) (o : Option A) → or_else (cond b None (Some x)) o ≡ cond b o (Some x)
  or-unless true x o = refl
  or-unless false x o = refl
