-- `read_key` meets its contract: the tests are those of `key_from`, and each arm of the match is a case of `typed_key`. Assumes nothing.
use Prim.Native.Nat.{ℕ, ◌/◌, ◌%◌}
use native.Mathlib.Omega.{arith}
use mathlib.Core.Path.{◌≡◌, refl, sym, ◌∙◌}
use Rattle.wire.specs.Field.{typed_key, key_read}
use Rattle.wire.proofs.FieldLaws.{key-broken, key-large, key-zero, key-typed, typed-other}
use Rattle.wire.proofs.read_key.Goals.{Else-number-eq0}
use Rattle.wire.proofs.read_key.Goals as goal

-- where the number is known not to be 0
typed : (c : Else-number-eq0) (t : ℕ) → c.in_ok-v.v % 8 ≡ t → typed_key (c.in_ok-v.v / 8) t c.in_ok-v.n ≡ key_read c.args.s.now
typed c t g =
    let e = sym c.read_varint.ensures ∙ c.in_ok-v.was in
    sym (key-typed _ _ _ e (omega arith) c.if-number-eq0.false t g)

pub returns-in_err-v : goal.returns-in_err-v
returns-in_err-v c = rw c.from_residual.ensures (sym (key-broken _ (sym c.read_varint.ensures ∙ c.in_err-v.was)))

pub returns-then-v-gt-MAX_KEY : goal.returns-then-v-gt-MAX_KEY
returns-then-v-gt-MAX_KEY c =
    let e = sym c.read_varint.ensures ∙ c.in_ok-v.was in
    sym (key-large _ _ _ e (omega arith))

pub returns-then-number-eq0 : goal.returns-then-number-eq0
returns-then-number-eq0 c =
    let e = sym c.read_varint.ensures ∙ c.in_ok-v.was in
    sym (key-zero _ _ _ e (omega arith) c.if-number-eq0.true)

pub returns-in-0 : goal.returns-in-0
returns-in-0 c = typed (goal.at.returns-in-0 c).Else-number-eq0 0 c.in-0.is

pub returns-in-1 : goal.returns-in-1
returns-in-1 c = typed (goal.at.returns-in-1 c).Else-number-eq0 1 c.in-1.is

pub returns-in-2 : goal.returns-in-2
returns-in-2 c = typed (goal.at.returns-in-2 c).Else-number-eq0 2 c.in-2.is

pub returns-in-5 : goal.returns-in-5
returns-in-5 c = typed (goal.at.returns-in-5 c).Else-number-eq0 5 c.in-5.is

pub returns-in_default : goal.returns-in_default
returns-in_default c =
    sym (typed-other _ (c.in_ok-v.v % 8) _ (omega arith) (omega arith) (omega arith) (omega arith)) ∙ typed (goal.at.returns-in_default c).Else-number-eq0 _ refl
