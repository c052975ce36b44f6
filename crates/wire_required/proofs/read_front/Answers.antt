-- `read_front` meets its contract: the answer is `front_from` of the body behind the key, and key and body stand inside the part, so that
-- no sum wraps. Assumes nothing.
use Rattle.std.specs.Prelude.{Option, Some}
use Prim.Native.Nat.{◌-◌, ◌≤◌}
use native.Mathlib.Omega.{arith}
use mathlib.Core.Path.{◌≡◌, sym, ◌∙◌, ap}
use lib.ListN.{length}
use Rattle.wire.specs.declared.Body.{Body}
use Rattle.wire.specs.Field.{key_read}
use Rattle.wire.proofs.FieldLaws.{key-size, BodySized, body-size-at}
use Rattle.wire_values.specs.Places.{front_from, front_of}
use Rattle.wire_values.proofs.FrontLaws.{front-bad-key, front-of-body}
use Rattle.wire_required.proofs.read_front.Goals.{After-read_body}
use Rattle.wire_required.proofs.read_front.Goals as goal

keyed : (c : After-read_body) → key_read (c.args.s.now) ≡ Some (c.in_ok-f.f, c.in_ok-f.w, c.in_ok-f.n)
keyed c = sym c.read_key.ensures ∙ c.in_ok-f.was

fits : (c : After-read_body) (b : Option Body) → c.read_body.result ≡ b → (c.in_ok-f.n ≤ length (c.args.s.now)) × BodySized (length (c.args.s.now) - c.in_ok-f.n) b
fits c b e =
    ((key-size _ _ _ _ (keyed c)).1, body-size-at (c.args.s.now) (c.in_ok-f.n) (c.in_ok-f.w) b (sym c.read_body.ensures ∙ e))

answers : (c : After-read_body) (b : Option Body) → c.read_body.result ≡ b → front_from (c.in_ok-f.f) (c.in_ok-f.n) b ≡ front_of (c.args.s.now)
answers c b e = sym (front-of-body (c.args.s.now) (c.in_ok-f.f) (c.in_ok-f.w) (c.in_ok-f.n) b (keyed c) (sym c.read_body.ensures ∙ e))

pub returns-in_err-f : goal.returns-in_err-f
returns-in_err-f c = rw c.from_residual.ensures (sym (front-bad-key _ (sym c.read_key.ensures ∙ c.in_err-f.was)))

pub slice_bounds-read_body-count : goal.slice_bounds-read_body-count
slice_bounds-read_body-count c = (key-size _ _ _ _ (sym c.read_key.ensures ∙ c.in_ok-f.was)).1

pub slice_bounds-read_body-start : goal.slice_bounds-read_body-start
slice_bounds-read_body-start c =
    omega (arith, (key-size _ _ _ _ (sym c.read_key.ensures ∙ c.in_ok-f.was)).1)

pub overflow_add-result : goal.overflow_add-result
overflow_add-result c = let z = fits (goal.at.overflow_add-result c).After-read_body _ (c.in_ok-v.was ∙ ap Some c.in-Number.is) in omega arith

pub overflow_add-result-in-Part : goal.overflow_add-result-in-Part
overflow_add-result-in-Part c = let z = fits (goal.at.overflow_add-result-in-Part c).After-read_body _ (c.in_ok-v.was ∙ ap Some c.in-Part.is) in omega arith

pub overflow_add-result-in-Fixed : goal.overflow_add-result-in-Fixed
overflow_add-result-in-Fixed c = let z = fits (goal.at.overflow_add-result-in-Fixed c).After-read_body _ (c.in_ok-v.was ∙ ap Some c.in-Fixed.is) in omega arith

pub returns-in-Number : goal.returns-in-Number
returns-in-Number c = answers (goal.at.returns-in-Number c).After-read_body _ (c.in_ok-v.was ∙ ap Some c.in-Number.is)

pub returns-in-Part : goal.returns-in-Part
returns-in-Part c = answers (goal.at.returns-in-Part c).After-read_body _ (c.in_ok-v.was ∙ ap Some c.in-Part.is)

pub returns-in-Fixed : goal.returns-in-Fixed
returns-in-Fixed c = answers (goal.at.returns-in-Fixed c).After-read_body _ (c.in_ok-v.was ∙ ap Some c.in-Fixed.is)

pub returns-in_err-v : goal.returns-in_err-v
returns-in_err-v c = rw c.from_residual-in_err-v.ensures (answers (goal.at.returns-in_err-v c).After-read_body _ c.in_err-v.was)
