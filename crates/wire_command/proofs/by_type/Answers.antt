-- `by_type` meets its contract: each of the three types, or another. The code compares the bits of two integers; `to_z-of_z` turns equal bits into
-- equal integers.
-- Assumes nothing.
use Rattle.std.specs.Prelude.{Result, Ok}
use mathlib.Core.Path.{◌≡◌, refl, sym, ap, ◌∙◌}
use lib.IntN.{ℤ, pos}
use mir.Syntax.{w32}
use mir.Val.{to_z, of_z, SFits}
use mir.Facts.{to_z-of_z}
use Rattle.refusal.specs.declared.Refusal.{Refusal}
use Rattle.wire_command.specs.declared.Command.{Command}
use Rattle.wire_command.specs.declared.Command.TheVariants.{Response, Update, Watch, Other}
use Rattle.wire_command.proofs.CommandLaws.{made, by-response, by-update, by-watch, by-other}
use Rattle.wire_command.proofs.by_type.Goals as goal

-- equal bits are equal integers
same : {a b : ℤ} → SFits w32 a → of_z w32 a ≡ of_z w32 b → to_z w32 (of_z w32 b) ≡ b → a ≡ b
same h e g = sym (to_z-of_z {w = w32} h) ∙ ap (to_z w32) e ∙ g

pub returns-then-t-eq74 : goal.returns-then-t-eq74
returns-then-t-eq74 c =
    made {f = Response} (λ x y z r e. e) (pos 74) _ _ _ c.command.ensures c.find_message.ensures
    ∙ by-response _ _ (same c.ranges.t c.if-t-eq74.true refl)

pub returns-then-t-eq75 : goal.returns-then-t-eq75
returns-then-t-eq75 c =
    made {f = Update} (λ x y z r e. e) (pos 75) _ _ _ c.command-then-t-eq75.ensures c.find_message-then-t-eq75.ensures
    ∙ by-update _ _ (same c.ranges.t c.if-t-eq75.true refl)

pub returns-then-t-eq77 : goal.returns-then-t-eq77
returns-then-t-eq77 c =
    made {f = Watch} (λ x y z r e. e) (pos 77) _ _ _ c.command-then-t-eq77.ensures c.find_message-then-t-eq77.ensures
    ∙ by-watch _ _ (same c.ranges.t c.if-t-eq77.true refl)

pub returns : goal.returns
returns c =
    let s = c in
    let f : ℤ → Result Command Refusal = λ z. Ok (Other z) in
    ap f (to_z-of_z {w = w32} s.ranges.t)
    ∙ by-other s.args.t s.args.s.now (λ e. c.if-t-eq74.false (ap (of_z w32) e)) (λ e. c.if-t-eq75.false (ap (of_z w32) e))
    (λ e. c.if-t-eq77.false (ap (of_z w32) e))
