-- `attach_log::size_first` meets its contract. Assumes nothing.
use native.Mathlib.Omega.{arith}
use mathlib.Core.Bool.{Bool}
use mathlib.Core.Path.{sym, ap, ◌∙◌}
use lib.ListN.{drop}
use Rattle.attach_log.specs.Steps.{size_first}
use Rattle.attach_log.proofs.PartLaws.{size-record}
use Rattle.attach_log.proofs.size_first.Goals as goal

pub size_at-requires : goal.size_at-requires
size_at-requires c =
    let s = c in
    let a = s.args in omega (arith, s.requires, size-record a.attach (drop a.p a.s.now) c.if-attach.true)

pub returns-then-attach : goal.returns-then-attach
returns-then-attach c =
    let t = c in
    let a = t.args in
    c.size_at.ensures ∙ ap (λ (b : Bool). size_first b (drop a.p a.s.now)) (sym t.if-attach.true)
