-- `attach_log::delta_in` meets its contract: the lost ids are asked before the gained records.
-- Assumes nothing.
use native.Mathlib.Omega.{arith}
use mathlib.Core.Path.{◌∙◌}
use Rattle.attach_log.proofs.FollowLaws.{in-not, in_both}
use Rattle.attach_log.proofs.delta_in.Goals as goal

pub part_in-requires : goal.part_in-requires
part_in-requires c =
    let s = c in record { s_in_bounds = (omega (arith, s.requires.s_in_bounds.0), s.requires.s_value.0); n_in_bounds = omega (arith, s.requires.s_in_bounds.1) }

pub part_in-requires-then-part_in : goal.part_in-requires-then-part_in
part_in-requires-then-part_in c =
    let s = c in record { s_in_bounds = (s.requires.s_in_bounds.0, s.requires.s_value.1); n_in_bounds = omega (arith, s.requires.s_in_bounds.1) }

pub returns-then-part_in : goal.returns-then-part_in
returns-then-part_in c = let t = c in
    let r = t in
    let a = r.args in
    in_both a.s.now a.lost a.gained a.log.now a.q r.part_in.result r.part_in.ensures
    t.if-part_in.true c.part_in-then-part_in.result
    c.part_in-then-part_in.ensures

pub returns-else-part_in : goal.returns-else-part_in
returns-else-part_in c =
    let a = c.args in
    c.if-part_in.false ∙ in-not a.s.now a.lost a.gained a.log.now a.q c.part_in.result c.part_in.ensures c.if-part_in.false
