-- `attach_log::rows_in` meets its contract. The invariant: the ids that are left decide (`Left`). The measure is how many are
-- left. Assumes nothing.
use Prim.Native.Nat.{◌≤◌}
use native.Mathlib.Omega.{arith}
use mathlib.Core.Path.{◌≡◌, refl, sym, ◌∙◌}
use lib.ListN.{length, take}
use lib.Seq.{length-take-le}
use Rattle.attach_log.proofs.PartLaws.{left-start, left-none, row-sorted, row-missing, row-further}
use Rattle.attach_log.proofs.rows_in.Goals.{After-load_row-row}
use Rattle.attach_log.proofs.rows_in.Goals as goal

-- the row has as many places as before
full : (c : After-load_row-row) → length c.load_row-row.new.ids ≡ 4096
full c = c.load_row-row.auto.ids ∙ c.loop-left.invariant.0

row-length : (c : After-load_row-row) → let r = c.load_row-row in length (take r.result.count r.new.ids) ≤ 4096
row-length c =
    let r = c.load_row-row in
    let h = r.ensures.0.held in
    let e = length-take-le r.result.count r.new.ids h in omega (arith, e, h, full c)

pub loop-left-init : goal.loop-left-init
loop-left-init c =
    let s = c in
    let a = s.args in
    (refl, left-start a.attach a.s.now a.at a.n a.log.now a.q a.m s.requires.s_in_bounds.0 s.requires.s_in_bounds.1)

pub slice_bounds-load_row-end : goal.slice_bounds-load_row-end
slice_bounds-load_row-end c = sym c.loop-left.invariant.0

pub load_row-row-requires : goal.load_row-row-requires
load_row-row-requires c = let i = c.loop-left.invariant in record { s_in_bounds = i.1.inside; ids_nonzero = omega (arith, i.0) }

pub slice_bounds-ids-end : goal.slice_bounds-ids-end
slice_bounds-ids-end c = c.load_row-row.ensures.0.held

pub slice_bounds-row_in-end : goal.slice_bounds-row_in-end
slice_bounds-row_in-end c = sym (length-take-le _ _ c.load_row-row.ensures.0.held)

pub row_in-requires : goal.row_in-requires
row_in-requires c =
    let k = c in
    let l = k in
    let s = l in
    let a = s.args in
    let f = row-sorted a.attach a.s.now a.at a.n a.log.now a.q a.m l.loop-left.p l.loop-left.left l.loop-left.invariant.1
    k.load_row-row.result k.load_row-row.new.ids k.load_row-row.ensures in
    record { n_in_bounds = s.requires.m_in_bounds; ids_value = (f, row-length (goal.at.row_in-requires c).After-load_row-row) }

pub returns-then-not-row_in : goal.returns-then-not-row_in
returns-then-not-row_in c =
    let r = c in
    let k = r in
    let l = k in
    let a = l.args in
    row-missing a.attach a.s.now a.at a.n a.log.now a.q a.m l.loop-left.p l.loop-left.left l.loop-left.invariant.1
    k.load_row-row.result k.load_row-row.new.ids k.load_row-row.ensures (sym r.row_in.ensures ∙ c.if-not-row_in.true)

pub overflow_sub-left : goal.overflow_sub-left
overflow_sub-left c = c.load_row-row.ensures.0.few

pub loop-left-smaller : goal.loop-left-smaller
loop-left-smaller c =
    let k = c in
    let t = k.loop-left-test.true in
    let e = k.load_row-row.ensures in omega (arith, t, e.1 t, e.0.few)

pub loop-left-preserved : goal.loop-left-preserved
loop-left-preserved c =
    let r = c in
    let k = r in
    let l = k in
    let a = l.args in (
      full (goal.at.loop-left-preserved c).After-load_row-row,
      row-further a.attach a.s.now a.at a.n a.log.now a.q a.m l.loop-left.p l.loop-left.left l.loop-left.invariant.1
          k.load_row-row.result k.load_row-row.new.ids k.load_row-row.ensures (sym r.row_in.ensures ∙ c.if-not-row_in.false),
    )

pub returns : goal.returns
returns c =
    let l = c in
    let a = l.args in
    left-none a.attach a.s.now a.at a.n a.log.now a.q a.m l.loop-left.p l.loop-left.left l.loop-left.invariant.1 c.loop-left-test.false
