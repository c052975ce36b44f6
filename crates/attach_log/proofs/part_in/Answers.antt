-- `attach_log::part_in` meets its contract. The invariant: the ids that are left decide (`Left`). The measure is how many are
-- left. Assumes nothing.
use native.Mathlib.Omega.{arith}
use mathlib.Core.Path.{sym, ◌∙◌}
use lib.ListN.{drop}
use Rattle.attach_log.proofs.PartLaws.{size-least-first, left-start, left-inside, left-entry, left-none}
use Rattle.attach_log.proofs.part_in.Goals as goal

pub loop-left-init : goal.loop-left-init
loop-left-init c =
    let s = c in
    let a = s.args in
    (omega arith, left-start a.attach a.s.now a.at a.n a.log.now a.q a.n s.requires.s_in_bounds.0 s.requires.s_in_bounds.1)

pub read_u64-id-requires : goal.read_u64-id-requires
read_u64-id-requires c =
    let l = c in
    let a = l.args in
    let i = left-inside a.attach a.s.now a.at a.n a.log.now a.q a.n l.loop-left.p l.loop-left.left l.loop-left.invariant.1
    c.loop-left-test.true in
    omega (arith, i, size-least-first a.attach (drop l.loop-left.p a.s.now))

pub is_entry-requires : goal.is_entry-requires
is_entry-requires c =
    let t = c in
    let l = t in
    let s = l in omega (arith, t.loop-left-test.true, l.loop-left.invariant.0, s.requires.n_in_bounds)

pub rows_in-requires : goal.rows_in-requires
rows_in-requires c =
    let l = c in
    let s = l in record { s_in_bounds = (l.loop-left.invariant.1.inside, l.loop-left.invariant.1.sorted); m_in_bounds = s.requires.n_in_bounds }

pub returns-then-not-is_entry : goal.returns-then-not-is_entry
returns-then-not-is_entry c = let l = c in c.rows_in.ensures ∙ sym l.loop-left.invariant.1.decides

pub size_first-p-requires : goal.size_first-p-requires
size_first-p-requires c =
    let t = c in
    let l = t in
    let a = l.args in
    left-inside a.attach a.s.now a.at a.n a.log.now a.q a.n l.loop-left.p l.loop-left.left l.loop-left.invariant.1
    t.loop-left-test.true

pub overflow_add-p : goal.overflow_add-p
overflow_add-p c =
    let t = c in
    let l = t in
    let s = l in
    let a = s.args in
    let i = left-inside a.attach a.s.now a.at a.n a.log.now a.q a.n l.loop-left.p l.loop-left.left l.loop-left.invariant.1
    t.loop-left-test.true in
    omega (arith, i, c.size_first-p.ensures, s.well_formed)

pub loop-left-preserved : goal.loop-left-preserved
loop-left-preserved c =
    let e = c in
    let i = e in
    let r = i in
    let t = r in
    let l = t in
    let a = l.args in (
      omega (arith, l.loop-left.invariant.0),
      left-entry a.attach a.s.now a.at a.n a.log.now a.q a.n l.loop-left.p l.loop-left.left l.loop-left.invariant.1
          t.loop-left-test.true r.read_u64-id.result r.read_u64-id.ensures _ (omega (arith, t.loop-left-test.true, l.loop-left.invariant.0))
          (sym i.is_entry.ensures ∙ e.if-not-is_entry.false) c.size_first-p.result c.size_first-p.ensures,
    )

pub returns : goal.returns
returns c =
    let l = c in
    let a = l.args in
    left-none a.attach a.s.now a.at a.n a.log.now a.q a.n l.loop-left.p l.loop-left.left l.loop-left.invariant.1 c.loop-left-test.false
