-- `log_rows::mark_entries` meets its contract. The invariant: the entries that are left and the marks so far say what all
-- entries say (`Marking`). Assumes nothing.
use Prim.Native.Nat.{◌+◌, ◌-◌, ◌*◌}
use native.Mathlib.Omega.{arith}
use mathlib.Core.Path.{◌≡◌, refl, ◌∙◌}
use lib.ListN.{length}
use Rattle.attach_rows.proofs.MarkLaws.{marking-next, marking-all, marking-end}
use Rattle.attach_rows.proofs.mark_entries.Goals as goal

pub loop-i-init : goal.loop-i-init
loop-i-init c = (refl, marking-all c.args.attach c.args.log.now c.args.at c.args.n c.args.ids.now c.args.marks.now)

pub mark_entry-requires : goal.mark_entry-requires
mark_entry-requires c = (c.requires.ids_value.0, omega (arith, c.requires.ids_value.1, c.loop-i.invariant.0))

pub loop-i-preserved : goal.loop-i-preserved
loop-i-preserved c =
    let a = c.args in (
      c.mark_entry.auto.marks ∙ c.loop-i.invariant.0,
      marking-next a.attach a.log.now a.at a.n a.ids.now a.marks.now c.loop-i.i c.loop-i.marks c.mark_entry.new.marks c.entry_at.result
          c.loop-i.invariant.1 c.loop-i-test.true c.entry_at.ensures c.mark_entry.ensures,
    )

pub shape_of-marks : goal.shape_of-marks
shape_of-marks c = c.loop-i.invariant.0

pub returns : goal.returns
returns c =
    let a = c.args in
    marking-end a.attach a.log.now a.at a.n a.ids.now a.marks.now (a.at + 9 * c.loop-i.i) (a.n - c.loop-i.i) c.loop-i.marks
    c.loop-i.invariant.1 (omega arith)
