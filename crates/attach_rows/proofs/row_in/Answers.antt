-- `log_rows::row_in` meets its contract: marks that are all clear before say of each id whether it has its entry.
-- Assumes nothing.
use Prim.Native.Nat.{◌≤◌}
use native.Mathlib.Omega.{arith}
use mathlib.Core.Path.{◌≡◌, sym, ◌∙◌}
use lib.ListN.{length, drop}
use lib.Seq.{length-take-le}
use borrow.Author.Rules.{rules}
use Rattle.attach_entries.specs.Log.{entries_in}
use Rattle.attach_rows.specs.Rows.{entry_for}
use Rattle.attach_rows.proofs.MarkLaws.{marked_all}
use Rattle.attach_rows.proofs.row_in.Goals.{After-mark_entries}
use Rattle.attach_rows.proofs.row_in.Goals as goal

-- there is a mark for each id
fits : (k : After-mark_entries)
    → length k.args.ids.now ≤ length k.mark_entries.new.marks
fits k =
    let e : length k.mark_entries.new.marks ≡ 4096 = k.mark_entries.auto.marks in
    omega (arith, k.requires.ids_value.1)

pub slice_bounds-all_set-end : goal.slice_bounds-all_set-end
slice_bounds-all_set-end c = sym (length-take-le _ _ (fits (goal.at.slice_bounds-all_set-end c).After-mark_entries))

pub returns : goal.returns
returns c =
    let k = c in
    let a = k.args in
    c.all_set.ensures
    ∙ marked_all (entry_for a.attach) (entries_in a.n (drop a.at a.log.now)) a.ids.now 4096 _ (fits (goal.at.returns c).After-mark_entries) k.mark_entries.ensures
