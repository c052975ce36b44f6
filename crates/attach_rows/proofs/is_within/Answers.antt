-- `log_rows::is_within` meets its contract. Assumes nothing.
use mathlib.Core.Path.{refl}
use borrow.Author.Tests.{leb-false}
use Rattle.attach_rows.proofs.MarkLaws.{lacks-none, lacks-low, lacks-high}
use Rattle.attach_rows.proofs.is_within.Goals as goal
use Rattle.attach_rows.proofs.is_within.Goals.{then-n-eq0-via-then-n-eq0, then-n-eq0-via-else-n-eq0+then-x-ids}

pub returns-then-n-eq0 : goal.returns-then-n-eq0
returns-then-n-eq0 c =
    elim c.then-n-eq0.branch [
      | then-n-eq0-via-then-n-eq0 w ↦ λ e. lacks-none c.args.x c.args.ids.now w.if-n-eq0.true
      | then-n-eq0-via-else-n-eq0+then-x-ids w ↦ λ e. lacks-low c.args.x c.args.ids.now c.requires w.if-x-ids.true
    ]

pub returns : goal.returns
returns c = λ e. lacks-high c.args.x c.args.ids.now c.requires _ refl (leb-false _ _ e)
