-- `session_store::lists_start` meets its contract.
-- Assumes nothing.
use mathlib.Core.Path.{ap, ◌∙◌}
use mathlib.Core.Bool.{not}
use Rattle.session_store.proofs.StoreLaws.{lists-free, baseline-bad, list-decides}
use Rattle.session_store.proofs.lists_start.Goals as goal

pub returns-then-not-registered : goal.returns-then-not-registered
returns-then-not-registered c =
    ap not c.if-not-registered.true ∙ lists-free c.args.registered c.args.store.now (ap not c.if-not-registered.true)

pub returns-then-starts : goal.returns-then-starts
returns-then-starts c =
    list-decides c.args.registered c.args.store.now (ap not c.if-not-registered.false) c.starts.result c.starts.ensures
    (ap not c.if-starts.true) c.starts-then-starts.result c.starts-then-starts.ensures

pub returns-else-starts : goal.returns-else-starts
returns-else-starts c =
    c.if-starts.false
    ∙ baseline-bad c.args.registered c.args.store.now (ap not c.if-not-registered.false) c.starts.result c.starts.ensures
    (ap not c.if-starts.false)
