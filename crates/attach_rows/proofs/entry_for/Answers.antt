-- `log_rows::entry_for` meets its contract. Assumes nothing.
use Rattle.attach_rows.proofs.entry_for.Goals as goal

pub returns-then-attach : goal.returns-then-attach
returns-then-attach c = rw c.if-attach.true

pub returns-else-attach : goal.returns-else-attach
returns-else-attach c = rw c.if-attach.false
