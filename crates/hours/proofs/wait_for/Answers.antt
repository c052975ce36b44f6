-- `hours::wait_for` meets its contract: each return is a case of `wait_for`.
-- Assumes nothing.
use Rattle.hours.proofs.SpanLaws.{wait-there, wait-week, wait-soon}
use Rattle.hours.proofs.wait_for.Goals as goal

pub returns-then-moment-window : goal.returns-then-moment-window
returns-then-moment-window c = wait-soon c.args.window c.args.moment c.if-moment-window.true

pub returns-then-moment-window-2 : goal.returns-then-moment-window-2
returns-then-moment-window-2 c =
    wait-there c.args.window c.args.moment c.if-moment-window.false c.if-moment-window-2.true

pub returns-else-moment-window-2 : goal.returns-else-moment-window-2
returns-else-moment-window-2 c =
    wait-week c.args.window c.args.moment c.if-moment-window.false c.if-moment-window-2.false
