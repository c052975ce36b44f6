-- `session_link::begun` meets its contract.
-- Assumes nothing.
use Rattle.std.specs.Prelude.{Ok}
use native.Mathlib.Omega.{arith}
use mathlib.Core.Path.{ap}
use borrow.Author.Tests.{le-ltb, lt-ltb}
use Rattle.session.specs.declared.SessionRecord.{SessionRecord}
use Rattle.session.specs.declared.Answer.TheVariants.{Accepted}
use Rattle.session.specs.Link.{begin_of}
use Rattle.session_link.proofs.begun.Goals as goal

pub returns-then-incarnation-prev : goal.returns-then-incarnation-prev
unfolding begin_of
returns-then-incarnation-prev c =
    rw (le-ltb c.args.r.incarnation.0 c.args.incarnation.0 (omega (arith, c.if-incarnation-prev.true)))

pub returns : goal.returns
unfolding begin_of
returns c =
    rw (lt-ltb c.args.r.incarnation.0 c.args.incarnation.0 (omega (arith, c.if-incarnation-prev.false)))
    (ap (λ (next : SessionRecord). record { next = next; answer = (Ok Accepted) }) c.unregister-next.ensures)
