-- `number_end` meets its contract: the place behind the number that `number_at` tells. Assumes nothing.
use mathlib.Core.Path.{subst}
use Rattle.wire_ordered.specs.Ordered.{NumberAtIs}
use Rattle.wire_ordered.proofs.OrderedLaws.{number-some, none_above}
use Rattle.wire_ordered.proofs.number_end.Goals as goal

pub returns-in-Some : goal.returns-in-Some
returns-in-Some c = λ h. number-some (subst (NumberAtIs c.args.f c.args.s.now c.args.at) c.in-Some.is c.number_at.ensures)

pub returns-in-None : goal.returns-in-None
returns-in-None c = none_above
