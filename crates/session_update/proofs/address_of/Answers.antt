-- `session_update::address_of` meets its contract: 23, then 24.
-- Assumes nothing.
use Rattle.session_update.proofs.UpdateLaws.{address-link, address-consumer, address-here}
use Rattle.session_update.proofs.address_of.Goals as goal

pub returns-then-incarnation-expected : goal.returns-then-incarnation-expected
returns-then-incarnation-expected c =
    address-link c.args.r c.args.incarnation c.args.consumer_id c.if-incarnation-expected.true

pub returns-then-consumer_id-r : goal.returns-then-consumer_id-r
returns-then-consumer_id-r c =
    address-consumer c.args.r c.args.incarnation c.args.consumer_id c.if-incarnation-expected.false c.if-consumer_id-r.true

pub returns : goal.returns
returns c =
    address-here c.args.r c.args.incarnation c.args.consumer_id c.if-incarnation-expected.false c.if-consumer_id-r.false
