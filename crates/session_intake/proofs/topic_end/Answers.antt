-- `session_intake::topic_end` meets its contract: the topic's length stands at the front of the store.
-- Assumes nothing.
use Rattle.session_intake.proofs.IntakeLaws.{topic-end}
use Rattle.session_intake.proofs.topic_end.Goals as goal

pub returns : goal.returns
returns c =
    topic-end c.args.store.now c.requires.1 c.read_u16.result c.read_u16.ensures c.requires.0
