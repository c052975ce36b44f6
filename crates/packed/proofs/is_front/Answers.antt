-- `packed::is_front` meets its contract: there is a size. Assumes nothing.
use Rattle.packed.proofs.FrontLaws.{starts-told}
use Rattle.packed.proofs.is_front.Goals as goal

pub returns : goal.returns
returns c = starts-told c.args.s.now c.front_size.ensures
