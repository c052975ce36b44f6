-- `packed::read_front` meets its contract: the size tells whether there is one, the count is read from the bytes. Assumes nothing.
use Rattle.packed.proofs.FrontLaws.{size-some, front-none, front-some}
use Rattle.packed.proofs.read_front.Goals as goal

pub returns-then-size-eq0 : goal.returns-then-size-eq0
returns-then-size-eq0 c = front-none c.args.s.now c.front_size-size.ensures c.if-size-eq0.true

pub returns : goal.returns
returns c =
    let e = c in front-some e.args.s.now e.front_size-size.ensures e.if-size-eq0.false _ c.read_u16-segments.ensures

pub read_u16-segments-requires : goal.read_u16-segments-requires
read_u16-segments-requires c = (size-some c.args.s.now c.front_size-size.ensures c.if-size-eq0.false).room
