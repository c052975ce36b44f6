-- `session_open::write_identity` meets its contract: seven writes, each right before the last.
-- Assumes nothing.
use native.Mathlib.Omega.{arith}
use mathlib.Core.Path.{◌≡◌, ap}
use lib.ListN.{length, set, length-set}
use Rattle.session_open.proofs.OpenLaws.{written}
use Rattle.session_open.proofs.write_identity.Goals.{After-kind_byte}
use Rattle.session_open.proofs.write_identity.Goals as goal

stored : (c : After-kind_byte)
    → length (set c.put_bytes-3.new.out 6 c.kind_byte.result)
    ≡ length c.put_bytes-3.new.out
stored c = length-set c.put_bytes-3.new.out 6 c.kind_byte.result

pub write_u16-requires : goal.write_u16-requires
write_u16-requires c = omega (arith, stored (goal.at.write_u16-requires c).After-kind_byte)

pub write_u16-requires-2 : goal.write_u16-requires-2
write_u16-requires-2 c = omega (arith, stored (goal.at.write_u16-requires-2 c).After-kind_byte)

pub write_u16-requires-3 : goal.write_u16-requires-3
write_u16-requires-3 c = omega (arith, stored (goal.at.write_u16-requires-3 c).After-kind_byte)

pub shape_of-store : goal.shape_of-store
shape_of-store c =
    omega (arith, stored (goal.at.shape_of-store c).After-kind_byte)

pub returns : goal.returns
returns c =
    let third = c in
    let second = third in
    let first = second in
    let kind = first in
    let topic = kind in
    let subscription = topic in
    let name = subscription in
    let s = name in
    written s.args.store.now ((record {
      topic = s.args.topic.now;
      subscription = s.args.subscription.now;
      consumer_name = s.args.name.now;
      consumer_type = s.args.kind;
    })) _ _ _ _ _ _ _ s.requires.name_len_bound s.requires.min_store_in_bounds
    (record {
      name = name.put_bytes.ensures;
      subscription = subscription.put_bytes-2.ensures;
      topic = topic.put_bytes-3.ensures;
      kind = ap (set topic.put_bytes-3.new.out 6) kind.kind_byte.ensures;
      name-length = first.write_u16.ensures;
      subscription-length = second.write_u16-2.ensures;
      topic-length = third.write_u16-3.ensures;
    })
