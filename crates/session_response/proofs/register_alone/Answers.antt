-- `session_response::register_alone` meets its contract: the list is written to two slots, one after the other.
-- Assumes nothing.
use native.Mathlib.Omega.{arith}
use Rattle.session_response.proofs.ReplayLaws.{buffer-epoch, last_none}
use Rattle.session_response.proofs.CallLaws.{registered-out}
use Rattle.session_response.proofs.register_alone.Goals as goal

pub returns : goal.returns
returns c =
    registered-out c.args.r c.args.store.now c.registered_with-next.result c.write_slot.new.store c.write_slot-2.new.store
    c.args.b.now c.args.b.now c.read_u64-epoch.result 0 c.args.size c.requires.value
    (last_none c.args.store.now c.args.b.now c.args.size c.requires.scratch)
    (buffer-epoch c.args.b.now c.read_u64-epoch.result c.read_u64-epoch.ensures)
    c.write_slot.ensures c.write_slot-2.ensures c.registered_with-next.ensures

pub read_u64-epoch-requires : goal.read_u64-epoch-requires
read_u64-epoch-requires c = omega (arith, c.requires.scratch.long)
