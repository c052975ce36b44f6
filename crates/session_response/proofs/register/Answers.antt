-- `session_response::register` meets its contract: without a replay by `register_alone`, or else the two slots are written one after the other.
-- Assumes nothing.
use native.Mathlib.Omega.{arith}
use mathlib.Core.Path.{refl, sym, ◌∙◌}
use Rattle.session_response.proofs.ReplayLaws.{buffer-epoch, replayed-reads}
use Rattle.session_response.proofs.CallLaws.{registered-out}
use Rattle.session_response.proofs.register.Goals as goal

pub register_alone-requires : goal.register_alone-requires
register_alone-requires c =
    record { min_store_in_bounds = c.requires.min_store_in_bounds.0; scratch = c.requires.scratch; value = sym c.if-count-eq0.true ∙ c.requires.count_value }

pub load_last-len-requires : goal.load_last-len-requires
load_last-len-requires c =
    let st = c.args.store.now in record { min_store_in_bounds = (c.requires.min_store_in_bounds.0, replayed-reads c.args.r st c.args.count c.requires.count_value c.requires.min_store_in_bounds.1); n_nonzero = (omega (arith, c.if-count-eq0.false), c.requires.last_begins); last_len = refl }

pub returns : goal.returns
returns c =
    registered-out c.args.r c.args.store.now c.registered_with-next.result c.write_slot.new.store c.write_slot-2.new.store
    c.args.b.now c.load_last-len.new.last c.read_u64-epoch.result c.args.count c.load_last-len.result
    c.requires.count_value c.load_last-len.ensures (buffer-epoch c.load_last-len.new.last c.read_u64-epoch.result c.read_u64-epoch.ensures)
    c.write_slot.ensures c.write_slot-2.ensures c.registered_with-next.ensures

pub returns-then-count-eq0 : goal.returns-then-count-eq0
returns-then-count-eq0 c = c.register_alone.ensures
