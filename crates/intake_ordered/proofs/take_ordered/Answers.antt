-- `take_ordered` meets its contract: an epoch and segments, their records put in order, then the count and the epoch written before them.
-- Assumes nothing.
use native.Mathlib.Omega.{arith}
use mathlib.Core.Path.{sym, ◌∙◌}
use Rattle.intake_ordered.proofs.TakeLaws.{segments-few, segments-ready, ordered-taken}
use Rattle.intake_ordered.proofs.take_ordered.Goals as goal

pub take_segments-requires : goal.take_segments-requires
take_segments-requires c =
    record { parent_value = (sym c.is_parent.ensures ∙ c.if-not-is_parent.false, c.requires.parent_value); b_len = c.requires.b_len }

pub order_records-requires : goal.order_records-requires
order_records-requires c = let s = segments-ready c.requires.b_len (c.in_ok-count.ensures) in record { b_len = s.0; rises_from = s.1 }

pub overflow_cast-count : goal.overflow_cast-count
overflow_cast-count c =
    let h = segments-few c.requires.b_len (c.in_ok-count.ensures) in
    omega arith

pub returns : goal.returns
returns c =
    ordered-taken c.requires.b_len (c.in_ok-count.ensures) (c.order_records.ensures c.if-not-order_records.false) _ _
    c.in_ok-epoch.ensures c.write_u16.ensures c.write_u64.ensures
