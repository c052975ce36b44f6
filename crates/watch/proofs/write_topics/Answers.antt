-- `watch::write_topics` meets its contract: topics that rise are their set; any others are sorted.
-- Assumes nothing.
use native.Mathlib.Omega.{arith}
use mathlib.Core.Path.{ap}
use Rattle.watch_topics.specs.Packed.{size_topics}
use Rattle.watch_topics.proofs.SetLaws.{sorted-rising}
use Rattle.watch_window.specs.Lists.{named_in}
use Rattle.watch.proofs.ListLaws.{none-rises, list_all, sorted_all, sorted-list}
use Rattle.watch.proofs.write_topics.Goals as goal

pub write_all-requires : goal.write_all-requires
write_all-requires c =
    let p = c.args.p.now in
    record { p_value = c.requires.p_value; p_in_bounds = omega (arith, c.requires.p_in_bounds, ap size_topics (sorted-rising (named_in 2 1 p) (c.requires.sorted_of.added c.if-order.true))) }

pub returns-then-order : goal.returns-then-order
returns-then-order c =
    sorted_all _ _ _ _ _ (c.requires.sorted_of.added c.if-order.true) c.write_all.ensures

pub write_list-requires : goal.write_list-requires
write_list-requires c =
    record { set_value = none-rises; sorted_of = c.requires.sorted_of; p_value = c.requires.p_value; p_in_bounds = omega (arith, c.requires.p_in_bounds, ap size_topics (list_all c.args.p.now)) }

pub returns-then-p-lt-FEW_BYTES : goal.returns-then-p-lt-FEW_BYTES
returns-then-p-lt-FEW_BYTES c = sorted-list _ _ _ _ _ c.write_list.ensures

pub write_sorted-requires : goal.write_sorted-requires
write_sorted-requires c =
    record { p_value = c.requires.p_value; p_in_bounds = c.requires.p_in_bounds; p_in_bounds_2 = c.requires.p_in_bounds_2 }

pub returns : goal.returns
returns c = c.write_sorted.ensures
