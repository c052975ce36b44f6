-- `watch::write_snapshot` meets its contract: the set's bytes are copied behind the kind.
-- Assumes nothing.
use Prim.Native.Nat.{◌+◌, ◌≤◌}
use native.Mathlib.Omega.{arith}
use mathlib.Core.Path.{sym, ◌∙◌}
use lib.Seq.{length-take-le}
use lib.ListN.{length, length-take, length-set}
use Rattle.watch_topics.specs.Topics.{sorted}
use Rattle.watch_topics.proofs.PackedLaws.{length-encode}
use Rattle.watch_window.specs.Lists.{named_in}
use Rattle.watch.specs.Watch.{snapshot_change}
use Rattle.watch.proofs.WriteLaws.{snapshot-written}
use Rattle.watch.proofs.write_snapshot.Goals as goal

pub write_topics-n-requires : goal.write_topics-n-requires
write_topics-n-requires c = record { sorted_of = c.requires.sorted_of; p_value = c.requires.p_value; p_in_bounds = c.requires.p_in_bounds; p_in_bounds_2 = omega (arith, c.requires.p_in_bounds_2) }

pub slice_bounds-put_bytes-end : goal.slice_bounds-put_bytes-end
slice_bounds-put_bytes-end c = (let it : (c.write_topics-n.result ≤ length c.write_topics-n.new.buffer) = omega (arith, c.write_topics-n.ensures.size, c.write_topics-n.auto.buffer, c.requires.p_in_bounds) in it)

pub slice_bounds-put_bytes-end-2 : goal.slice_bounds-put_bytes-end-2
slice_bounds-put_bytes-end-2 c = sym (length-take-le _ _ (let it : (c.write_topics-n.result ≤ length c.write_topics-n.new.buffer) = omega (arith, c.write_topics-n.ensures.size, c.write_topics-n.auto.buffer, c.requires.p_in_bounds) in it))

pub put_bytes-requires : goal.put_bytes-requires
put_bytes-requires c =
    rw length-take (omega (arith, c.write_topics-n.ensures.size, c.write_topics-n.auto.spare, c.requires.p_in_bounds_2))

pub shape_of-out : goal.shape_of-out
shape_of-out c =
    length-set c.put_bytes.new.out 0 0
    ∙ c.put_bytes.auto.out
    ∙ c.write_topics-n.auto.spare

pub returns : goal.returns
unfolding snapshot_change
returns c =
    let t = c.write_topics-n.ensures in
    let e = t.size ∙ sym (length-encode (sorted (named_in 2 1 c.args.p.now))) in
    let r : 1 + c.write_topics-n.result ≤ length c.write_topics-n.new.spare =
    omega (arith, t.size, c.write_topics-n.auto.spare, c.requires.p_in_bounds_2) in
    (t.set, snapshot-written _ _ _ _ _ _ _ e r t.rest t.set c.put_bytes.ensures, t.size)
