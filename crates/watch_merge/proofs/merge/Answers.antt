-- `topic_merge::merge` meets its contract. The invariant is `Merged` of proofs/MergeLaws; the measure is what is left of the new topics.
-- Assumes nothing.
use Prim.Native.Nat.{◌+◌, ◌≤◌}
use native.Mathlib.Omega.{arith}
use mathlib.Core.Path.{◌≡◌, refl, ap, ◌∙◌}
use lib.ListN.{length}
use Rattle.slice.proofs.PartLaws.{Bytes}
use Rattle.slice_int.specs.Put.{put}
use Rattle.watch_topics.proofs.WalkLaws.{entry-two}
use Rattle.watch_merge.proofs.MergeLaws.{merge-start, merge-down, merge-within, part-whole, part-rises, merge-next, merge-end}
use Rattle.watch_merge.proofs.MergeLaws.{new-fits, piece, piece-length, place-room, write-room}
use Rattle.watch_merge.proofs.merge.Goals as goal

pub loop-at-init : goal.loop-at-init
loop-at-init c =
    let a = c.args in
    let u = c.move_up in
    merge-start a.b.now u.new.b a.new.now a.used c.requires.in_bounds u.ensures u.auto.b
    (λ i. (c.slice_known-2-1.given i).fits)
    c.requires.rises.0 c.requires.rises.1 c.requires.apart

pub read_u16-n-requires : goal.read_u16-n-requires
read_u16-n-requires c =
    let a = c.args in
    entry-two a.new.now c.loop-at.at c.loop-at-test.true c.loop-at.invariant.new-rises.whole

pub overflow_add-next : goal.overflow_add-next
overflow_add-next c = omega (arith, (let it : (c.loop-at.at + 2 + c.read_u16-n.result ≤ length c.args.new.now) = new-fits c.loop-at.invariant c.loop-at-test.true c.read_u16-n.result c.read_u16-n.ensures in it))

pub overflow_add-next-in-loop-at : goal.overflow_add-next-in-loop-at
overflow_add-next-in-loop-at c = omega (arith, (let it : (c.loop-at.at + 2 + c.read_u16-n.result ≤ length c.args.new.now) = new-fits c.loop-at.invariant c.loop-at-test.true c.read_u16-n.result c.read_u16-n.ensures in it))

pub slice_bounds-seek-count : goal.slice_bounds-seek-count
slice_bounds-seek-count c = merge-within c.loop-at.invariant

pub slice_bounds-seek-start : goal.slice_bounds-seek-start
slice_bounds-seek-start c = merge-within c.loop-at.invariant

pub slice_bounds-seek-end : goal.slice_bounds-seek-end
slice_bounds-seek-end c = (let it : (let a = c.args in
    a.used + length a.new.now ≤ length c.loop-at.b) = let v = c.loop-at.invariant in omega (arith, v.room, v.long) in it)

pub overflow_add-at : goal.overflow_add-at
overflow_add-at c = omega (arith, (let it : (c.loop-at.at + 2 + c.read_u16-n.result ≤ length c.args.new.now) = new-fits c.loop-at.invariant c.loop-at-test.true c.read_u16-n.result c.read_u16-n.ensures in it))

pub slice_bounds-seek-end-in-loop-at : goal.slice_bounds-seek-end-in-loop-at
slice_bounds-seek-end-in-loop-at c = omega (arith, (let it : (c.loop-at.at + 2 + c.read_u16-n.result ≤ length c.args.new.now) = new-fits c.loop-at.invariant c.loop-at-test.true c.read_u16-n.result c.read_u16-n.ensures in it))

pub seek-place-requires : goal.seek-place-requires
seek-place-requires c =
    let v = c.loop-at.invariant in
    (part-whole v, part-rises v)

pub move_down-requires : goal.move_down-requires
move_down-requires c =
    let l = c in (
      merge-down l.loop-at.invariant,
      omega (
        arith,
        (let it : (let a = c.args in
            c.loop-at.from + c.seek-place.result.at ≤ a.used + length a.new.now) = place-room c.loop-at.invariant c.loop-at-test.true c.read_u16-n.result c.read_u16-n.ensures c.seek-place.result c.seek-place.ensures in it),
        (let it : (let a = l.args in
            a.used + length a.new.now ≤ length l.loop-at.b) = let v = l.loop-at.invariant in omega (arith, v.room, v.long) in it),
      ),
    )

pub overflow_add-to : goal.overflow_add-to
overflow_add-to c =
    let l = c in
    omega (
      arith,
      (let it : (let a = c.args in
          c.loop-at.from + c.seek-place.result.at ≤ a.used + length a.new.now) = place-room c.loop-at.invariant c.loop-at-test.true c.read_u16-n.result c.read_u16-n.ensures c.seek-place.result c.seek-place.ensures in it),
      merge-down l.loop-at.invariant,
    )

pub overflow_add-from : goal.overflow_add-from
overflow_add-from c = omega (
  arith,
  (let it : (let a = c.args in
      c.loop-at.from + c.seek-place.result.at ≤ a.used + length a.new.now) = place-room c.loop-at.invariant c.loop-at-test.true c.read_u16-n.result c.read_u16-n.ensures c.seek-place.result c.seek-place.ensures in it),
)

pub slice_bounds-put_bytes-end : goal.slice_bounds-put_bytes-end
slice_bounds-put_bytes-end c = omega (arith, (let it : (c.loop-at.at + 2 + c.read_u16-n.result ≤ length c.args.new.now) = new-fits c.loop-at.invariant c.loop-at-test.true c.read_u16-n.result c.read_u16-n.ensures in it))

pub put_bytes-requires : goal.put_bytes-requires
put_bytes-requires c =
    let r = c in
    let l = r in
    let d = c.move_down in
    let e : length d.new.b ≡ length l.loop-at.b = d.auto.b in
    omega (
      arith,
      (let it : (let a = c.args in
          c.loop-at.to + c.seek-place.result.at + 2 + c.read_u16-n.result ≤ a.used + length a.new.now) = write-room c.loop-at.invariant c.loop-at-test.true c.read_u16-n.result c.read_u16-n.ensures c.seek-place.result c.seek-place.ensures in it),
      (let it : (let a = l.args in
          a.used + length a.new.now ≤ length l.loop-at.b) = let v = l.loop-at.invariant in omega (arith, v.room, v.long) in it),
      piece-length l.loop-at.invariant r.loop-at-test.true r.read_u16-n.result r.read_u16-n.ensures
          ((let it : (Bytes l.args.new.now) = λ i. (l.shared_slice_known-1.given i).fits in it)),
    )

pub overflow_add-to-in-loop-at : goal.overflow_add-to-in-loop-at
overflow_add-to-in-loop-at c = omega (
  arith,
  (let it : (let a = c.args in
      c.loop-at.to + c.seek-place.result.at + 2 + c.read_u16-n.result ≤ a.used + length a.new.now) = write-room c.loop-at.invariant c.loop-at-test.true c.read_u16-n.result c.read_u16-n.ensures c.seek-place.result c.seek-place.ensures in it),
)

pub overflow_add-to-in-loop-at-2 : goal.overflow_add-to-in-loop-at-2
overflow_add-to-in-loop-at-2 c = omega (
  arith,
  (let it : (let a = c.args in
      c.loop-at.to + c.seek-place.result.at + 2 + c.read_u16-n.result ≤ a.used + length a.new.now) = write-room c.loop-at.invariant c.loop-at-test.true c.read_u16-n.result c.read_u16-n.ensures c.seek-place.result c.seek-place.ensures in it),
)

pub loop-at-smaller : goal.loop-at-smaller
loop-at-smaller c =
    omega (arith, (let it : (c.loop-at.at + 2 + c.read_u16-n.result ≤ length c.args.new.now) = new-fits c.loop-at.invariant c.loop-at-test.true c.read_u16-n.result c.read_u16-n.ensures in it))

pub loop-at-preserved : goal.loop-at-preserved
loop-at-preserved c =
    let d = c.move_down in
    let w = c.put_bytes in
    let l = c.loop-at in
    let e : l.to + c.seek-place.result.at + (2 + c.read_u16-n.result) ≡ l.to + c.seek-place.result.at + 2 + c.read_u16-n.result = omega arith in
    rw e (merge-next c.loop-at.invariant c.loop-at-test.true c.read_u16-n.result c.read_u16-n.ensures c.seek-place.result c.seek-place.ensures
    d.new.b w.new.out d.ensures
    (w.ensures ∙ ap (put _ _) (piece c.loop-at.invariant c.loop-at-test.true c.read_u16-n.result c.read_u16-n.ensures ((let it : (Bytes c.args.new.now) = λ i. (c.shared_slice_known-1.given i).fits in it))))
    (w.auto.out ∙ d.auto.b ∙ c.loop-at.invariant.long))

pub shape_of-b : goal.shape_of-b
shape_of-b c =
    c.loop-at.invariant.long ∙ c.move_up.auto.b

pub returns : goal.returns
returns c =
    (refl, merge-end c.loop-at.invariant (omega arith) c.args.b.now c.requires.in_bounds c.move_up.ensures)
