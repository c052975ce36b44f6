-- `topics::seek` meets its contract: the topics before the place low stand before t (`Sought`). The measure is what is left.
-- Assumes nothing.
use Prim.Native.Nat.{◌+◌, ◌≤◌}
use native.Mathlib.Omega.{arith}
use mathlib.Core.Path.{refl, sym, ◌∙◌}
use lib.ListN.{length}
use Rattle.slice.proofs.PartLaws.{Bytes}
use Rattle.watch_topics.proofs.WalkLaws.{entry-two, entry-fits}
use Rattle.watch_topics.proofs.SeekLaws.{between-within, between-whole, seek-end, seek-less, seek-equal, seek-greater}
use Rattle.watch_topics.proofs.seek.Goals as goal

pub loop-low-init : goal.loop-low-init
loop-low-init c =
    record { within = omega arith; whole = c.requires.0; rises = c.requires.1; alike = refl }

pub skip-at-requires : goal.skip-at-requires
skip-at-requires c = (c.loop-low.invariant.within, c.loop-low.invariant.whole)

pub find_between-requires : goal.find_between-requires
find_between-requires c =
    let s = c.args.s.now in record { low_le_high = (between-within s _ _ ((let it : (Bytes c.args.s.now) = λ i. (c.shared_slice_known-1.given i).fits in it)) c.loop-low.invariant.whole c.skip-at.ensures, c.skip-at.ensures.inside); s_value = between-whole s _ _ ((let it : (Bytes c.args.s.now) = λ i. (c.shared_slice_known-1.given i).fits in it)) c.loop-low.invariant.whole c.skip-at.ensures }

pub returns-then-s-at : goal.returns-then-s-at
returns-then-s-at c =
    let a = c.args in
    c.find_between.ensures
    ∙ seek-end a.s.now a.t.now _ _ ((let it : (Bytes c.args.s.now) = λ i. (c.shared_slice_known-1.given i).fits in it)) c.loop-low.invariant c.skip-at.ensures (omega (arith, c.if-s-at.true))

pub read_u16-n-requires : goal.read_u16-n-requires
read_u16-n-requires c =
    let s = c.args.s.now in
    entry-two s c.skip-at.result (omega (arith, c.if-s-at.false)) c.skip-at.ensures.whole

pub overflow_add-from : goal.overflow_add-from
overflow_add-from c = omega (
  arith,
  (let it : (c.skip-at.result + 2 + c.read_u16-n.result ≤ length c.args.s.now) = entry-fits c.args.s.now c.skip-at.result c.read_u16-n.result (omega (arith, c.if-s-at.false))
      c.read_u16-n.ensures c.skip-at.ensures.whole in it),
)

pub overflow_add-end : goal.overflow_add-end
overflow_add-end c = omega (
  arith,
  (let it : (c.skip-at.result + 2 + c.read_u16-n.result ≤ length c.args.s.now) = entry-fits c.args.s.now c.skip-at.result c.read_u16-n.result (omega (arith, c.if-s-at.false))
      c.read_u16-n.ensures c.skip-at.ensures.whole in it),
)

pub slice_bounds-compare-end : goal.slice_bounds-compare-end
slice_bounds-compare-end c = omega (
  arith,
  (let it : (c.skip-at.result + 2 + c.read_u16-n.result ≤ length c.args.s.now) = entry-fits c.args.s.now c.skip-at.result c.read_u16-n.result (omega (arith, c.if-s-at.false))
      c.read_u16-n.ensures c.skip-at.ensures.whole in it),
)

pub find_between-requires-in-Less : goal.find_between-requires-in-Less
find_between-requires-in-Less c =
    let s = c.args.s.now in record { low_le_high = (between-within s _ _ ((let it : (Bytes c.args.s.now) = λ i. (c.shared_slice_known-1.given i).fits in it)) c.loop-low.invariant.whole c.skip-at.ensures, c.skip-at.ensures.inside); s_value = between-whole s _ _ ((let it : (Bytes c.args.s.now) = λ i. (c.shared_slice_known-1.given i).fits in it)) c.loop-low.invariant.whole c.skip-at.ensures }

pub returns-in-Less : goal.returns-in-Less
returns-in-Less c =
    let a = c.args in
    c.find_between-in-Less.ensures
    ∙ seek-less a.s.now a.t.now _ _ ((let it : (Bytes c.args.s.now) = λ i. (c.shared_slice_known-1.given i).fits in it)) c.loop-low.invariant c.skip-at.ensures c.read_u16-n.result
    (omega (arith, c.if-s-at.false)) c.read_u16-n.ensures _ (sym c.in-Less.is ∙ c.compare.ensures) refl

pub returns-in-Equal : goal.returns-in-Equal
returns-in-Equal c =
    let a = c.args in
    seek-equal a.s.now a.t.now _ _ ((let it : (Bytes c.args.s.now) = λ i. (c.shared_slice_known-1.given i).fits in it)) c.loop-low.invariant c.skip-at.ensures c.read_u16-n.result
    (omega (arith, c.if-s-at.false)) c.read_u16-n.ensures _ (sym c.in-Equal.is ∙ c.compare.ensures) refl

pub loop-low-smaller : goal.loop-low-smaller
loop-low-smaller c =
    let k = c in
    let l = k in
    let s = l.args.s.now in
    omega (
      arith,
      (let it : (c.skip-at.result + 2 + c.read_u16-n.result ≤ length c.args.s.now) = entry-fits c.args.s.now c.skip-at.result c.read_u16-n.result (omega (arith, c.if-s-at.false))
          c.read_u16-n.ensures c.skip-at.ensures.whole in it),
      between-within s _ _ ((let it : (Bytes l.args.s.now) = λ i. (l.shared_slice_known-1.given i).fits in it)) l.loop-low.invariant.whole k.skip-at.ensures,
    )

pub loop-low-preserved : goal.loop-low-preserved
loop-low-preserved c =
    let a = c.args in
    seek-greater a.s.now a.t.now _ _ ((let it : (Bytes c.args.s.now) = λ i. (c.shared_slice_known-1.given i).fits in it)) c.loop-low.invariant c.skip-at.ensures c.read_u16-n.result
    (omega (arith, c.if-s-at.false)) c.read_u16-n.ensures _ (sym c.in-Greater.is ∙ c.compare.ensures) refl
