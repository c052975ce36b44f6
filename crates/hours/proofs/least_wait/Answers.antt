-- `hours::least_wait` meets its contract. The invariant: the least wait so far, with that for the windows that are
-- left, is the whole.
-- Assumes nothing.
use Prim.Native.Nat.{◌+◌, ◌-◌, ◌*◌, min}
use native.Mathlib.Omega.{arith}
use mathlib.Core.List.{List}
use mathlib.Core.Bool.{true}
use mathlib.Core.Path.{◌≡◌, sym, ap, ◌∙◌, subst}
use lib.ListN.{drop}
use Rattle.hours.specs.Steps.{wait_for, least_wait}
use Rattle.hours.specs.Contract.{largest, spans_of, ok_spans}
use Rattle.hours.specs.declared.Span.{Span}
use Rattle.hours.proofs.SpanLaws.{span-none, span-all, span-first, ok-first, wait-first, wait-none, least-largest}
use Rattle.hours.proofs.least_wait.Goals as goal

pub loop-i-init : goal.loop-i-init
loop-i-init c =
    let a = c.args in
    let q = span-all a.s.now a.at a.n in
    let e = ap (λ (xs : List Span). least_wait xs a.moment) q in (
      subst (λ (xs : List Span). ok_spans 604800 xs ≡ true) q c.requires.2,
      omega (arith, sym e, least-largest (spans_of a.n (drop a.at a.s.now)) a.moment),
      omega arith,
    )

pub wait_for-requires : goal.wait_for-requires
wait_for-requires c =
    let f = (ok-first 604800 c.span_at.result _
    (subst (λ (xs : List Span). ok_spans 604800 xs ≡ true)
    (span-first c.args.s.now c.args.at c.args.n c.loop-i.i c.span_at.result c.loop-i-test.true c.span_at.ensures)
    c.loop-i.invariant.0)).0 in (f.rises, f.within, c.requires.1)

pub loop-i-preserved : goal.loop-i-preserved
loop-i-preserved c =
    let a = c.args in
    let x = c.span_at.result in
    let xs = spans_of (a.n - (c.loop-i.i + 1)) (drop (a.at + 16 * (c.loop-i.i + 1)) a.s.now) in
    let q = span-first a.s.now a.at a.n c.loop-i.i x c.loop-i-test.true c.span_at.ensures in
    let e : least_wait (spans_of (a.n - c.loop-i.i) (drop (a.at + 16 * c.loop-i.i) a.s.now)) a.moment
    ≡ min (wait_for x a.moment) (least_wait xs a.moment) =
    ap (λ (ys : List Span). least_wait ys a.moment) q ∙ wait-first x xs a.moment in (
      (ok-first 604800 x xs (subst (λ (ys : List Span). ok_spans 604800 ys ≡ true) q c.loop-i.invariant.0)).1,
      omega (arith, c.loop-i.invariant.1, c.min-least.ensures, c.wait_for.ensures),
      omega (arith, c.min-least.ensures),
    )

pub returns : goal.returns
returns c =
    let a = c.args in
    let e : least_wait (spans_of (a.n - c.loop-i.i) (drop (a.at + 16 * c.loop-i.i) a.s.now)) a.moment ≡ largest =
    ap (λ (xs : List Span). least_wait xs a.moment) (span-none a.s.now a.at a.n c.loop-i.i (omega arith)) ∙ wait-none a.moment in
    omega (arith, c.loop-i.invariant.1)
