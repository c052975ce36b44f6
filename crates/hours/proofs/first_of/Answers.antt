-- `hours::first_of` meets its contract. The invariant: the first second so far, with that of the terms that are left,
-- is the whole.
-- Assumes nothing.
use Prim.Native.Nat.{◌+◌, ◌-◌, ◌*◌, min}
use native.Mathlib.Omega.{arith}
use mathlib.Core.List.{List}
use mathlib.Core.Path.{◌≡◌, sym, ap, ◌∙◌}
use lib.ListN.{drop}
use Rattle.hours.specs.Steps.{first_in, first_of}
use Rattle.hours.specs.Contract.{largest, spans_of}
use Rattle.hours.specs.declared.Span.{Span}
use Rattle.hours.proofs.SpanLaws.{span-none, span-all, span-first, of-first, of_none, first-largest}
use Rattle.hours.proofs.first_of.Goals as goal

pub loop-i-init : goal.loop-i-init
loop-i-init c =
    let a = c.args in
    let ws = spans_of a.windows (drop (4 + 16 * a.terms) a.s.now) in
    let e = ap (λ (xs : List Span). first_of xs ws a.second) (span-all a.s.now 4 a.terms) in
    (omega (arith, sym e, first-largest (spans_of a.terms (drop 4 a.s.now)) ws a.second), omega arith)

pub loop-i-preserved : goal.loop-i-preserved
loop-i-preserved c =
    let a = c.args in
    let x = c.span_at.result in
    let xs = spans_of (a.terms - (c.loop-i.i + 1)) (drop (4 + 16 * (c.loop-i.i + 1)) a.s.now) in
    let ws = spans_of a.windows (drop (4 + 16 * a.terms) a.s.now) in
    let e : first_of (spans_of (a.terms - c.loop-i.i) (drop (4 + 16 * c.loop-i.i) a.s.now)) ws a.second
    ≡ min (first_in x ws a.second) (first_of xs ws a.second) =
    ap (λ (ys : List Span). first_of ys ws a.second)
    (span-first a.s.now 4 a.terms c.loop-i.i x c.loop-i-test.true c.span_at.ensures) ∙ of-first x xs a.second ws in
    (omega (arith, c.loop-i.invariant.0, c.min-first.ensures, c.first_in.ensures), omega (arith, c.min-first.ensures))

pub returns : goal.returns
returns c =
    let a = c.args in
    let ws = spans_of a.windows (drop (4 + 16 * a.terms) a.s.now) in
    let e : first_of (spans_of (a.terms - c.loop-i.i) (drop (4 + 16 * c.loop-i.i) a.s.now)) ws a.second ≡ largest =
    ap (λ (xs : List Span). first_of xs ws a.second) (span-none a.s.now 4 a.terms c.loop-i.i (omega arith))
    ∙ of_none ws a.second in
    omega (arith, c.loop-i.invariant.0)
