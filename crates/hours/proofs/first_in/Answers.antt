-- `hours::first_in` meets its contract: each return is a case of `first_in`.
-- Assumes nothing.
use mathlib.Core.Path.{◌∙◌}
use lib.ListN.{drop}
use Rattle.hours.specs.Contract.{spans_of}
use Rattle.hours.proofs.SpanLaws.{first-late, first-there, first-not, first-in}
use Rattle.hours.proofs.first_in.Goals as goal

pub returns-then-term-low : goal.returns-then-term-low
returns-then-term-low c =
    let a = c.args in
    let ws = spans_of a.n (drop a.at a.s.now) in
    first-late c.max-low.result a.term.end ws c.if-term-low.true ∙ first-in a.term ws a.second c.max-low.result c.max-low.ensures

pub returns-then-wait-term : goal.returns-then-wait-term
returns-then-wait-term c =
    let a = c.args in
    let ws = spans_of a.n (drop a.at a.s.now) in
    first-there c.max-low.result a.term.end ws c.if-term-low.false c.least_wait-wait.result c.least_wait-wait.ensures c.if-wait-term.true
    ∙ first-in a.term ws a.second c.max-low.result c.max-low.ensures

pub returns-else-wait-term : goal.returns-else-wait-term
returns-else-wait-term c =
    let a = c.args in
    let ws = spans_of a.n (drop a.at a.s.now) in
    first-not c.max-low.result a.term.end ws c.if-term-low.false c.least_wait-wait.result c.least_wait-wait.ensures c.if-wait-term.false
    ∙ first-in a.term ws a.second c.max-low.result c.max-low.ensures
