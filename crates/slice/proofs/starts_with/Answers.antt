-- `starts_with` meets its contract: a shorter part starts with nothing longer; else the fronts are compared.
-- Assumes nothing.
use native.Mathlib.Omega.{arith}
use mathlib.Core.Path.{sym, ◌∙◌}
use borrow.Author.Tests.{lt-leb}
use lib.ListN.{length}
use lib.Seq.{length-take-le}
use Rattle.slice.specs.Same.{starts_with}
use Rattle.slice.proofs.SameLaws.{starts-short}
use Rattle.slice.proofs.starts_with.Goals as goal

pub returns-else-n-s : goal.returns-else-n-s
returns-else-n-s c =
    let a = c.args in
    lt-leb (length a.prefix.now) (length a.s.now) (omega arith) ∙ sym (starts-short a.prefix.now a.s.now (omega arith))

pub slice_bounds-same-end : goal.slice_bounds-same-end
slice_bounds-same-end c =
    let a = c.args in
    sym (length-take-le (length a.prefix.now) a.s.now (omega arith))

pub returns-then-n-s : goal.returns-then-n-s
unfolding starts_with
returns-then-n-s c = c.same.ensures
