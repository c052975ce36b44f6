-- `packed::is_whole` meets its contract: records without buckets at once, or else the size, and whether bytes are left over. Assumes nothing.
use mathlib.Core.Path.{sym, ap, ◌∙◌}
use mathlib.Core.Bool.{not}
use borrow.Author.Tests.{eq-eqb}
use Rattle.packed.proofs.FrontLaws.{whole-not, whole_is}
use Rattle.packed.proofs.is_whole.Goals as goal

pub returns-then-all_bare : goal.returns-then-all_bare
returns-then-all_bare c = sym (c.all_bare.ensures c.if-all_bare.true)

pub returns-then-size-ne0 : goal.returns-then-size-ne0
returns-then-size-ne0 c = whole_is c.args.s.now c.front_size-size.ensures c.if-size-ne0.true

pub returns-else-size-ne0 : goal.returns-else-size-ne0
returns-else-size-ne0 c =
    ap not (eq-eqb c.front_size-size.result 0 c.if-size-ne0.false) ∙ whole-not c.args.s.now c.front_size-size.ensures c.if-size-ne0.false
