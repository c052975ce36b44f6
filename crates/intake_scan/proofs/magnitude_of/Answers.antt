-- `magnitude_of` meets its contract. Assumes nothing.
use mathlib.Core.Path.{◌≡◌}
use borrow.Author.Rules.{rules}
use mir.Syntax.{w32}
use mir.Val.{to_z, of_z}
use Rattle.intake_scan.proofs.BucketLaws.{magnitude-negative, magnitude-fits, magnitude-is}
use Rattle.intake_scan.proofs.magnitude_of.Goals as goal

pub overflow_cast-result : goal.overflow_cast-result
overflow_cast-result c =
    let v = c.args.v in
    let a : to_z w32 (of_z w32 v) ≡ v = search rules in
    rw a (magnitude-fits v (rw a at c.if-v-lt0.false) c.ranges.v)

pub returns-then-v-lt0 : goal.returns-then-v-lt0
returns-then-v-lt0 c =
    let v = c.args.v in
    let a : to_z w32 (of_z w32 v) ≡ v = search rules in
    magnitude-negative v (rw a at c.if-v-lt0.true)

pub returns-else-v-lt0 : goal.returns-else-v-lt0
returns-else-v-lt0 c =
    let v = c.args.v in
    let a : to_z w32 (of_z w32 v) ≡ v = search rules in
    rw a (magnitude-is v (rw a at c.if-v-lt0.false))
