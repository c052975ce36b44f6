-- `key_range_of` meets its contract, with what `magnitude_of` gives. Assumes nothing.
use mathlib.Core.Path.{◌≡◌}
use borrow.Author.Rules.{rules}
use mir.Syntax.{w32}
use mir.Val.{to_z, of_z}
use Rattle.intake_scan.proofs.key_range_of.Goals as goal

pub returns : goal.returns
returns c =
    let r = c.args.r in
    let a : to_z w32 (of_z w32 r.start) ≡ r.start = search rules in
    let b : to_z w32 (of_z w32 r.end) ≡ r.end = search rules in
    rw (c.magnitude_of.ensures, c.magnitude_of-2.ensures, a, b)
