-- `packed::word_rises` meets its contract: two differences of two numbers each. Assumes nothing.
use Prim.Native.Nat.{ℕ, ◌+◌, ◌-◌, ◌*◌, ◌/◌, ◌%◌, ◌<◌}
use mathlib.Core.Path.{sym, subst}
use lib.Bits.{bit_and}
use borrow.Author.Rules.{rules}
use Rattle.packed.specs.Words.{start1, start2, WordRises}
use Rattle.packed.proofs.WordLaws.{word-rises}
use Rattle.packed.proofs.word_rises.Goals as goal

pub returns : goal.returns
returns c =
    let x = c.args.x in
    let l = c.args.low % 4294967296 in
    let starts = start1 x * 4294967296 + start2 x in
    let small : x < 18446744073709551616 = search rules in
    subst (λ (e : ℕ). WordRises x l (bit_and (e + 72057589759737855 - starts) (starts + 72057594054705152 - (l * 4294967296 + e / 4294967296))))
    (sym c.tops-ends.ensures) (word-rises x l small c.requires)
