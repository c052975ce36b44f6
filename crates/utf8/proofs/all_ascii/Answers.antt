-- `all_ascii` meets its contract. The invariant: the bytes before the place are of the first row. The measure is what is left.
-- Assumes nothing.
use Prim.Native.Nat.{◌+◌, ◌-◌}
use native.Mathlib.Omega.{arith}
use mathlib.Core.Path.{◌≡◌}
use mathlib.Core.Bool.{false≢true}
use lib.ListN.{length}
use Rattle.utf8.proofs.TextLaws.{ascii-none, ascii-join}
use Rattle.utf8.proofs.all_ascii.Goals as goal

pub returns-then-s-lt16 : goal.returns-then-s-lt16
returns-then-s-lt16 c = λ e. absurd (false≢true e)

pub loop-at-init : goal.loop-at-init
loop-at-init c = (omega arith, ascii-none c.args.s.now 0)

pub overflow_sub-s : goal.overflow_sub-s
overflow_sub-s c = omega (arith, c.loop-at.invariant.0)

pub block_ascii-requires : goal.block_ascii-requires
block_ascii-requires c = omega (arith, c.loop-at.invariant.0)

pub returns-then-not-block_ascii : goal.returns-then-not-block_ascii
returns-then-not-block_ascii c = λ e. absurd (false≢true e)

pub overflow_add-at : goal.overflow_add-at
overflow_add-at c = omega (arith, c.loop-at.invariant.0)

pub loop-at-smaller : goal.loop-at-smaller
loop-at-smaller c = omega (arith, c.loop-at.invariant.0)

pub loop-at-preserved : goal.loop-at-preserved
loop-at-preserved c =
    let l = c in
    let s = l.args.s.now in
    let at = l.loop-at.at in (
      omega (arith, l.loop-at.invariant.0),
      ascii-join s 0 at at (at + 16) (omega arith) l.loop-at.invariant.1 (c.block_ascii.ensures (c.if-not-block_ascii.false)),
    )

pub returns : goal.returns
returns c = λ e.
    let l = c in
    let s = l.args.s.now in
    let n : length s - 16 + 16 ≡ length s = omega arith in
    ascii-join s 0 l.loop-at.at (length s - 16) (length s) (omega arith) l.loop-at.invariant.1 (rw n at (c.block_ascii-2.ensures e))
