-- `buckets_overlap` meets its contract. The invariant: the ranges before `at` are marked, and no two share a value (`Marked`).
-- The measure is how many ranges are left. Assumes nothing.
use native.Mathlib.Omega.{arith}
use mathlib.Core.Path.{sym}
use Rattle.ranges_marks.proofs.RowLaws.{apart_none}
use Rattle.intake_buckets.proofs.RowLaws.{fewer, marked_start, marked-found, marked-last, marked_next}
use Rattle.intake_buckets.proofs.buckets_overlap.Goals as goal

pub loop-words-init : goal.loop-words-init
loop-words-init c = marked_start _ _ apart_none

pub slice_bounds-mark_first-end : goal.slice_bounds-mark_first-end
slice_bounds-mark_first-end c = sym c.loop-words.invariant.marks.holds.long

pub mark_first-requires : goal.mark_first-requires
mark_first-requires c = (omega (arith, c.load_row-loaded.ensures.few), c.loop-words.invariant.marks.holds.long)

pub returns-then-mark_first : goal.returns-then-mark_first
returns-then-mark_first c =
    marked-found c.load_row-loaded.ensures c.loop-words.invariant c.requires c.mark_first.ensures
    c.if-mark_first.true

pub returns-then-loaded-lt-ROW : goal.returns-then-loaded-lt-ROW
returns-then-loaded-lt-ROW c =
    marked-last c.load_row-loaded.ensures c.loop-words.invariant c.requires c.mark_first.ensures c.if-mark_first.false
    c.if-loaded-lt-ROW.true

pub loop-words-smaller : goal.loop-words-smaller
loop-words-smaller c =
    fewer c.load_row-loaded.ensures (λ e. omega (arith, c.if-loaded-lt-ROW.false))

pub loop-words-preserved : goal.loop-words-preserved
loop-words-preserved c =
    marked_next c.load_row-loaded.ensures c.loop-words.invariant c.requires c.mark_first.ensures c.if-mark_first.false
