-- `packed_queue::read_entries` meets its contract: the entries that are left decide.
-- Assumes nothing.
use Prim.Native.Nat.{◌+◌, ◌-◌}
use native.Mathlib.Omega.{arith}
use mathlib.Core.Path.{◌≡◌, sym, subst, ◌∙◌}
use mathlib.Core.Bool.{true}
use lib.ListN.{drop, length-drop}
use Rattle.packed_queue.specs.Entries.{starts_entry, entry_end}
use Rattle.packed_queue.proofs.WalkLaws.{Walk, walk_start, walk-bad, walk-on, walk-done, size_none, size-some, entry-inside}
use Rattle.packed_queue.proofs.read_entries.Goals as goal
use Rattle.packed_queue.proofs.read_entries.Goals.{Else-size-eq0}

-- the entry is valid, and its size is where it ends
valid : (c : Else-size-eq0) → (starts_entry (drop c.loop.at c.args.s.now) ≡ true)
    × (c.entry_size-size.result ≡ entry_end (drop c.loop.at c.args.s.now))
valid c =
    let e = c.entry_size-size.ensures in
    let p = size-some (drop c.loop.at c.args.s.now) (λ z. c.if-size-eq0.false (e ∙ z)) in
    (p.0, e ∙ p.1)

pub loop-init : goal.loop-init
loop-init c =
    let n = c.args.n in
    let k : n ≡ n - 0 = omega arith in
    subst (λ m. Walk c.args.s.now n 0 m) k (walk_start c.args.s.now n)

pub entry_size-size-requires : goal.entry_size-size-requires
entry_size-size-requires c = c.loop.invariant.inside

pub returns-then-size-eq0 : goal.returns-then-size-eq0
returns-then-size-eq0 c =
    let a = c.args in
    walk-bad a.s.now a.n c.loop.at (c.args.n - c.loop.counter) c.loop.invariant (omega (arith, c.loop-test.true))
    (size_none (drop c.loop.at a.s.now) (sym c.entry_size-size.ensures ∙ c.if-size-eq0.true))

pub overflow_add-at : goal.overflow_add-at
overflow_add-at c =
    omega (arith, (valid (goal.at.overflow_add-at c).Else-size-eq0).1, entry-inside (drop c.loop.at c.args.s.now) (valid (goal.at.overflow_add-at c).Else-size-eq0).0, length-drop c.loop.at c.args.s.now, c.loop.invariant.inside, c.well_formed)

pub loop-preserved : goal.loop-preserved
loop-preserved c =
    let a = c.args in
    let k : a.n - c.loop.counter - 1 ≡ a.n - (c.loop.counter + 1) = omega arith in
    subst (λ m. Walk a.s.now a.n (c.loop.at + c.entry_size-size.result) m) k
    (subst (λ n. Walk a.s.now a.n (c.loop.at + n) (a.n - c.loop.counter - 1)) (sym (valid (goal.at.loop-preserved c).Else-size-eq0).1)
    (walk-on a.s.now a.n c.loop.at (c.args.n - c.loop.counter) c.loop.invariant (omega (arith, c.loop-test.true)) (valid (goal.at.loop-preserved c).Else-size-eq0).0))

pub returns : goal.returns
returns c =
    let a = c.args in
    walk-done a.s.now a.n c.loop.at (c.args.n - c.loop.counter) c.loop.invariant (omega (arith, c.loop-test.false))
