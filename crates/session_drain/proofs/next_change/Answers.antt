-- `session_drain::next_change` meets its contract: what is still to be found is found among the entries that are left.
-- Assumes nothing.
use Prim.Native.Nat.{ℕ, ◌+◌, ◌-◌, ◌≤◌}
use native.Mathlib.Omega.{arith}
use mathlib.Core.Path.{◌≡◌, sym, ap, subst}
use mathlib.Core.Bool.{not}
use lib.ListN.{length}
use Rattle.session.specs.Store.{list_in, queue_in}
use Rattle.session.specs.Drain.{next_change}
use Rattle.session_drain.specs.Entries.{found_at, Reaches}
use Rattle.session_drain.proofs.DrainLaws.{rest, walk_begins, next-length, next-lies, next-inside, ended, stops, goes_on}
use Rattle.session_drain.proofs.next_change.Goals.{After-read_u16-size}
use Rattle.session_drain.proofs.next_change.Goals as goal

-- the entry lies in the store
inside : (c : After-read_u16-size)
    → c.loop-i.at + 2 + c.read_u16-size.result ≤ length c.args.store.now
inside c =
    let k = c in
    next-inside _ _ _ k.loop-i.invariant.reaches k.requires.entries k.loop-i-test.true c.read_u16-size.result c.read_u16-size.ensures

pub loop-i-init : goal.loop-i-init
loop-i-init c =
    let s = c in
    let e = c.skip_to-first.ensures.1 in
    record {
      low = omega (arith, e, s.requires.from_le_n);
      reaches = c.skip_to-first.ensures.0;
      found =
          subst (λ (m : ℕ). next_change 0 (list_in s.args.store.now 1) (queue_in s.args.store.now s.args.n) s.args.from ≡ rest s.args.store.now (s.args.n - m) m)
          (sym e) (walk_begins s.args.store.now s.args.n s.args.from s.requires.from_le_n);
    }

pub read_u16-size-requires : goal.read_u16-size-requires
read_u16-size-requires c = next-length _ _ _ c.loop-i.invariant.reaches c.requires.entries c.loop-i-test.true

pub overflow_add-place : goal.overflow_add-place
overflow_add-place c =
    let k = c in
    record { fits = omega (arith, next-length _ _ _ k.loop-i.invariant.reaches k.requires.entries k.loop-i-test.true, k.well_formed) }

pub overflow_add-end : goal.overflow_add-end
overflow_add-end c = record { fits = omega (arith, inside (goal.at.overflow_add-end c).After-read_u16-size, c.well_formed) }

pub slice_bounds-same_assignment-start : goal.slice_bounds-same_assignment-start
slice_bounds-same_assignment-start c = c.loop-i.invariant.reaches.rises

pub slice_bounds-same_assignment-end : goal.slice_bounds-same_assignment-end
slice_bounds-same_assignment-end c = let w = c.loop-i.invariant.reaches in omega (arith, w.rises, w.lies.inside)

pub slice_bounds-same_assignment-end-in-loop-i : goal.slice_bounds-same_assignment-end-in-loop-i
slice_bounds-same_assignment-end-in-loop-i c = inside (goal.at.slice_bounds-same_assignment-end-in-loop-i c).After-read_u16-size

pub same_assignment-requires : goal.same_assignment-requires
same_assignment-requires c =
    let z = c in
    let k = z in
    let w = k.loop-i.invariant.reaches in
    record {
      x_value = w.lies.starts;
      y_value = (next-lies _ _ _ w k.requires.entries k.loop-i-test.true z.read_u16-size.result z.read_u16-size.ensures).starts;
    }

pub returns-then-not-same_assignment : goal.returns-then-not-same_assignment
returns-then-not-same_assignment c =
    let m = c in
    let z = m in
    let k = z in
    let w = k.loop-i.invariant in
    record {
      reaches = (w.reaches, w.low);
      from_value =
          stops _ _ _ _ w k.requires.entries k.loop-i-test.true z.read_u16-size.result z.read_u16-size.ensures
          m.same_assignment.result m.same_assignment.ensures (ap not c.if-not-same_assignment.true);
    }

pub loop-i-preserved : goal.loop-i-preserved
loop-i-preserved c =
    let m = c in
    let z = m in
    let k = z in
    goes_on _ _ _ _ k.loop-i.invariant k.requires.entries k.loop-i-test.true z.read_u16-size.result z.read_u16-size.ensures
    m.same_assignment.result m.same_assignment.ensures (ap not c.if-not-same_assignment.false)

pub returns : goal.returns
returns c =
    let w = c.loop-i.invariant in
    let e : c.loop-i.i ≡ c.args.n = omega (arith, w.low, c.loop-i-test.false) in
    record {
      reaches = (subst (λ (m : ℕ). Reaches c.args.store.now (record { i = m; at = c.loop-i.at; before = c.loop-i.before; until = c.loop-i.until })) e w.reaches, omega arith);
      from_value =
          subst (λ (m : ℕ). next_change 0 (list_in c.args.store.now 1) (queue_in c.args.store.now c.args.n) c.args.from ≡ found_at c.args.store.now c.args.n m)
          e (ended _ _ _ _ w c.loop-i-test.false);
    }
