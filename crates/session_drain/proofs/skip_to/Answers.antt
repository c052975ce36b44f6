-- `session_drain::skip_to` meets its contract: each entry begins where the one before it ends.
-- Assumes nothing.
use Prim.Native.Nat.{ℕ, ◌<◌}
use native.Mathlib.Omega.{arith}
use mathlib.Core.Path.{◌≡◌, refl, subst}
use Rattle.session_drain.specs.Entries.{Reaches}
use Rattle.session_drain.proofs.DrainLaws.{reaches-first, next-length, next-inside, reaches-next}
use Rattle.session_drain.proofs.skip_to.Goals.{In-loop}
use Rattle.session_drain.proofs.skip_to.Goals as goal

-- an entry is left
low : (c : In-loop) → c.loop.counter < c.args.n
low c = omega (arith, c.loop-test.true, c.requires.i_le_n)

pub loop-init : goal.loop-init
loop-init c = reaches-first c.args.store.now c.args.n c.requires.entries

pub read_u16-size-requires : goal.read_u16-size-requires
read_u16-size-requires c = next-length _ _ _ c.loop.invariant c.requires.entries (low (goal.at.read_u16-size-requires c).In-loop)

pub overflow_add-before : goal.overflow_add-before
overflow_add-before c =
    record { fits = omega (arith, next-length _ _ _ c.loop.invariant c.requires.entries (low (goal.at.overflow_add-before c).In-loop), c.well_formed) }

pub overflow_add-until : goal.overflow_add-until
overflow_add-until c =
    record {
      fits = omega (arith, next-inside _ _ _ c.loop.invariant c.requires.entries (low (goal.at.overflow_add-until c).In-loop) c.read_u16-size.result c.read_u16-size.ensures, c.well_formed);
    }

pub loop-preserved : goal.loop-preserved
loop-preserved c =
    reaches-next _ _ _ c.loop.invariant c.requires.entries (low (goal.at.loop-preserved c).In-loop) c.read_u16-size.result c.read_u16-size.ensures

pub returns : goal.returns
returns c =
    let e : c.loop.counter ≡ c.args.i = omega (arith, c.loop.auto.counter-end, c.loop-test.false) in
    (subst (λ (m : ℕ). Reaches c.args.store.now (record { i = m; at = c.loop.at; before = c.loop.before; until = c.loop.until })) e c.loop.invariant, refl)
