-- `session_response::first_stale` meets its contract: the entries that are left decide, from the epoch before them on.
-- Assumes nothing.
use Prim.Native.Nat.{ℕ, ◌+◌, ◌-◌, ◌<◌}
use native.Mathlib.Omega.{arith}
use mathlib.Core.Path.{◌≡◌, subst}
use Rattle.session_response.proofs.ReplayLaws.{Epochs, epochs-start, length-room, epoch-room, next-room, stale-end, stale-here, stale-next}
use Rattle.session_response.proofs.first_stale.Goals.{In-loop}
use Rattle.session_response.proofs.first_stale.Goals as goal

-- an entry is left
low : (c : In-loop) → 0 < c.args.n - c.loop.counter
low c = omega (arith, c.loop-test.true)

pub loop-init : goal.loop-init
loop-init c =
    subst (λ (k : ℕ). Epochs c.args.store.now c.args.epoch c.args.n c.args.epoch 6144 6144 k)
    (let it : (c.args.n ≡ c.args.n - 0) = omega arith in it)
    (epochs-start c.args.store.now c.args.epoch c.args.n c.requires.0 c.requires.1)

pub read_u16-size-requires : goal.read_u16-size-requires
read_u16-size-requires c = length-room _ _ _ _ _ _ _ c.loop.invariant (low (goal.at.read_u16-size-requires c).In-loop)

pub overflow_add-place : goal.overflow_add-place
overflow_add-place c =
    record { fits = omega (arith, length-room _ _ _ _ _ _ _ c.loop.invariant (low (goal.at.overflow_add-place c).In-loop), c.well_formed) }

pub read_u64-got-requires : goal.read_u64-got-requires
read_u64-got-requires c = epoch-room _ _ _ _ _ _ _ c.loop.invariant (low (goal.at.read_u64-got-requires c).In-loop)

pub returns-then-got-prev : goal.returns-then-got-prev
returns-then-got-prev c =
    stale-here _ _ _ _ _ _ _ c.loop.invariant (low (goal.at.returns-then-got-prev c).In-loop) c.read_u16-size.result c.read_u16-size.ensures
    c.read_u64-got.result c.read_u64-got.ensures c.if-got-prev.true

pub overflow_add-at : goal.overflow_add-at
overflow_add-at c =
    record {
      fits = omega (arith, next-room _ _ _ _ _ _ _ c.loop.invariant (low (goal.at.overflow_add-at c).In-loop) c.read_u16-size.result c.read_u16-size.ensures, c.well_formed);
    }

pub loop-preserved : goal.loop-preserved
loop-preserved c =
    subst
    (λ (k : ℕ). Epochs c.args.store.now c.args.epoch c.args.n c.read_u64-got.result c.loop.at (c.loop.at + 2 + c.read_u16-size.result) k)
    (let it : (c.args.n - c.loop.counter - 1 ≡ c.args.n - (c.loop.counter + 1)) = omega arith in it)
    (stale-next _ _ _ _ _ _ _ c.loop.invariant (low (goal.at.loop-preserved c).In-loop) c.read_u16-size.result c.read_u16-size.ensures
    c.read_u64-got.result c.read_u64-got.ensures c.if-got-prev.false)

pub returns : goal.returns
returns c = stale-end _ _ _ _ _ _ _ c.loop.invariant (omega (arith, c.loop-test.false))
