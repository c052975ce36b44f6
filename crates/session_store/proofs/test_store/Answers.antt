-- `session_store::test_store` meets its contract: a test after the other.
-- Assumes nothing.
use native.Mathlib.Omega.{arith}
use Prim.Native.Nat.{◌+◌}
use mathlib.Core.Path.{◌≡◌, sym, ap, ◌∙◌}
use mathlib.Core.Bool.{false, not}
use Rattle.session.specs.Store.{slot}
use Rattle.session.specs.Identity.{is_identity}
use Rattle.session.specs.Session.{view, any_beyond, damaged}
use Rattle.session_store.specs.Places.{QueueEnds}
use Rattle.session_store.proofs.StoreLaws.{slot_at, count-bad, position-bad, identity-bad, lists-bad, queue-bad, queue-valid, queue-ended}
use Rattle.session_store.proofs.test_store.Goals.{After-is_identity, Else-any_beyond, In_ok-size}
use Rattle.session_store.proofs.test_store.Goals as goal

-- no position is beyond the queue
within : (c : Else-any_beyond) → any_beyond 8 c.args.r.queue_count c.args.r.drain_positions ≡ false
within c = sym c.any_beyond.ensures ∙ c.if-any_beyond.false

named : (c : After-is_identity) → c.is_identity.result ≡ is_identity (slot c.args.store.now 0)
named c = c.is_identity.ensures ∙ ap is_identity (slot_at _ 0)

pub returns-then-r-gt-MAX_QUEUE : goal.returns-then-r-gt-MAX_QUEUE
returns-then-r-gt-MAX_QUEUE c = count-bad c.args.r c.args.store.now c.if-r-gt-MAX_QUEUE.true

pub returns-then-any_beyond : goal.returns-then-any_beyond
returns-then-any_beyond c =
    position-bad c.args.r c.args.store.now c.if-r-gt-MAX_QUEUE.false (sym c.any_beyond.ensures ∙ c.if-any_beyond.true)

pub returns-then-not-is_identity : goal.returns-then-not-is_identity
returns-then-not-is_identity c =
    identity-bad c.args.r c.args.store.now c.if-r-gt-MAX_QUEUE.false (within (goal.at.returns-then-not-is_identity c).Else-any_beyond)
    c.is_identity.result (named (goal.at.returns-then-not-is_identity c).After-is_identity) (ap not c.if-not-is_identity.true)

pub returns-then-not-lists_start : goal.returns-then-not-lists_start
returns-then-not-lists_start c =
    lists-bad c.args.r c.args.store.now c.if-r-gt-MAX_QUEUE.false (within (goal.at.returns-then-not-lists_start c).Else-any_beyond)
    c.is_identity.result (named (goal.at.returns-then-not-lists_start c).After-is_identity) (ap not c.if-not-is_identity.false)
    c.lists_start.result c.lists_start.ensures (ap not c.if-not-lists_start.true)

-- the queue reads, and ends behind its entries
ended : (c : In_ok-size)
    → (any_beyond 8 c.args.r.queue_count c.args.r.drain_positions ≡ false)
    → (c.is_identity.result ≡ is_identity (slot c.args.store.now 0))
    → (damaged (view c.args.r c.args.store.now) ≡ false) × QueueEnds c.args.store.now c.args.r.queue_count (6144 + c.in_ok-size.size)
ended c w n =
    let e = sym c.in_ok-size.was ∙ c.read_entries.ensures in (
      queue-valid c.args.r c.args.store.now c.if-r-gt-MAX_QUEUE.false w c.is_identity.result n (ap not c.if-not-is_identity.false)
          c.lists_start.result c.lists_start.ensures (ap not c.if-not-lists_start.false) _ e,
      queue-ended c.args.r c.args.store.now c.if-r-gt-MAX_QUEUE.false w c.is_identity.result n (ap not c.if-not-is_identity.false)
          c.lists_start.result c.lists_start.ensures (ap not c.if-not-lists_start.false) _ e c.requires,
    )

pub overflow_add-result : goal.overflow_add-result
overflow_add-result c =
    let g = goal.at.overflow_add-result c in
    record { fits = omega (arith, (ended g.In_ok-size (within g.Else-any_beyond) (named g.After-is_identity)).1.inside, c.well_formed) }

pub returns : goal.returns
returns c = let g = goal.at.returns c in ended g.In_ok-size (within g.Else-any_beyond) (named g.After-is_identity)

pub returns-in_err-size : goal.returns-in_err-size
returns-in_err-size c =
    let g = goal.at.returns-in_err-size c in
    rw c.from_residual.ensures
    (queue-bad c.args.r c.args.store.now c.if-r-gt-MAX_QUEUE.false (within g.Else-any_beyond)
    c.is_identity.result (named g.After-is_identity) (ap not c.if-not-is_identity.false)
    c.lists_start.result c.lists_start.ensures (ap not c.if-not-lists_start.false)
    (sym c.in_err-size.was ∙ c.read_entries.ensures))
