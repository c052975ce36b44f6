-- `watch::update` meets its contract: each return is a case of `for_watch`.
-- Assumes nothing.
use Rattle.std.specs.Prelude.{Option, Some}
use mathlib.Core.List.{List}
use Prim.Native.Nat.{ℕ}
use mathlib.Core.Path.{◌≡◌, sym, ap, ◌∙◌, subst}
use Rattle.wire_readers.specs.declared.Event.{Event}
use Rattle.wire_readers.specs.Places.{EventIs}
use Rattle.wire_readers.specs.Messages.{watch_update_of}
use Rattle.watch.specs.Watch.{refuse}
use Rattle.watch.proofs.UpdateLaws.{id_other, is-snapshot, is-diff, is_none}
use Rattle.watch.proofs.SettleLaws.{tell, tell-as}
use Rattle.watch.proofs.update.Goals as goal

-- the event of a message that was read, as the match has it
event-is : (m : List ℕ) (v e : Option Event) → v ≡ e → EventIs m (watch_update_of m).event v → EventIs m (watch_update_of m).event e
event-is m v e q h = subst (EventIs _ _) q h

pub returns-then-got-id : goal.returns-then-got-id
returns-then-got-id c = tell _ _ _ _ (id_other _ _ _ _ _ _ c.read_watch_update-head.ensures.id c.if-got-id.true)

pub slice_bounds-snapshot-count : goal.slice_bounds-snapshot-count
slice_bounds-snapshot-count c = (event-is _ _ _ (c.in-Some.is ∙ ap Some c.in-Snapshot.is) c.read_watch_update-head.ensures.event).0

pub slice_bounds-snapshot-start : goal.slice_bounds-snapshot-start
slice_bounds-snapshot-start c = (event-is _ _ _ (c.in-Some.is ∙ ap Some c.in-Snapshot.is) c.read_watch_update-head.ensures.event).0

pub slice_bounds-diff-count : goal.slice_bounds-diff-count
slice_bounds-diff-count c = (event-is _ _ _ (c.in-Some.is ∙ ap Some c.in-Diff.is) c.read_watch_update-head.ensures.event).0

pub slice_bounds-diff-start : goal.slice_bounds-diff-start
slice_bounds-diff-start c = (event-is _ _ _ (c.in-Some.is ∙ ap Some c.in-Diff.is) c.read_watch_update-head.ensures.event).0

pub returns-in-Snapshot : goal.returns-in-Snapshot
returns-in-Snapshot c =
    let i = c.if-got-id.false in
    let e = event-is _ _ _ (c.in-Some.is ∙ ap Some c.in-Snapshot.is) c.read_watch_update-head.ensures.event in
    let s = c.snapshot.ensures in
    tell-as _ _ _ _ _ (is-snapshot _ _ _ _ _ _ c.read_watch_update-head.ensures.id i _ e) s

pub returns-in-Diff : goal.returns-in-Diff
returns-in-Diff c =
    let i = c.if-got-id.false in
    let e = event-is _ _ _ (c.in-Some.is ∙ ap Some c.in-Diff.is) c.read_watch_update-head.ensures.event in
    let d = c.diff.ensures in
    tell-as _ _ _ _ _ (is-diff _ _ _ _ _ _ c.read_watch_update-head.ensures.id i _ e) d

pub returns-in_default : goal.returns-in_default
returns-in_default c =
    let h = c.read_watch_update-head.ensures in
    let e = event-is _ _ _ c.in_default.is c.read_watch_update-head.ensures.event in
    let o = is_none _ _ _ _ _ _ h.id c.if-got-id.false e _ h.error in
    tell _ _ _ _ (o ∙ ap (refuse _ _) (sym c.no_event.ensures))
