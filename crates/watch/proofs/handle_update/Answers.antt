-- `watch::handle_update` meets its contract: each return is a case of `handle_update`.
-- Assumes nothing.
use Rattle.std.proofs.lemmas.Result.{err_from_is_err_and}
use mathlib.Core.Bool.{true}
use mathlib.Core.Path.{◌≡◌, sym, ◌∙◌}
use lib.Seq.{length-take-le}
use lib.ListN.{take}
use Rattle.watch_topics.specs.Packed.{is_set}
use Rattle.watch.proofs.UpdateLaws.{set-over, set-bad, checked, told-by}
use Rattle.watch.proofs.handle_update.Goals as goal

pub returns-then-buffer-used : goal.returns-then-buffer-used
returns-then-buffer-used c = sym (set-over _ _ _ _ _ c.if-buffer-used.true)

pub slice_bounds-is_set-end-2 : goal.slice_bounds-is_set-end-2
slice_bounds-is_set-end-2 c = sym (length-take-le _ _ c.if-buffer-used.false)

pub returns-then-not-is_set : goal.returns-then-not-is_set
returns-then-not-is_set c = sym (set-bad _ _ _ _ _ (sym c.is_set.ensures ∙ c.if-not-is_set.true))

pub update-requires : goal.update-requires
update-requires c = record { used_in_bounds = c.if-buffer-used.false; buffer_value = (let it : (let a = c.args in is_set (take a.used a.buffer.now) ≡ true) = sym c.is_set.ensures ∙ c.if-not-is_set.false in it) }

pub returns-in_err-first_fault : goal.returns-in_err-first_fault
returns-in_err-first_fault c =
    let e = sym c.in_err-first_fault.was ∙ c.first_fault.ensures in
    let r = err_from_is_err_and c.from_residual.result c.from_residual.ensures.1 in
    rw (r.1, r.2) (sym (checked _ _ _ _ _ c.if-buffer-used.false (let it : (let a = c.args in is_set (take a.used a.buffer.now) ≡ true) = sym c.is_set.ensures ∙ c.if-not-is_set.false in it) _ e))

pub returns : goal.returns
returns c =
    let e = sym c.in_ok-first_fault.was ∙ c.first_fault.ensures in
    let u = c.update.ensures in
    told-by _ _ _ _ _ (checked _ _ _ _ _ c.if-buffer-used.false (let it : (let a = c.args in is_set (take a.used a.buffer.now) ≡ true) = sym c.is_set.ensures ∙ c.if-not-is_set.false in it) _ e) u
