-- `attach_log::check` meets its contract: 20 before 37, and the walk's answer is yes exactly if the log passes.
-- Assumes nothing.
use native.Mathlib.Omega.{arith}
use mathlib.Core.Bool.{true}
use mathlib.Core.Path.{◌≡◌, sym, ◌∙◌}
use Rattle.attach_entries.specs.Log.{are_deltas}
use Rattle.attach_log.proofs.FollowLaws.{log-odd, log-set, log-valid, checked-deltas, checked-log, checked-told}
use Rattle.attach_log.proofs.check.Goals.{Else-not-deltas_ok}
use Rattle.attach_log.proofs.check.Goals as goal

-- the bytes are deltas
valid : (e : Else-not-deltas_ok) → are_deltas e.args.deltas.now ≡ true
valid e = sym e.deltas_ok.ensures ∙ e.if-not-deltas_ok.false

pub returns-then-not-deltas_ok : goal.returns-then-not-deltas_ok
returns-then-not-deltas_ok c = let d = c in
    let a = d.args in
    checked-deltas a.deltas.now a.log.now (sym d.deltas_ok.ensures ∙ c.if-not-deltas_ok.true)

pub returns-then-log-ne0 : goal.returns-then-log-ne0
returns-then-log-ne0 c = let e = c in
    let a = e.args in
    checked-log a.deltas.now a.log.now (valid (goal.at.returns-then-log-ne0 c).Else-not-deltas_ok) (log-odd a.log.now c.if-log-ne0.true)

pub returns-then-not-filling_clear : goal.returns-then-not-filling_clear
returns-then-not-filling_clear c = let f = c in
    let e = f in
    let a = e.args in
    checked-log a.deltas.now a.log.now (valid (goal.at.returns-then-not-filling_clear c).Else-not-deltas_ok)
    (log-set a.log.now (sym f.filling_clear.ensures ∙ c.if-not-filling_clear.true))

pub log_follows-requires : goal.log_follows-requires
log_follows-requires c = valid (goal.at.log_follows-requires c).Else-not-deltas_ok

pub returns : goal.returns
returns c = let x = c in
    let f = x in
    let e = f in
    let a = e.args in
    checked-told a.deltas.now a.log.now (valid (goal.at.returns c).Else-not-deltas_ok)
    (log-valid a.log.now (omega arith) (sym f.filling_clear.ensures ∙ x.if-not-filling_clear.false))
    c.log_follows.result
    c.log_follows.ensures
