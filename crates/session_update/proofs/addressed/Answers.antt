-- `session_update::addressed` meets its contract: 23 and 24, then what stands in the buffer.
-- Assumes nothing.
use mathlib.Core.Path.{sym, ap, ◌∙◌}
use Rattle.intake_content.specs.Content.{Content}
use Rattle.session.specs.Session.{view}
use Rattle.session.specs.Tails.{update_content}
use Rattle.session.specs.Calls.{effect_of}
use Rattle.session_update.specs.Address.{address_of}
use Rattle.session_update.proofs.UpdateLaws.{told, turned-away, let-in}
use Rattle.session_update.proofs.addressed.Goals as goal

pub received-requires : goal.received-requires
received-requires c =
    record { min_store_in_bounds = c.requires.min_store_in_bounds; store_tested = c.requires.store_tested; ready = c.requires.scratch }

pub returns-in-Err : goal.returns-in-Err
returns-in-Err c = λ u e q.
    told c.args.store.now c.args.out.now c.refuse.ensures
    (turned-away c.args.r c.args.store.now c.args.out.now c.args.incarnation u _
    (c.address_of.ensures ∙ ap (address_of c.args.r c.args.incarnation) e) c.in-Err.x c.in-Err.is)

pub returns-in-Ok : goal.returns-in-Ok
returns-in-Ok c = λ u e q.
    let-in c.args.r c.args.store.now c.args.out.now c.args.incarnation u _
    (c.address_of.ensures ∙ ap (address_of c.args.r c.args.incarnation) e) c.in-Ok.is
    (c.received.ensures
    ∙ ap (λ (y : Content). effect_of (update_content (view c.args.r c.args.store.now) y) c.args.store.now c.args.out.now) (sym q))
