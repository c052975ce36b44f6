-- `session_update::scanned` meets its contract: 3 to 7, or what the message says.
-- Assumes nothing.
use mathlib.Core.Path.{refl, sym, ap, ◌∙◌}
use mathlib.Core.Logic.{inl}
use Rattle.wire_readers.specs.Messages.{update_of}
use Rattle.intake_content.specs.Content.{Content}
use Rattle.session.specs.Session.{view}
use Rattle.session.specs.Tails.{update_content}
use Rattle.session.specs.Calls.{effect_of}
use Rattle.session_update.specs.Address.{address_of}
use Rattle.session_update.proofs.UpdateLaws.{told, identity-valid, update-epoch, update-content, message-bad, message-valid}
use Rattle.session_update.proofs.UpdateLaws.{turned-away, let-in}
use Rattle.session_update.proofs.scanned.Goals as goal

pub take_assignment-intake-requires : goal.take_assignment-intake-requires
take_assignment-intake-requires c =
    record { min_store_in_bounds = (c.requires.min_store_in_bounds.0, identity-valid c.args.r c.args.store.now c.requires.store_tested.0); assignment_field = (inl refl, c.requires.b_len); epoch_value = update-epoch c.args.message.now _ c.read_update-head.ensures.epoch }

pub returns-in-Err : goal.returns-in-Err
returns-in-Err c =
    told c.args.store.now c.args.out.now c.refuse.ensures
    (message-bad c.args.r c.args.store.now c.args.message.now c.args.incarnation c.args.out.now c.in-Err.x
    (sym c.first_fault.ensures ∙ c.in-Err.is))

pub returns-in-Err-address_of : goal.returns-in-Err-address_of
returns-in-Err-address_of c =
    let u = update_of c.args.message.now in
    told c.args.store.now c.args.out.now c.refuse-in-Err-address_of.ensures
    (message-valid c.args.r c.args.store.now c.args.message.now c.args.incarnation c.args.out.now
    (sym c.first_fault.ensures ∙ c.in-Ok.is)
    (turned-away c.args.r c.args.store.now c.args.out.now c.args.incarnation u _
    (c.address_of.ensures ∙ ap (address_of c.args.r c.args.incarnation) c.read_update-head.ensures.id) c.in-Err-address_of.x c.in-Err-address_of.is))

pub returns-in-Ok-address_of : goal.returns-in-Ok-address_of
returns-in-Ok-address_of c =
    let u = update_of c.args.message.now in
    message-valid c.args.r c.args.store.now c.args.message.now c.args.incarnation c.args.out.now
    (sym c.first_fault.ensures ∙ c.in-Ok.is)
    (let-in c.args.r c.args.store.now c.args.out.now c.args.incarnation u _
    (c.address_of.ensures ∙ ap (address_of c.args.r c.args.incarnation) c.read_update-head.ensures.id) c.in-Ok-address_of.is
    (c.received.ensures
    ∙ ap (λ (y : Content). effect_of (update_content (view c.args.r c.args.store.now) y) c.args.store.now c.args.out.now)
    (sym (update-content c.args.message.now c.args.store.now c.take_assignment-intake.ensures.is))))
