-- `session_response::responded` meets its contract: a test after the other.
-- Assumes nothing.
use mathlib.Core.Path.{◌≡◌, refl, ap, ◌∙◌}
use mathlib.Core.Bool.{false, not}
use mathlib.Core.Logic.{inr}
use Rattle.wire_readers.specs.Messages.{response_of}
use Rattle.session.specs.Session.{view, damaged}
use Rattle.session_store.proofs.StoreLaws.{identity-valid}
use Rattle.session_response.proofs.CallLaws.{refused-out, given_out, call-out}
use Rattle.session_response.proofs.CallLaws.{ordered-says, message-valid, call-short, call-damaged, undamaged, call-sound}
use borrow.Author.Rules.{rules}
use Rattle.session_response.proofs.responded.Goals as goal
use Rattle.session_response.proofs.responded.Goals.{Else-not-is_sound}

sound : (c : Else-not-is_sound) → damaged (view c.args.r c.args.store.now) ≡ false
sound c =
    undamaged c.args.r c.args.store.now c.args.message.now c.args.incarnation c.if-store-lt-MIN_STORE.false
    c.is_sound.result c.is_sound.ensures (ap not c.if-not-is_sound.false)

pub returns-then-store-lt-MIN_STORE : goal.returns-then-store-lt-MIN_STORE
returns-then-store-lt-MIN_STORE c =
    call-out c.args.r c.args.store.now c.refuse.result c.args.store.now c.args.message.now c.args.incarnation
    (refused-out c.args.r c.args.store.now c.refuse.result _ _ c.refuse.ensures
    (call-short c.args.r c.args.store.now c.args.message.now c.args.incarnation c.if-store-lt-MIN_STORE.true))

pub returns-then-not-is_sound : goal.returns-then-not-is_sound
returns-then-not-is_sound c =
    call-out c.args.r c.args.store.now c.refuse-then-not-is_sound.result c.args.store.now c.args.message.now c.args.incarnation
    (refused-out c.args.r c.args.store.now c.refuse-then-not-is_sound.result _ _ c.refuse-then-not-is_sound.ensures
    (call-damaged c.args.r c.args.store.now c.args.message.now c.args.incarnation c.if-store-lt-MIN_STORE.false c.is_sound.result
    c.is_sound.ensures (ap not c.if-not-is_sound.true)))

pub take_ordered_message-requires : goal.take_ordered_message-requires
take_ordered_message-requires c =
    record {
      min_store_in_bounds = (
        c.if-store-lt-MIN_STORE.false,
        identity-valid c.args.r c.args.store.now (ap not (sound (goal.at.take_ordered_message-requires c).Else-not-is_sound)),
      );
      assignment_field = (inr refl, refl);
    }

pub answered-requires : goal.answered-requires
answered-requires c =
    record {
      min_store_in_bounds = (
        c.if-store-lt-MIN_STORE.false,
        (sound (goal.at.answered-requires c).Else-not-is_sound),
      );
      ready = c.in-Some.ensures.answers.ready;
    }

pub scanned-requires : goal.scanned-requires
scanned-requires c =
    record {
      min_store_in_bounds = (
        c.if-store-lt-MIN_STORE.false,
        (sound (goal.at.scanned-requires c).Else-not-is_sound),
      );
      b_len = search rules;
    }

pub returns-in-Some : goal.returns-in-Some
returns-in-Some c =
    call-out c.args.r c.args.store.now c.answered.result c.answered.new.store c.args.message.now c.args.incarnation
    (given_out c.args.r c.args.store.now c.answered.result c.answered.new.store _ _
    (call-sound c.args.r c.args.store.now c.args.message.now c.args.incarnation c.if-store-lt-MIN_STORE.false
    c.is_sound.result c.is_sound.ensures (ap not c.if-not-is_sound.false)
    ∙ message-valid c.args.r c.args.store.now c.args.message.now c.args.incarnation c.in-Some.ensures.valid)
    (c.answered.ensures (response_of c.args.message.now) (ordered-says c.args.store.now c.args.message.now _ _ _ c.in-Some.ensures)))

pub returns-in-None : goal.returns-in-None
returns-in-None c =
    call-out c.args.r c.args.store.now c.scanned.result c.scanned.new.store c.args.message.now c.args.incarnation
    (given_out c.args.r c.args.store.now c.scanned.result c.scanned.new.store _ _
    (call-sound c.args.r c.args.store.now c.args.message.now c.args.incarnation c.if-store-lt-MIN_STORE.false
    c.is_sound.result c.is_sound.ensures (ap not c.if-not-is_sound.false)) c.scanned.ensures)
