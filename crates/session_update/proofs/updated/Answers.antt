-- `session_update::updated` meets its contract: a test after the other.
-- Assumes nothing.
use Rattle.std.specs.Prelude.{ℕ, Option}
use mathlib.Core.Path.{refl, subst}
use mathlib.Core.Logic.{inl}
use Rattle.wire_readers.specs.Messages.{update_of}
use Rattle.session_store.specs.Tests.{StoreTested}
use Rattle.session_update.proofs.UpdateLaws.{told, store-short, output-short, store-bad, call-sound}
use Rattle.session_update.proofs.UpdateLaws.{identity-valid, update-content, ordered-consumer, message-valid}
use borrow.Author.Rules.{rules}
use Rattle.session_update.proofs.updated.Goals as goal

pub returns-then-store-lt-MIN_STORE : goal.returns-then-store-lt-MIN_STORE
returns-then-store-lt-MIN_STORE c =
    told c.args.store.now c.args.out.now c.refuse.ensures
    (store-short c.args.r c.args.store.now c.args.message.now c.args.incarnation c.args.out.now
    c.if-store-lt-MIN_STORE.true)

pub returns-then-out-lt-LONGEST : goal.returns-then-out-lt-LONGEST
returns-then-out-lt-LONGEST c =
    told c.args.store.now c.args.out.now c.refuse-then-out-lt-LONGEST.ensures
    (output-short c.args.r c.args.store.now c.args.message.now c.args.incarnation c.args.out.now
    c.if-store-lt-MIN_STORE.false c.if-out-lt-LONGEST.true)

pub returns-in_default : goal.returns-in_default
returns-in_default c =
    told c.args.store.now c.args.out.now c.refuse-in_default.ensures
    (store-bad c.args.r c.args.store.now c.args.message.now c.args.incarnation c.args.out.now
    c.if-store-lt-MIN_STORE.false c.if-out-lt-LONGEST.false
    (subst (λ (x : Option ℕ). StoreTested c.args.r c.args.store.now x) c.in_default.is c.test_store.ensures))

pub take_ordered_message-requires : goal.take_ordered_message-requires
take_ordered_message-requires c =
    record { min_store_in_bounds = (c.if-store-lt-MIN_STORE.false, identity-valid c.args.r c.args.store.now c.in-Some.ensures.0); assignment_field = (inl refl, refl) }

pub addressed-requires : goal.addressed-requires
addressed-requires c =
    record { min_store_in_bounds = (c.if-store-lt-MIN_STORE.false, c.if-out-lt-LONGEST.false); store_tested = c.in-Some.ensures; scratch = c.in-Some-take_ordered_message.ensures.answers.ready }

pub scanned-requires : goal.scanned-requires
scanned-requires c =
    record { min_store_in_bounds = (c.if-store-lt-MIN_STORE.false, c.if-out-lt-LONGEST.false); store_tested = c.in-Some.ensures; b_len = search rules }

pub returns-in-Some-take_ordered_message : goal.returns-in-Some-take_ordered_message
returns-in-Some-take_ordered_message c =
    call-sound c.args.r c.args.store.now c.args.message.now c.args.incarnation c.args.out.now
    c.if-store-lt-MIN_STORE.false c.if-out-lt-LONGEST.false c.in-Some.ensures.0
    (message-valid c.args.r c.args.store.now c.args.message.now c.args.incarnation c.args.out.now c.in-Some-take_ordered_message.ensures.valid
    (c.addressed.ensures (update_of c.args.message.now) (ordered-consumer c.args.message.now c.args.store.now _ _ _ c.in-Some-take_ordered_message.ensures)
    (update-content c.args.message.now c.args.store.now c.in-Some-take_ordered_message.ensures.answers.is)))

pub returns-in-None : goal.returns-in-None
returns-in-None c =
    call-sound c.args.r c.args.store.now c.args.message.now c.args.incarnation c.args.out.now
    c.if-store-lt-MIN_STORE.false c.if-out-lt-LONGEST.false c.in-Some.ensures.0 c.scanned.ensures
