-- Public: demands 2 and 3 from open on. A session begins with an `open` that is accepted, on any store; both demands hold of whatever is then
-- called on the record and the store that it leaves. What the Rust is compared with is `new` of the very numbers, texts and kind that `open`
-- was given.
--
-- The three statements of demand 2 are those of crates/rust_session/specs/Demand, that of demand 3 the one of crates/session/specs/DemandThree.
-- Assumes nothing.
use Rattle.std.specs.Prelude.{ℕ, ◌<◌, ◌≤◌, ◌≡◌, true, false, List, [], length, Ok}
use Rattle.topic_types.specs.declared.ControllerIncarnation.{ControllerIncarnation}
use Rattle.packed.specs.Assignment.{slot_size}
use Rattle.session.specs.declared.Answer.TheVariants.{Accepted}
use Rattle.session.specs.Identity.{Identity}
use Rattle.session.specs.Session.{readers}
use Rattle.session.specs.Calls.{open_outcome}
use Rattle.session.specs.Trace.{Call, trace, final}
use Rattle.session.specs.Observers.{unseen, watch, all_drained}
use Rattle.session.specs.DemandThree.{AllOfBytes, held, Claim}
use Rattle.rust_magnetar.specs.Session.{new}
use Rattle.rust_names.specs.Agree.{is_marked}
use Rattle.rust_session.specs.Demand.{port_run, Caller, rust_run, opened, none_ours, fed_calls, fed_shown, one_reader, all_roomy, store_for}

-- the Rust's session of that consumer, before any call
abbrev pub new_caller : ℕ → ControllerIncarnation → Identity → Caller
new_caller consumer incarnation i =
    record { session = new consumer i.topic i.subscription i.consumer_name i.consumer_type incarnation; taken = [] }

-- consumer id, incarnation, the three texts and the kind that stand in the record and the store are those that were given
abbrev pub OpensNew : Type 0
OpensNew =
    (consumer : ℕ) (incarnation : ControllerIncarnation) (i : Identity) (store : List ℕ) → let o = open_outcome consumer incarnation i store in
    o.answer ≡ Ok Accepted → opened o.next o.store ≡ new_caller consumer incarnation i

-- ---- demand 2

-- whatever is called: the Rust, fed the calls that none of ours refuses, shows after each what the port shows
abbrev pub DemandTwoFedFromOpen : Type 0
DemandTwoFedFromOpen =
    (consumer : ℕ) (incarnation : ControllerIncarnation) (i : Identity) (store : List ℕ) → let o = open_outcome consumer incarnation i store in
    o.answer ≡ Ok Accepted → is_marked i.topic ≡ false
    → (calls : List Call) → AllOfBytes calls → (reader : ℕ) → one_reader reader calls ≡ true
    → fed_shown reader o.next o.store calls ≡ rust_run (new_caller consumer incarnation i) (fed_calls o.next o.store calls)

-- where none of ours is due
abbrev pub DemandTwoFromOpen : Type 0
DemandTwoFromOpen =
    (consumer : ℕ) (incarnation : ControllerIncarnation) (i : Identity) (store : List ℕ) → let o = open_outcome consumer incarnation i store in
    o.answer ≡ Ok Accepted → is_marked i.topic ≡ false
    → (calls : List Call) → AllOfBytes calls → (reader : ℕ) → one_reader reader calls ≡ true → none_ours o.next o.store calls ≡ true
    → port_run reader o.next o.store calls ≡ rust_run (new_caller consumer incarnation i) calls

-- which is so by the inputs alone: those of the calls, and the length of the store
abbrev pub DemandTwoOfInputsFromOpen : Type 0
DemandTwoOfInputsFromOpen =
    (consumer : ℕ) (incarnation : ControllerIncarnation) (i : Identity) (store : List ℕ) → let o = open_outcome consumer incarnation i store in
    o.answer ≡ Ok Accepted → is_marked i.topic ≡ false → (room : ℕ) → room ≤ slot_size → store_for room ≤ length store
    → (calls : List Call) → AllOfBytes calls → (reader : ℕ) → one_reader reader calls ≡ true → all_roomy room i.topic calls ≡ true
    → (none_ours o.next o.store calls ≡ true)
    × (port_run reader o.next o.store calls ≡ rust_run (new_caller consumer incarnation i) calls)

-- ---- demand 3

abbrev pub DemandThreeFromOpen : Type 0
DemandThreeFromOpen =
    (consumer : ℕ) (incarnation : ControllerIncarnation) (i : Identity) (store : List ℕ) → let o = open_outcome consumer incarnation i store in
    o.answer ≡ Ok Accepted → (reader : ℕ) → reader < readers → (calls : List Call) → AllOfBytes calls
    → let events = trace o.next o.store calls in let end = final o.next o.store calls in
    all_drained reader events ≡ true → Claim (held end) end.state.epoch_floor (watch reader unseen events)
