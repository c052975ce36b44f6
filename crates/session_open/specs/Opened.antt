-- Public: what `open` leaves in a store, and what the session on it and `matches_registration` then read (01, Store, Session, The rest).
--
-- `OpenTied` is the claim, about every consumer id, incarnation, identity and store; its proof is proofs/OpenedLaws. It is about
-- `open_outcome`, `match_of` and `view`, which the contracts of the programs cite.
-- Assumes nothing.
use Rattle.std.specs.Prelude.{ℕ, ◌+◌, ◌≡◌, Bool, true, false, ◌&&◌, List, length, drop, eqb, Result, Ok}
use Rattle.topic_types.specs.declared.ControllerIncarnation.{ControllerIncarnation}
use Rattle.slice.specs.Same.{same_bytes}
use Rattle.session.specs.declared.Answer.TheVariants as answer
use Rattle.session.specs.Store.{identity_slot, slot}
use Rattle.session.specs.Identity.{Identity, kind_byte, texts_length, identity_topic, subscription_of, consumer_name_of, identity_kind, is_identity}
use Rattle.session.specs.Session.{view, damaged}
use Rattle.session.specs.Calls.{OpenOutcome, fresh_record, open_outcome, match_of}
use Rattle.session.specs.Trace.{is_accepted}
use Rattle.refusal.specs.declared.Refusal.{Refusal}

-- two identities have the same texts and the same kind
abbrev pub same : Identity → Identity → Bool
same i j =
    same_bytes i.topic j.topic
    && (same_bytes i.subscription j.subscription
    && (same_bytes i.consumer_name j.consumer_name && eqb (kind_byte i.consumer_type) (kind_byte j.consumer_type)))

-- the answer of `matches_registration`, where it refuses nothing
abbrev pub told : Bool → Result Bool Refusal
told true = Ok true
told false = Ok false

-- the identity in a slot is well formed, and it is i
pub record Holds (i : Identity) (l : List ℕ) : Type 0 where
  pub formed : is_identity l ≡ true
  pub topic : identity_topic l ≡ i.topic
  pub subscription : subscription_of l ≡ i.subscription
  pub consumer_name : consumer_name_of l ≡ i.consumer_name
  pub kind : identity_kind l ≡ kind_byte i.consumer_type

-- what an accepted open of the identity i leaves
pub record Accepted (consumer : ℕ) (incarnation : ControllerIncarnation) (i : Identity) (store : List ℕ) (o : OpenOutcome) : Type 0 where
  -- the record is the fresh one
  pub answer : o.answer ≡ Ok answer.Accepted
  pub fresh : o.next ≡ fresh_record consumer incarnation
  -- the identity slot holds the identity that was given
  pub holds : Holds i (slot o.store identity_slot)
  -- "Writing a slot writes only .. for the identity its 7 bytes and texts"
  pub behind : drop (7 + texts_length i) o.store ≡ drop (7 + texts_length i) store
  pub size : length o.store ≡ length store
  -- the session that update, response and drain read has its topic, and 22 is not due
  pub topic : (view (fresh_record consumer incarnation) o.store).topic ≡ i.topic
  pub sound : damaged (view (fresh_record consumer incarnation) o.store) ≡ false
  -- `matches_registration` says yes for this identity and for no other
  pub answers : (j : Identity) → match_of o.store j ≡ told (same i j)
  pub own : match_of o.store i ≡ Ok true
  pub no_other : (j : Identity) → match_of o.store j ≡ Ok true → j ≡ i

pub record Tied (consumer : ℕ) (incarnation : ControllerIncarnation) (i : Identity) (store : List ℕ) (o : OpenOutcome) : Type 0 where
  pub accepted : is_accepted o.answer ≡ true → Accepted consumer incarnation i store o
  -- a refused open leaves every byte
  pub refused : is_accepted o.answer ≡ false → o.store ≡ store

abbrev pub OpenTied : Type 0
OpenTied =
    (consumer : ℕ) (incarnation : ControllerIncarnation) (i : Identity) (store : List ℕ)
    → Tied consumer incarnation i store (open_outcome consumer incarnation i store)
