-- Public: demand 3, for each reader (02 d): what a station holds, what its controller sent, and what that reader's
-- uploader keeps are the same.
--
-- `DemandThree` is the claim, about any reader and any list of calls from any fresh record and any store; its proof is proofs/Claimed. Each call answers or refuses as 01 sets because
-- `trace` goes by the very definitions that the programs' contracts cite (specs/Calls, specs/Link).
-- Assumes nothing.
use Rattle.std.specs.Prelude.{ℕ, ◌<◌, ◌≡◌, true, false, cond, List, [], ◌∷◌, Option, Some, None, option_map}
use Rattle.slice.specs.Bytes.{Bytes}
use Rattle.packed.specs.Assignment.{ConsumerAssignment}
use Rattle.packed_delta.specs.Join.{Bracketing, row, joined, apply}
use Rattle.session.specs.declared.SessionRecord.{SessionRecord}
use Rattle.session.specs.Store.{list_slot, list_in}
use Rattle.session.specs.Session.{readers, at_start}
use Rattle.session.specs.Trace.{Call, update, response, drain, begin, invalidate, trace, End, final}
use Rattle.session.specs.Observers.{own_in, Seen, unseen, watch, all_drained}

-- "Fresh record: unregistered, no floor, not invalidated, queue 0, drain position 0": of every reader (02 d)
pub record Fresh (r : SessionRecord) : Type 0 where
  pub unregistered : r.registered ≡ false
  pub no-floor : r.epoch_floor ≡ None
  pub not-invalidated : r.invalidated ≡ false
  pub no-queue : r.queue_count ≡ 0
  pub positions : r.drain_positions ≡ at_start

-- a call's message is made of bytes
abbrev pub OfBytes : Call → Type 0
OfBytes (update message incarnation out) = Bytes message
OfBytes (response message incarnation) = Bytes message
OfBytes (drain reader out) = Unit {0}
OfBytes (begin incarnation) = Unit {0}
OfBytes invalidate = Unit {0}

abbrev pub AllOfBytes : List Call → Type 0
AllOfBytes [] = Unit {0}
AllOfBytes (c ∷ cs) = OfBytes c × AllOfBytes cs

-- "Held: the list slot's sheet while registered, else no list."
abbrev pub held : End → Option ConsumerAssignment
held e = cond e.state.registered (Some (list_in e.store list_slot)) None

pub record Claim (list : Option ConsumerAssignment) (floor : Option ℕ) (o : Seen) : Type 0 where
  -- "Three lists are equal, or there is none of the three"
  pub sent : list ≡ o.sender.list
  pub uploaded : list ≡ o.uploader
  -- "An accepted response gives its baseline, the sheet then in that slot, which is the sheet of the response's own assignment"
  pub own : o.baseline ≡ option_map own_in o.response
  -- "While a list is held, the deltas handed out since its baseline are joined two by two in their order. Every bracketing gives the same delta, and it turns that
  -- baseline into that list"
  pub same : (l : ConsumerAssignment) → list ≡ Some l → (t u : Bracketing) → row t ≡ o.deltas → row u ≡ o.deltas → joined t ≡ joined u
  pub turns : (l : ConsumerAssignment) → list ≡ Some l
      → (b : ConsumerAssignment) × (o.baseline ≡ Some b) × ((t : Bracketing) → row t ≡ o.deltas → apply (joined t) b ≡ l)
  -- "with no deltas the two are equal"
  pub still : (l : ConsumerAssignment) → list ≡ Some l → o.deltas ≡ [] → o.baseline ≡ Some l
  -- "The floor is the highest epoch handed out, or none before the first": to that reader; "bracketing and floor are reckoned from the same deltas"
  pub highest : floor ≡ o.highest

abbrev pub DemandThree : Type 0
DemandThree =
    (reader : ℕ) → reader < readers
    → (r : SessionRecord) → Fresh r → (store : List ℕ) (calls : List Call) → AllOfBytes calls → all_drained reader (trace r store calls) ≡ true
    → Claim (held (final r store calls)) (final r store calls).state.epoch_floor (watch reader unseen (trace r store calls))
