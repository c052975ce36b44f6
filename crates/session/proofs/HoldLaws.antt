-- What holds between the calls of a session in values, for one of the readers.
--
-- In order: what holds while no list is held (`Idle`), while one is and nothing is left for the reader to drain (`Settled`), and after an
-- accepted response until a drain of its own answers none (`Owing`); what is to be shown of a call (`Kept`, `Drained`); calls that leave the
-- queue as it is, and what a delta does to the uploader. That each call keeps it: `DrainLaws`, `KeptLaws`.
-- Assumes nothing.
use Rattle.std.specs.Prelude.{Option, Some, None, option_map}
use Prim.Native.Nat.{ℕ, ◌≤◌}
use mathlib.Core.Path.{◌≡◌, ap, sym, ◌∙◌, subst}
use mathlib.Core.Bool.{Bool, true, false, cond, not, ◌&&◌}
use mathlib.Core.List.{List, [], ◌∷◌, ◌++◌}
use mathlib.Core.Logic.{◌⊎◌, inl, inr}
use lib.Dec.{eqb}
use lib.ListN.{length}
use lib.Seq.{take_at}
use Rattle.packed.specs.Assignment.{ConsumerAssignment}
use Rattle.packed_delta.specs.Delta.{AssignmentDelta}
use Rattle.packed_delta.specs.Change.{delta_between}
use Rattle.packed_delta.specs.Join.{Proper, apply, apply_all}
use Rattle.packed_delta.proofs.DeltaLaws.{delta-law, delta-proper}
use Rattle.packed_delta.proofs.BracketLaws.{AllProper, apply_all-append, proper-append}
use Rattle.keyed.proofs.EachLaws.{Each}
use Rattle.session.specs.Session.{Session, Result, position_of, raise}
use Rattle.session.specs.Response.{stale_fault, last_list}
use Rattle.session.specs.Trace.{Call, drain, Event}
use Rattle.session.specs.Observers.{Sender, sender_step, on_delta, Seen, see, is_response}
use Rattle.session.proofs.Model.{after, accepts, is_unchanged, handed, pushes}
use Rattle.session.proofs.QueueLaws.{raise-next, last_in, before}
use Rattle.session.proofs.CallLaws.{unchanged_result}

-- ---- what holds

-- no list is held
pub record Idle (s : Session) (o : Seen) : Type 0 where
  pub registered : s.state.registered ≡ false
  pub list : o.sender.list ≡ None
  pub pending : o.sender.pending ≡ last_in s.queue
  pub uploader : o.uploader ≡ None
  pub highest : s.state.epoch_floor ≡ o.highest
  pub proper : Each Proper s.queue
  pub counted : length s.queue ≡ s.state.queue_count

-- a list is held: the sender has it, and the floor is its epoch
pub record Held (registered : Bool) (floor : Option ℕ) (list : ConsumerAssignment) (x : Sender) : Type 0 where
  pub live : registered ≡ true
  pub raised : floor ≡ Some list.layout_epoch
  pub sent : x.list ≡ Some list
  pub pending : x.pending ≡ None
  pub proper : Proper list

-- the uploader has u, which the deltas since the baseline b make of it
pub record Uploaded (b u : ConsumerAssignment) (uploader baseline : Option ConsumerAssignment) (deltas : List AssignmentDelta)
    (highest : Option ℕ) : Type 0 where
  pub has : uploader ≡ Some u
  pub based : baseline ≡ Some b
  pub turned : apply_all deltas b ≡ u
  pub proper : AllProper deltas
  pub proper-baseline : Proper b
  pub top : highest ≡ Some u.layout_epoch

abbrev pub HeldIn : Session → Seen → Type 0
HeldIn s o = Held s.state.registered s.state.epoch_floor s.list o.sender

abbrev pub UploadedIn : Session → Seen → ConsumerAssignment → Type 0
UploadedIn s o u = Uploaded s.baseline u o.uploader o.baseline o.deltas o.highest

-- with nothing left to drain
pub record Settled (reader : ℕ) (s : Session) (o : Seen) : Type 0 where
  pub held : HeldIn s o
  pub uploaded : UploadedIn s o s.list
  pub position : position_of s.state reader ≡ length s.queue
  pub eight : length s.state.drain_positions ≡ 8
  pub counted : length s.queue ≡ s.state.queue_count

-- after an accepted response, until a drain answers none
pub record Owing (reader : ℕ) (s : Session) (o : Seen) : Type 0 where
  pub held : HeldIn s o
  pub uploaded : UploadedIn s o (before s.baseline s.queue (position_of s.state reader))
  pub eight : length s.state.drain_positions ≡ 8
  pub last : s.list ≡ last_list s.baseline s.queue
  pub fresh : stale_fault s.baseline s.queue ≡ None
  pub proper : Each Proper s.queue
  pub counted : length s.queue ≡ s.state.queue_count

-- by whether a drain is owed
abbrev pub Invariant : (reader : ℕ) → Bool → Session → Seen → Type 0
Invariant reader true s o = Owing reader s o
Invariant reader false s o = Idle s o ⊎ Settled reader s o

-- ---- what is to be shown of a result

abbrev pub event_with : Session → Call → Result → Event
event_with s c x =
    record {
      call = c;
      accepted = accepts x.reply;
      none = is_unchanged x.reply;
      delta = handed x.reply;
      baseline = (after s x).baseline;
    }

-- of a call that is made with no drain owed
abbrev pub Kept : (reader : ℕ) → Session → Call → Seen → Result → Type 0
Kept reader s c o x = Invariant reader (is_response c && accepts x.reply) (after s x) (see reader (event_with s c x) o)

-- a drain, seen by its own reader or by another
abbrev pub see_if : Bool → Event → Seen → Seen
see_if own e o =
    record {
      sender = sender_step e o.sender;
      uploader = cond own (on_delta e.delta (λ d l. option_map (apply d) l) o.uploader) o.uploader;
      baseline = cond own (on_delta e.delta (λ d b. b) o.baseline) o.baseline;
      response = cond own (on_delta e.delta (λ d m. m) o.response) o.response;
      deltas = cond own (on_delta e.delta (λ d l. l ++ (d ∷ [])) o.deltas) o.deltas;
      highest = cond own (on_delta e.delta (λ d f. raise f d.layout_epoch) o.highest) o.highest;
    }

-- of a drain that is made with one owed
abbrev pub Drained : (reader : ℕ) → Session → ℕ → List ℕ → Seen → Result → Type 0
Drained reader s by out o x = Invariant reader (not (eqb by reader && is_unchanged x.reply)) (after s x) (see reader (event_with s (drain by out) x) o)

-- ---- calls that leave the queue as it is

-- the session behind a result, with that queue
abbrev pub with_queue : Session → Result → List ConsumerAssignment → Session
with_queue s x queue =
    record {
      state = x.next;
      size = s.size;
      sound = s.sound;
      topic = s.topic;
      baseline = (after s x).baseline;
      list = (after s x).list;
      queue = queue;
    }

pub invariant-same : (reader : ℕ) (w : Bool) (s : Session) (x : Result) (o : Seen) → length s.queue ≡ x.next.queue_count
    → Invariant reader w (with_queue s x s.queue) o → Invariant reader w (after s x) o
invariant-same reader w s x o e g =
    subst (λ q. Invariant reader w (with_queue s x q) o) (sym (take_at s.queue (pushes x.writes) x.next.queue_count e)) g

pub invariant-counted : (reader : ℕ) (w : Bool) (s : Session) (o : Seen) → Invariant reader w s o → length s.queue ≡ s.state.queue_count
invariant-counted reader false s o (inl h) = h.counted
invariant-counted reader false s o (inr h) = h.counted
invariant-counted reader true s o h = h.counted

-- nothing changes
pub invariant-still : (reader : ℕ) (w : Bool) (s : Session) (o : Seen) → Invariant reader w s o → Invariant reader w (after s (unchanged_result s)) o
invariant-still reader w s o g = invariant-same reader w s (unchanged_result s) o (invariant-counted reader w s o g) g

-- ---- what the uploader has after a delta from u to v

module _ {b u v : ConsumerAssignment} {uploader baseline : Option ConsumerAssignment} {deltas : List AssignmentDelta} {highest : Option ℕ}
    (h : Uploaded b u uploader baseline deltas highest) (pu : Proper u) (pv : Proper v) (rises : u.layout_epoch ≤ v.layout_epoch) where
  pub uploaded-delta : Uploaded b v (option_map (apply (delta_between u v)) uploader) baseline (deltas ++ (delta_between u v ∷ []))
      (raise highest (delta_between u v).layout_epoch)
  unfolding delta_between
  uploaded-delta =
      record {
        has = ap (option_map (apply (delta_between u v))) h.has ∙ ap Some (delta-law u v pu pv);
        based = h.based;
        turned =
            apply_all-append deltas (delta_between u v ∷ []) b ∙ ap (apply (delta_between u v)) h.turned ∙ delta-law u v pu pv;
        proper = proper-append deltas (delta_between u v ∷ []) h.proper (delta-proper u v pu pv, tt);
        proper-baseline = h.proper-baseline;
        top = ap (λ f. raise f v.layout_epoch) h.top ∙ raise-next u.layout_epoch v.layout_epoch rises;
      }
