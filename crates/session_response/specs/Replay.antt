-- Internal: cited by the contracts of helpers alone; whoever reads the claims may skip it.
--
-- What the functions of src/ answer: the epochs of the queue, and the replay's last list.
-- Assumes nothing.
use Rattle.std.specs.Prelude as std
use Rattle.std.specs.Prelude.{ℕ, ◌+◌, ◌-◌, ◌<◌, ◌≡◌, true, cond, List, [], ◌∷◌, ltb, Option, Some, None, ℤ, Ok, Err}
use Rattle.refusal.specs.declared.Refusal.{Refusal}
use Rattle.refusal.specs.declared.Refusal.TheVariants.{Broker, Empty, StaleEpoch}
use Rattle.wire_readers.specs.Messages.{WireResponse}
use Rattle.packed.specs.Assignment.{ConsumerAssignment, decode_assignment}
use Rattle.packed_queue.specs.Entries.{size_entry}
use Rattle.intake_content.specs.Content.{Content, refused, content_of}
use Rattle.session.specs.Store.{queue_in, queue_end}
use Rattle.session.specs.declared.SessionRecord.{SessionRecord}
use Rattle.session.specs.Session.{Session, Result, at_start, raise}
use Rattle.session.specs.Response.{last_list, replayable, register}
use Rattle.session_store.specs.Scratch.{Scratch}

-- the first epoch of the queue that lies below the one before it; or else where the last entry begins: the queue begins at a byte place, and the entry before it at `last`
unfoldable pub stale_of : (last at prev : ℕ) → List ConsumerAssignment → std.Result ℕ (ℕ × ℕ)
stale_of last at prev [] = Ok last
stale_of last at prev (a ∷ queue) = cond (ltb a.layout_epoch prev) (Err (a.layout_epoch, prev)) (stale_of at (at + size_entry a) a.layout_epoch queue)

abbrev pub stale_refusal : std.Result ℕ (ℕ × ℕ) → Option Refusal
stale_refusal (Ok at) = None
stale_refusal (Err (got, prev)) = Some (StaleEpoch got prev)

-- the last of n queue entries begins at a byte place
abbrev pub LastBegins : (store : List ℕ) (n at : ℕ) → Type 0
LastBegins store n at = 0 < n → at ≡ queue_end (queue_in store (n - 1))

-- the last list of the replay of n queue entries over the assignment in b, in a buffer
pub record LastIs (store b : List ℕ) (n size : ℕ) (last : List ℕ) : Type 0 where
  pub scratch : Scratch last size
  pub is_last : decode_assignment last ≡ last_list (decode_assignment b) (queue_in store n)

-- ---- the parts of specs/Response that a function each gives

abbrev pub denied_by : Option ℤ → ℕ → Refusal
denied_by (Some code) request = Broker code
denied_by None request = Empty request

-- its assignment's content, or else 16 or 17
abbrev pub content_of_response : List ℕ → WireResponse → Content
content_of_response topic w = cond w.has_assignment (content_of topic w.assignment) (refused (denied_by w.error w.request_id))

-- the record behind an accepted response, whose last list has that epoch
abbrev pub registered_by : SessionRecord → (epoch count : ℕ) → SessionRecord
registered_by r epoch count =
    record {
      consumer_id = r.consumer_id;
      incarnation = r.incarnation;
      registered = true;
      invalidated = r.invalidated;
      epoch_floor = raise r.epoch_floor epoch;
      queue_count = count;
      drain_positions = at_start;
    }

-- the baseline is set, and with it the last list and the floor
abbrev pub registered : Session → ConsumerAssignment → Result
registered s baseline = register s baseline (last_list baseline (replayable s))
