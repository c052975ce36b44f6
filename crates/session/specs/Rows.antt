-- Public: rows of the readers (02 d), by computing: the order of a drain's refusals, whose position moves, and who sets
-- all of them to 0.
-- Assumes nothing.
use Rattle.std.specs.Prelude.{ℕ, ◌≡◌, refl, true, false, List, [], ◌∷◌, replicate, Some}
use Rattle.refusal.specs.declared.Refusal.TheVariants.{OutputTooShort, UnknownReader, MalformedStore}
use Rattle.packed.specs.Assignment.{ConsumerAssignment, size_segments, size_assignment}
use Rattle.packed.specs.Equal.{same_segments, same_assignment}
use Rattle.packed_queue.specs.Entries.{size_entries}
use Rattle.packed_delta.specs.Change.{without, delta_between}
use Rattle.session.specs.declared.SessionRecord.{SessionRecord}
use Rattle.session.specs.Store.{min_output}
use Rattle.session.specs.Session.{Session, unchanged, replayed, Result, any_beyond, damaged, refuse}
use Rattle.session.specs.Response.{register}
use Rattle.session.specs.Drain.{next_change, drained, drain_call}
use Rattle.session.specs.Link.{begin_of, invalidate_of}

-- no segments at that epoch
abbrev at : ℕ → ConsumerAssignment
at epoch = record { layout_epoch = epoch; segments = [] }

-- registered over a baseline of epoch 1, with pushes of epochs 1, 2 and 3 in the queue
abbrev record_of : List ℕ → SessionRecord
record_of positions =
    record {
      consumer_id = 7;
      incarnation = record { 0 = 1 };
      registered = true;
      invalidated = false;
      epoch_floor = Some 3;
      queue_count = 3;
      drain_positions = positions;
    }

abbrev session_of : List ℕ → Session
session_of positions =
    record {
      state = record_of positions;
      size = 8192;
      sound = true;
      topic = [];
      baseline = at 1;
      list = at 3;
      queue = at 1 ∷ at 2 ∷ at 3 ∷ [];
    }

abbrev moved : Result → List ℕ
moved x = x.next.drain_positions

-- reader 0 has drained all, reader 3 two of three, the others nothing
abbrev some : List ℕ
some = 3 ∷ 0 ∷ 0 ∷ 2 ∷ 0 ∷ 0 ∷ 0 ∷ 0 ∷ []

-- reader 5 is beyond the queue
abbrev beyond : List ℕ
beyond = 3 ∷ 0 ∷ 0 ∷ 2 ∷ 0 ∷ 4 ∷ 0 ∷ 0 ∷ []

pub record Rows : Type 0 where
  -- "33, reader number above 7, between 2 and 22"
  pub number-eight : drain_call (session_of some) 8 min_output ≡ refuse UnknownReader (session_of some)
  pub number-seven : moved (drain_call (session_of some) 7 min_output) ≡ 3 ∷ 0 ∷ 0 ∷ 2 ∷ 0 ∷ 0 ∷ 0 ∷ 2 ∷ []
  pub behind-two : drain_call (session_of some) 8 3209 ≡ refuse OutputTooShort (session_of some)
  pub before-damaged : drain_call (session_of beyond) 8 min_output ≡ refuse UnknownReader (session_of beyond)
  -- "any position beyond the queue"
  pub another-beyond : drain_call (session_of beyond) 0 min_output ≡ refuse MalformedStore (session_of beyond)
  -- "each moved only by its own reader"
  pub next-of-three : (drain_call (session_of some) 3 min_output).reply ≡ replayed 2 6170 (delta_between (at 2) (at 3))
  pub three-moved : moved (drain_call (session_of some) 3 min_output) ≡ 3 ∷ 0 ∷ 0 ∷ 3 ∷ 0 ∷ 0 ∷ 0 ∷ 0 ∷ []
  pub none-for-zero : drain_call (session_of some) 0 min_output ≡ record { reply = unchanged; next = record_of some; writes = [] }
  -- "all set to 0 by response, begin and invalidate"
  pub response-sets : moved (register (session_of some) (at 3) (at 3)) ≡ replicate 8 0
  pub begin-sets : (begin_of (record_of some) (record { 0 = 2 })).next.drain_positions ≡ replicate 8 0
  pub invalidate-sets : (invalidate_of (record_of some)).next.drain_positions ≡ replicate 8 0

pub rows : Rows
unfolding damaged any_beyond next_change drained drain_call delta_between without same_segments same_assignment size_segments size_assignment size_entries
    begin_of invalidate_of
rows =
    record {
      number-eight = refl;
      number-seven = refl;
      behind-two = refl;
      before-damaged = refl;
      another-beyond = refl;
      next-of-three = refl;
      three-moved = refl;
      none-for-zero = refl;
      response-sets = refl;
      begin-sets = refl;
      invalidate-sets = refl;
    }
