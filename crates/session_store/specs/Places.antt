-- Internal: cited by the contracts of helpers alone. The queue's end, and lists of a store where they lie.
-- Assumes nothing.
use Rattle.std.specs.Prelude.{ℕ, zero, suc, ◌+◌, ◌≤◌, ◌≡◌, true, List, length, take, drop}
use Rattle.packed.specs.Assignment.{slot_size, ConsumerAssignment, decode_assignment, starts_assignment}
use Rattle.packed_queue.specs.Entries.{sheet_in, entries_end}
use Rattle.session.specs.Store.{baseline_slot, list_in, queue_area, queue_in, queue_end}

-- a queue of n lists ends at this byte place
pub record QueueEnds (store : List ℕ) (n end : ℕ) : Type 0 where
  pub at : end ≡ queue_end (queue_in store n)
  pub inside : end ≤ length store

-- the list a stands in so many bytes of the store from a place on
pub record Lies (store : List ℕ) (at size : ℕ) (a : ConsumerAssignment) : Type 0 where
  pub inside : at + size ≤ length store
  pub few : size ≤ slot_size
  pub starts : starts_assignment (take size (drop at store)) ≡ true
  pub holds : decode_assignment (take size (drop at store)) ≡ a

-- the list of entry i of the queue
unfoldable pub entry_in : List ℕ → ℕ → ConsumerAssignment
entry_in store i = decode_assignment (sheet_in (drop (entries_end i (queue_area store)) (queue_area store)))

-- the list before it: the baseline for the first
abbrev pub list_before : List ℕ → ℕ → ConsumerAssignment
list_before store zero = list_in store baseline_slot
list_before store (suc i) = entry_in store i
