-- Internal: cited by the contracts of helpers alone. What the functions of src/ ask and answer: queue entries where they lie.
-- Assumes nothing.
use Rattle.std.specs.Prelude.{ℕ, ◌-◌, ◌≤◌, ◌≡◌, true, cond, List, length, ltb}
use Rattle.packed.specs.Assignment.{starts_assignment}
use Rattle.packed_delta.specs.Change.{delta_between}
use Rattle.session.specs.Store.{min_store, max_queue, slot, queue_in, queue_reads, queue_end}
use Rattle.session.specs.Drain.{Found, end, entry}
use Rattle.session_store.specs.Places.{Lies, entry_in, list_before}
use Rattle.session_drain.specs.declared.Reached.{Reached}

-- entry i of n, or the end
unfoldable pub found_at : (store : List ℕ) (n i : ℕ) → Found
found_at store n i = cond (ltb i n) (entry i (delta_between (list_before store i) (entry_in store i))) end

-- baseline and n queue entries are packed assignments
pub record Entries (store : List ℕ) (n : ℕ) : Type 0 where
  pub big : min_store ≤ length store
  pub baseline : starts_assignment (slot store 1) ≡ true
  pub queue : queue_reads store n ≡ true
  pub few : n ≤ max_queue

-- entry i begins where the entries before it end, and the list before it lies where it is said to
pub record Reaches (store : List ℕ) (r : Reached) : Type 0 where
  pub here : r.at ≡ queue_end (queue_in store r.i)
  pub rises : r.before ≤ r.until
  pub lies : Lies store r.before (r.until - r.before) (list_before store r.i)
