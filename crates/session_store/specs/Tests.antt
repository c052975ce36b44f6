-- Internal: cited by the contracts of helpers alone. What the test of a store says.
-- Assumes nothing.
use Rattle.std.specs.Prelude.{ℕ, ◌≡◌, true, false, List, Option, Some, None}
use Rattle.session.specs.declared.SessionRecord.{SessionRecord}
use Rattle.session.specs.Session.{view, damaged}
use Rattle.session_store.specs.Places.{QueueEnds}

abbrev pub StoreTested : SessionRecord → List ℕ → Option ℕ → Type 0
StoreTested r store (Some end) = (damaged (view r store) ≡ false) × QueueEnds store r.queue_count end
StoreTested r store None = damaged (view r store) ≡ true
