-- Public: when a log passes (02 m): "exactly if it is, delta after delta, each lost id detached once in any order, then
-- each gained id attached once in any order, and nothing more. An empty delta has no entries."
-- Assumes nothing.
use Rattle.std.specs.Prelude.{◌≡◌, ◌⊎◌, true, false, List, [], ◌∷◌, ◌++◌, map, ℕ, Bool, Result, Ok, Err}
use Rattle.refusal.specs.declared.Refusal.TheVariants.{MalformedInput, InvalidLog}
use Rattle.packed.specs.Assignment.{AssignedSegment}
use Rattle.packed_delta.specs.Delta.{AssignmentDelta}
use Rattle.attach_entries.specs.declared.Entry.{Entry}
use Rattle.attach_entries.specs.declared.Entry.TheVariants.{Detach, Attach}
use Rattle.attach_entries.specs.Log.{are_deltas, deltas_of, is_log, log_entries}
use Rattle.refusal.specs.declared.Refusal.{Refusal}

-- es is a permutation of the list: its first stands somewhere in es, and the rest of es is a permutation of its rest
unfoldable pub Permutes : (es xs : List Entry) → Type 0
Permutes es [] = es ≡ []
Permutes es (x ∷ xs) = (a : List Entry) × (b : List Entry) × (es ≡ a ++ (x ∷ b)) × Permutes (a ++ b) xs

-- a delta's entries
abbrev pub attach_of : AssignedSegment → Entry
attach_of g = Attach g.segment_id

abbrev pub detaches : AssignmentDelta → List Entry
detaches d = map Detach d.lost

abbrev pub attaches : AssignmentDelta → List Entry
attaches d = map attach_of d.gained

-- the log is, delta after delta, its detaches in any order, then its attaches in any order, and nothing more
unfoldable pub Passes : List AssignmentDelta → List Entry → Type 0
Passes [] es = es ≡ []
Passes (d ∷ ds) es =
    (a : List Entry) × (b : List Entry) × (rest : List Entry)
    × (es ≡ a ++ (b ++ rest)) × Permutes a (detaches d) × Permutes b (attaches d) × Passes ds rest

-- ---- the call

-- 20 before 37, else yes exactly if it passes
unfoldable pub Checked : (deltas log : List ℕ) → Result Bool Refusal → Type 0
Checked deltas log (Err x) =
    ((are_deltas deltas ≡ false) × (x ≡ MalformedInput))
    ⊎ ((are_deltas deltas ≡ true) × (is_log log ≡ false) × (x ≡ InvalidLog))
Checked deltas log (Ok passed) =
    (are_deltas deltas ≡ true) × (is_log log ≡ true)
    × (passed ≡ true → Passes (deltas_of deltas) (log_entries log))
    × (Passes (deltas_of deltas) (log_entries log) → passed ≡ true)
