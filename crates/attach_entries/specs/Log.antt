-- Public: the bytes of a check (02 m): "the deltas in order, packed one behind another in one buffer", and the log.
--
-- "An entry is one bit (0 detach, 1 attach), a 64-bit id and seven zero bits." Reading is total; `are_deltas` and
-- `is_log` test afterwards.
-- Assumes nothing.
use Rattle.std.specs.Prelude.{ℕ, zero, suc, ◌/◌, ◌%◌, ◌^◌, Bool, true, cond, ◌&&◌, ◌||◌, List, [], ◌∷◌, length, drop, eqb}
use Rattle.slice_int.specs.Be.{be_at}
use Rattle.packed_delta.specs.Delta.{AssignmentDelta, decode_delta, size_delta, starts_delta}
use Rattle.attach_entries.specs.declared.Entry.{Entry}
use Rattle.attach_entries.specs.declared.Entry.TheVariants.{Detach, Attach}

-- ---- deltas, one behind another

abbrev pub is_nil : List ℕ → Bool
is_nil l = eqb (length l) 0

-- the bytes behind the delta at the front
abbrev pub behind : List ℕ → List ℕ
behind l = drop (size_delta (decode_delta l)) l

-- the bytes are deltas, at most n
unfoldable pub are_at_most : ℕ → List ℕ → Bool
are_at_most zero l = is_nil l
are_at_most (suc n) l = is_nil l || (starts_delta l && are_at_most n (behind l))

unfoldable pub deltas_at_most : ℕ → List ℕ → List AssignmentDelta
deltas_at_most zero l = []
deltas_at_most (suc n) l = cond (is_nil l) [] (decode_delta l ∷ deltas_at_most n (behind l))

-- there are never more of them than bytes
unfoldable pub are_deltas : List ℕ → Bool
are_deltas l = are_at_most (length l) l

unfoldable pub deltas_of : List ℕ → List AssignmentDelta
deltas_of l = deltas_at_most (length l) l

-- ---- the log

-- the entry of 72 bits: the highest bit, then 64, then 7
unfoldable pub entry_with : (bit id : ℕ) → Entry
entry_with zero id = Detach id
entry_with (suc bit) id = Attach id

unfoldable pub entry_of : List ℕ → Entry
entry_of l = entry_with (be_at 9 l 0 / 2 ^ 71) (be_at 9 l 0 / 2 ^ 7 % 2 ^ 64)

unfoldable pub entries_in : ℕ → List ℕ → List Entry
entries_in zero l = []
entries_in (suc n) l = entry_of l ∷ entries_in n (drop 9 l)

unfoldable pub log_entries : List ℕ → List Entry
log_entries log = entries_in (length log / 9) log

-- no filling bit of n entries is set
unfoldable pub clear_in : ℕ → List ℕ → Bool
clear_in zero l = true
clear_in (suc n) l = eqb (be_at 9 l 0 % 2 ^ 7) 0 && clear_in n (drop 9 l)

-- not "37, a length that is no multiple of 9 or a set filling bit"
unfoldable pub is_log : List ℕ → Bool
is_log log = eqb (length log % 9) 0 && clear_in (length log / 9) log
