-- Internal: cited by the contracts of helpers alone; whoever reads the claims may skip it.
--
-- A row of ids, and marks beside it.
-- Assumes nothing.
use Rattle.std.specs.Prelude.{ℕ, ◌<◌, ◌≡◌, Bool, true, false, ◌&&◌, ◌||◌, List, [], ◌∷◌, length, get_or, eqb}
use Rattle.attach_entries.specs.declared.Entry.{Entry}
use Rattle.attach_entries.specs.declared.Entry.TheVariants.{Detach, Attach}

-- the entry that attaches an id, or detaches it
abbrev pub entry_for : Bool → ℕ → Entry
entry_for true i = Attach i
entry_for false i = Detach i

-- no id of the row is x
abbrev pub Lacks : ℕ → List ℕ → Type 0
Lacks x ids = (i : ℕ) → i < length ids → eqb x (get_or ids i 0) ≡ false

-- the ids of the row that pass the test are marked besides those that were
abbrev pub Marks : (test : ℕ → Bool) (ids : List ℕ) (before after : List Bool) → Type 0
Marks test ids before after = (i : ℕ) → i < length ids → get_or after i false ≡ (test (get_or ids i 0) || get_or before i false)

unfoldable pub all_set : List Bool → Bool
all_set [] = true
all_set (m ∷ ms) = m && all_set ms
