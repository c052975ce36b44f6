-- Internal: whoever reads the claims may skip it.
--
-- Whether a log follows deltas, as a program asks: as many entries as ids, and each id among them.
-- Assumes nothing.
use Rattle.std.specs.Prelude.{◌+◌, Bool, true, false, ◌&&◌, ◌||◌, List, [], ◌∷◌, length, take, drop, leb, eqb}
use Rattle.packed_delta.specs.Delta.{AssignmentDelta}
use Rattle.attach_entries.specs.declared.Entry.{Entry}
use Rattle.attach_entries.specs.declared.Entry.TheVariants.{Detach, Attach}
use Rattle.attach_entries.specs.Passes.{detaches, attaches}

unfoldable pub same_entry : (x y : Entry) → Bool
same_entry (Detach i) (Detach j) = eqb i j
same_entry (Detach i) (Attach j) = false
same_entry (Attach i) (Detach j) = false
same_entry (Attach i) (Attach j) = eqb i j

unfoldable pub has_entry : Entry → List Entry → Bool
has_entry e [] = false
has_entry e (x ∷ xs) = same_entry x e || has_entry e xs

-- each entry of the first list is in the second
unfoldable pub all_in : (xs es : List Entry) → Bool
all_in [] es = true
all_in (x ∷ xs) es = has_entry x es && all_in xs es

-- the log is, delta after delta, its entries
unfoldable pub follows : List AssignmentDelta → List Entry → Bool
follows [] es = eqb (length es) 0
follows (d ∷ ds) es =
    leb (length d.lost + length d.gained) (length es)
    && (all_in (detaches d) (take (length d.lost) es)
    && (all_in (attaches d) (take (length d.gained) (drop (length d.lost) es))
    && follows ds (drop (length d.lost + length d.gained) es)))
