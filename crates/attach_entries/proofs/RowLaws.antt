-- Which logs of the worked row pass: whether they follow it is by computation.
-- Assumes nothing.
use mathlib.Core.Path.{◌≡◌, refl}
use mathlib.Core.Bool.{true, false}
use mathlib.Core.List.{List, [], ◌∷◌}
use Rattle.ranges.specs.Overlap.{any_overlap}
use Rattle.packed.specs.Assignment.{all_in_order, ok_buckets, ok_segment, ok_from}
use Rattle.packed_delta.specs.Delta.{AssignmentDelta, ids_from, ok_delta}
use Rattle.attach_entries.specs.declared.Entry.{Entry}
use Rattle.attach_entries.specs.Passes.{Passes}
use Rattle.attach_entries.specs.Follows.{same_entry, has_entry, all_in, follows}
use Rattle.attach_entries.specs.Rows.{first, empty, last, Passing}
use Rattle.attach_entries.proofs.PassLaws.{not-both, follows-passes, passes-follows}

abbrev row : List AssignmentDelta
row = first ∷ empty ∷ last ∷ []

yes : (es : List Entry) → follows row es ≡ true → Passes row es
unfolding any_overlap all_in_order ok_buckets ok_segment ok_from ids_from ok_delta
yes es e = follows-passes row es (refl, (refl, (refl, tt))) e

no : (ds : List AssignmentDelta) (es : List Entry) → follows ds es ≡ false → Passes ds es → ⊥
no ds es e p = not-both (passes-follows ds es p) e

pub passing : Passing
unfolding ok_from ids_from ok_delta same_entry has_entry all_in follows
passing =
    record {
      in_order = yes _ refl;
      other-order = yes _ refl;
      attach-first = no row _ refl;
      delta-first = no row _ refl;
      missing = no row _ refl;
      replaced = no row _ refl;
      twice = no row _ refl;
      too_many = no row _ refl;
      none = follows-passes [] [] tt refl;
      none-empty = follows-passes (empty ∷ empty ∷ []) [] (refl, (refl, tt)) refl;
      none_more = no (empty ∷ []) _ refl;
    }
