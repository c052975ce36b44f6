-- Public: the two lists that a diff leads to, over lists of topics (01, Watch): "Removed lists, once each, topics that
-- were in the set; added lists those not in it after the removals." Both rise.
-- Assumes nothing.
use Rattle.std.specs.Prelude.{ℕ, Bool, not, List}
use Rattle.wire.specs.Fields.{fields_of}
use Rattle.wire_values.specs.declared.Cursor.{Cursor}
use Rattle.wire_values.specs.Values.{parts_of, merged_fields}
use Rattle.wire_values.specs.Places.{inner_from}
use Rattle.keyed.specs.Keyed.{filter}
use Rattle.watch_topics.specs.Topics.{has, sorted}
use Rattle.watch_window.specs.declared.Listing.{Listing}
use Rattle.watch_window.specs.declared.Listing.TheVariants.{Added, Removed}

-- the set after the removals
unfoldable pub kept : (old removed : List (List ℕ)) → List (List ℕ)
kept old removed = filter (λ t. not (has t removed)) old

-- a topic of the message is listed
unfoldable pub is_listed : Listing → List (List ℕ) → List (List ℕ) → List ℕ → Bool
is_listed Added old removed t = not (has t (kept old removed))
is_listed Removed old removed t = has t old

unfoldable pub added_of : (old removed added : List (List ℕ)) → List (List ℕ)
added_of old removed added = filter (is_listed Added old removed) (sorted added)

unfoldable pub removed_of : (old removed : List (List ℕ)) → List (List ℕ)
removed_of old removed = filter (is_listed Removed old removed) (sorted removed)

-- ---- the same of an event, which is field ev of p, merged from its parts: field 1 adds, field 2 removes

abbrev pub field_of : Listing → ℕ
field_of Added = 1
field_of Removed = 2

-- the topics that a field of the event names
abbrev pub named_in : (ev f : ℕ) (p : List ℕ) → List (List ℕ)
named_in ev f p = parts_of f (merged_fields ev (fields_of p))

-- those that a cursor has before it
abbrev pub left_in : (ev f : ℕ) (p : List ℕ) → Cursor → List (List ℕ)
left_in ev f p c = inner_from ev f p c

unfoldable pub list_of : ℕ → Listing → List (List ℕ) → List ℕ → List (List ℕ)
list_of ev which old p = filter (is_listed which old (named_in ev 2 p)) (sorted (named_in ev (field_of which) p))
