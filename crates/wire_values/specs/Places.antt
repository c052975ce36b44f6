-- Public: what the functions of src/ answer: a field at the front of a part, and places in a message.
-- Assumes nothing.
use Rattle.std.specs.Prelude.{ℕ, zero, suc, ◌+◌, ◌-◌, ◌≤◌, ◌<◌, ◌≡◌, cond, List, [], ◌∷◌, ◌++◌, length, take, drop, eqb, Option, Some, None}
use Rattle.wire.specs.declared.Body.{Body}
use Rattle.wire.specs.declared.Body.TheVariants as body
use Rattle.wire.specs.Field.{key_read, body_of}
use Rattle.wire.specs.Fields.{fields_of}
use Rattle.wire_values.specs.declared.Front.{Front}
use Rattle.wire_values.specs.declared.Front.TheVariants as front
use Rattle.wire_values.specs.declared.Span.{Span}
use Rattle.wire_values.specs.declared.Cursor.{Cursor}
use Rattle.wire_values.specs.Values.{parts_of, join_fields}
use Rattle.wire.specs.declared.WireType.{WireType}

-- ---- the field at the front of a part

abbrev pub front_from : ℕ → ℕ → Option Body → Option Front
front_from f n (Some (body.Number v m)) = Some (front.Number f v (n + m))
front_from f n (Some (body.Fixed m)) = Some (front.Fixed (n + m))
front_from f n (Some (body.Part m len)) = Some (front.Part f (n + m) len)
front_from f n None = None

abbrev pub front_by : Option (ℕ × WireType × ℕ) → List ℕ → Option Front
front_by (Some (f, w, n)) l = front_from f n (body_of w (drop n l))
front_by None l = None

unfoldable pub front_of : List ℕ → Option Front
front_of l = front_by (key_read l) l

-- ---- where the parts of a field stand

-- where a part starts, and its length
abbrev pub span : (start len : ℕ) → Span
span start len = record { start = start; length = len }

-- a field's length; 0 where it is broken
abbrev pub front_size : Option Front → ℕ
front_size (Some (front.Number f v size)) = size
front_size (Some (front.Part f start len)) = start + len
front_size (Some (front.Fixed size)) = size
front_size None = 0

-- the field at the place `at` of a message, and the places behind it; a broken field is the last
abbrev pub places_by : (n at : ℕ) → Option Front → List Span → List Span
places_by n at (Some (front.Number f v size)) ps = ps
places_by n at (Some (front.Part f start len)) ps = cond (eqb f n) (span (at + start) len ∷ ps) ps
places_by n at (Some (front.Fixed size)) ps = ps
places_by n at None ps = []

-- the walk of `fields_after`, over a list that stands at the place `at` of its message and whose first `skip` bytes belong to a field before
abbrev pub places_after : (n at skip : ℕ) → List ℕ → List Span
places_after n at skip [] = []
places_after n at (suc skip) (b ∷ l) = places_after n (at + 1) skip l
places_after n at zero (b ∷ l) = places_by n at (front_of (b ∷ l)) (places_after n (at + 1) (front_size (front_of (b ∷ l)) - 1) l)

-- from the place `at` of a message on
unfoldable pub places_from : ℕ → List ℕ → ℕ → List Span
places_from n s at = places_after n at 0 (drop at s)

-- the last of the places, or what was there before them
abbrev pub last_place : Option Span → List Span → Option Span
last_place x [] = x
last_place x (p ∷ ps) = last_place (Some p) ps

-- the place of the last part of field n in a message. The parts at the places are those of the row of fields: `placed` of proofs/TextLaws
abbrev pub text_place : ℕ → List ℕ → Option Span
text_place n s = last_place None (places_from n s 0)

-- the text is the part of the message that starts at a place and has this length
pub record PartIs (message text : List ℕ) (start len : ℕ) : Type 0 where
  pub inside : start + len ≤ length message
  pub is-text : take len (drop start message) ≡ text

-- start and length are those of the place; where there is none they are free, but for an empty part of the message
abbrev pub PlaceIs : (message : List ℕ) → Option Span → (start len : ℕ) → Type 0
PlaceIs message (Some p) start len = (start ≡ p.start) × (len ≡ p.length)
PlaceIs message None start len = PartIs message [] start len

-- ---- the parts of a field, one after the other

-- from the place `from` on: the first part, inside the message and behind `from`, and those from the place `next` on; or none
abbrev pub NextPart : (n : ℕ) (s : List ℕ) (from : ℕ) → Option (ℕ × ℕ × ℕ) → Type 0
NextPart n s from (Some (start, len, next)) =
    (from < start) × (next ≡ start + len) × (next ≤ length s)
    × (parts_of n (fields_of (drop from s)) ≡ take len (drop start s) ∷ parts_of n (fields_of (drop next s)))
    × (places_from n s from ≡ span start len ∷ places_from n s next)
NextPart n s from None = parts_of n (fields_of (drop from s)) ≡ []

-- ---- the parts of field k in the singular message of field n, one after the other

-- those that a cursor has before it: in this part of field n from its place on, then in the later parts
abbrev pub inner_from : (n k : ℕ) (m : List ℕ) → Cursor → List (List ℕ)
inner_from n k m c = parts_of k (fields_of (drop c.at (take c.end m))) ++ parts_of k (join_fields (parts_of n (fields_of (drop c.outer m))))

-- a cursor whose place and end lie before the next part of field n
pub record Inside (m : List ℕ) (c : Cursor) : Type 0 where
  pub at-outer : c.at ≤ c.outer
  pub end-outer : c.end ≤ c.outer
  pub end-length : c.end ≤ length m

-- the first part, inside the message, and the cursor behind it, which is further on; or none
abbrev pub NextInner : (n k : ℕ) (m : List ℕ) → Cursor → Option (ℕ × ℕ × Cursor) → Type 0
NextInner n k m c (Some (start, len, d)) =
    (start + len ≤ length m) × (c.at < d.at) × (d.at ≤ length m) × Inside m d
    × (inner_from n k m c ≡ take len (drop start m) ∷ inner_from n k m d)
NextInner n k m c None = inner_from n k m c ≡ []
