-- Public: the values of a message's fields, over its row of fields.
--
-- `numbers_of` and `parts_of` give all values that a field holds, in byte order. "A singular scalar or text given twice now has its last value. A singular
-- message given twice is merged: scalars by the last, repeated parts appended" (02 b): the last is `last_of` and `last_part`; the fields of a singular message are
-- those of all its parts, in order (`merged_fields`). Of a oneof the last member counts (`member_of`). All this is said here, and asked of no earlier pass.
-- Assumes nothing.
use Rattle.std.specs.Prelude.{ℕ, Bool, true, false, cond, List, [], ◌∷◌, ◌++◌, eqb, Option, Some, None}
use Rattle.wire.specs.Fields.{number, bytes, fixed, cut, Field, bad_key, field, fields_of}

-- the numbers that field n holds, each time that it comes
abbrev pub numbers_of : ℕ → List Field → List ℕ
numbers_of n [] = []
numbers_of n (bad_key ∷ fs) = numbers_of n fs
numbers_of n (field f w (number v) ∷ fs) = cond (eqb f n) (v ∷ numbers_of n fs) (numbers_of n fs)
numbers_of n (field f w (bytes l) ∷ fs) = numbers_of n fs
numbers_of n (field f w fixed ∷ fs) = numbers_of n fs
numbers_of n (field f w cut ∷ fs) = numbers_of n fs

-- the parts that field n holds, each time that it comes
abbrev pub parts_of : ℕ → List Field → List (List ℕ)
parts_of n [] = []
parts_of n (bad_key ∷ fs) = parts_of n fs
parts_of n (field f w (number v) ∷ fs) = parts_of n fs
parts_of n (field f w (bytes l) ∷ fs) = cond (eqb f n) (l ∷ parts_of n fs) (parts_of n fs)
parts_of n (field f w fixed ∷ fs) = parts_of n fs
parts_of n (field f w cut ∷ fs) = parts_of n fs

-- there is one
abbrev pub present : {A : Type 0} → List A → Bool
present [] = false
present (x ∷ l) = true

-- the last of the numbers, or what was there before them
abbrev pub last_after : Option ℕ → List ℕ → Option ℕ
last_after x [] = x
last_after x (v ∷ l) = last_after (Some v) l

abbrev pub last_of : List ℕ → Option ℕ
last_of l = last_after None l

-- the last of the parts, or what was there before them
abbrev pub last_part_after : List ℕ → List (List ℕ) → List ℕ
last_part_after p [] = p
last_part_after p (q ∷ ps) = last_part_after q ps

-- the last of the parts, empty where there is none
abbrev pub last_part : List (List ℕ) → List ℕ
last_part ps = last_part_after [] ps

-- the rows of fields of all the parts, one behind the other
abbrev pub join_fields : List (List ℕ) → List Field
join_fields [] = []
join_fields (p ∷ ps) = fields_of p ++ join_fields ps

-- the fields of the singular message in field n
abbrev pub merged_fields : ℕ → List Field → List Field
merged_fields n fs = join_fields (parts_of n fs)

-- a number that may be absent; 0 where it is
abbrev pub or_zero : Option ℕ → ℕ
or_zero (Some v) = v
or_zero None = 0

-- the number of field n, 0 where it is absent
abbrev pub number_in : ℕ → List Field → ℕ
number_in n fs = or_zero (last_of (numbers_of n fs))

-- ---- a oneof, by the numbers of its members, which hold messages

-- the member that a message holds: its number and its fields
pub data Member : Type 0 where
  absent : Member
  holds : ℕ → List Field → Member

-- "the last of fields 2 and 3 wins; the same one again, with the other not between, is merged" (02 b): member n, with these fields, behind what was there
abbrev pub member_behind : Member → ℕ → List Field → Member
member_behind absent n fs = holds n fs
member_behind (holds k before) n fs = cond (eqb k n) (holds n (before ++ fs)) (holds n fs)

-- n is one of the members
abbrev pub is_member : ℕ → List ℕ → Bool
is_member n [] = false
is_member n (k ∷ ks) = cond (eqb n k) true (is_member n ks)

-- one more part, in field f
abbrev pub member_by : List ℕ → Member → ℕ → List ℕ → Member
member_by ks m f p = cond (is_member f ks) (member_behind m f (fields_of p)) m

abbrev pub member_after : List ℕ → Member → List Field → Member
member_after ks m [] = m
member_after ks m (bad_key ∷ fs) = member_after ks m fs
member_after ks m (field f w (number v) ∷ fs) = member_after ks m fs
member_after ks m (field f w (bytes p) ∷ fs) = member_after ks (member_by ks m f p) fs
member_after ks m (field f w fixed ∷ fs) = member_after ks m fs
member_after ks m (field f w cut ∷ fs) = member_after ks m fs

abbrev pub member_of : List ℕ → List Field → Member
member_of ks fs = member_after ks absent fs
