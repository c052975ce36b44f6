-- Public: `core::cmp` of the Rust, as the standard library's documentation has it: `Ordering`, and the order of
-- numbers, of slices and so of `str`.
-- Assumes nothing.
use Rattle.std.specs.Prelude.{ℕ, Bool, true, false, cond, List, [], ◌∷◌, ◌==◌, nat_lt}
use Rattle.rust_magnetar.specs.Text.{Text}

pub data Ordering : Type 0 where
  Less Equal Greater : Ordering

-- match ordering { Less => a, Equal => b, Greater => c }
abbrev pub by_ordering : {A : Type 0} → Ordering → A → A → A → A
by_ordering Less a b c = a
by_ordering Equal a b c = b
by_ordering Greater a b c = c

-- Ordering::is_eq, Ordering::is_le
abbrev pub is_eq : Ordering → Bool
is_eq ordering = by_ordering ordering false true false

abbrev pub is_le : Ordering → Bool
is_le ordering = by_ordering ordering true true false

-- Ordering::then: the other where this one is `Equal`
abbrev pub then : Ordering → Ordering → Ordering
then ordering other = by_ordering ordering Less other Greater

-- Ord of u8, u32 and u64
abbrev pub number-cmp : ℕ → ℕ → Ordering
number-cmp a b = cond (nat_lt a b) Less (cond (a == b) Equal Greater)

-- Ord of a slice: "The first mismatching element defines which sequence is lexicographically less or greater than the
-- other. If one sequence is a prefix of another, the shorter sequence is lexicographically less than the other."
abbrev pub slice_cmp : {A : Type 0} → (A → A → Ordering) → List A → List A → Ordering
slice_cmp cmp [] [] = Equal
slice_cmp cmp [] (y ∷ ys) = Less
slice_cmp cmp (x ∷ xs) [] = Greater
slice_cmp cmp (x ∷ xs) (y ∷ ys) = then (cmp x y) (slice_cmp cmp xs ys)

-- Ord of str, and of String: "Strings are ordered lexicographically by their byte values."
abbrev pub str-cmp : Text → Text → Ordering
str-cmp a b = slice_cmp number-cmp a b
