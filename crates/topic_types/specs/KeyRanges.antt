-- Public: ranges of the 16-bit key space (01, Ranges), and why two numbers are none.
--
-- `new_key_range` is the Rust's `KeyRange::new`. `error_kind` and `error_numbers` give what a refusal attaches: the kind, 1 to 3, and that kind's own
-- numbers in the order of the Rust's fields.
-- Assumes nothing.
use Rattle.std.specs.Prelude.{ℕ, cond, List, [], ◌∷◌, ltb, Result, Ok, Err}
use Rattle.topic_types.specs.declared.KeyRange.{KeyRange}
use Rattle.topic_types.specs.declared.KeyRangeError.{KeyRangeError}
use Rattle.topic_types.specs.declared.KeyRangeError.TheVariants.{StartOutOfBounds, EndOutOfBounds, Reversed}

-- the highest value of the key space
abbrev pub max_hash : ℕ
max_hash = 65535

-- the range from start to end
abbrev pub key_range : (start end : ℕ) → KeyRange
key_range start end = record { start = start; end = end }

-- "start above 65,535, then end above 65,535, then end below start"
unfoldable pub new_key_range : (start end : ℕ) → Result KeyRange KeyRangeError
new_key_range start end =
    cond (ltb max_hash start) (Err (StartOutOfBounds start))
    (cond (ltb max_hash end) (Err (EndOutOfBounds end))
    (cond (ltb end start) (Err (Reversed start end)) (Ok (key_range start end))))

-- "kinds 1, 2, 3"
unfoldable pub error_kind : KeyRangeError → ℕ
error_kind (StartOutOfBounds s) = 1
error_kind (EndOutOfBounds e) = 2
error_kind (Reversed s e) = 3

-- a kind's own numbers
unfoldable pub error_numbers : KeyRangeError → List ℕ
error_numbers (StartOutOfBounds s) = s ∷ []
error_numbers (EndOutOfBounds e) = e ∷ []
error_numbers (Reversed s e) = s ∷ e ∷ []
