-- Public: types.rs: `KeyRange` and its calls. The structs and the error are those of the crate types, which have the
-- Rust's names and fields.
-- Assumes nothing.
use Rattle.std.specs.Prelude.{ℕ, ◌+◌, ◌-◌, Bool, cond, ◌&&◌, ◌||◌, ◌==◌, nat_le, nat_lt}
use Rattle.topic_types.specs.declared.KeyRange.{KeyRange}
use Rattle.topic_types.specs.declared.KeyRangeError.{KeyRangeError}
use Rattle.topic_types.specs.declared.KeyRangeError.TheVariants.{StartOutOfBounds, EndOutOfBounds, Reversed}
use Rattle.rust_magnetar.specs.Result.{Result, Ok, Err}

abbrev pub MAX-HASH : ℕ
MAX-HASH = 65535

-- KeyRange::new
abbrev pub KeyRange-new : ℕ → ℕ → Result KeyRange KeyRangeError
KeyRange-new start end =
    cond (nat_lt MAX-HASH start) (Err (StartOutOfBounds start))
    (cond (nat_lt MAX-HASH end) (Err (EndOutOfBounds end))
    (cond (nat_lt end start) (Err (Reversed start end))
    (Ok (record { start = start; end = end }))))

abbrev pub KeyRange-len : KeyRange → ℕ
KeyRange-len self = self.end - self.start + 1

abbrev pub KeyRange-contains : KeyRange → ℕ → Bool
KeyRange-contains self hash = nat_le self.start hash && nat_le hash self.end

abbrev pub KeyRange-contains-range : KeyRange → KeyRange → Bool
KeyRange-contains-range self other = nat_le self.start other.start && nat_le other.end self.end

abbrev pub KeyRange-is-adjacent-to : KeyRange → KeyRange → Bool
KeyRange-is-adjacent-to self other =
    (nat_lt self.end MAX-HASH && self.end + 1 == other.start) || (nat_lt other.end MAX-HASH && other.end + 1 == self.start)

-- #[derive(PartialEq, PartialOrd, Ord)]: start, then end
abbrev pub KeyRange-eq : KeyRange → KeyRange → Bool
KeyRange-eq a b = a.start == b.start && a.end == b.end

abbrev pub KeyRange-le : KeyRange → KeyRange → Bool
KeyRange-le a b = nat_lt a.start b.start || (a.start == b.start && nat_le a.end b.end)
