-- Public: `Result` and `?` of the Rust: `x ← e` is `let x = e?;`.
-- Assumes nothing.
use Rattle.std.specs.Prelude.{Option, Some, None}

pub data Result (A E : Type 0) : Type 0 where
  Ok : A → Result A E
  Err : E → Result A E

infixl 10 ◌>>=◌
abbrev pub ◌>>=◌ : {A B E : Type 0} → Result A E → (A → Result B E) → Result B E
◌>>=◌ (Ok a) f = f a
◌>>=◌ (Err e) f = Err e

-- Result::map_err, and the conversion of an error that `?` makes by `From`
abbrev pub map-err : {A E F : Type 0} → (E → F) → Result A E → Result A F
map-err g (Ok a) = Ok a
map-err g (Err e) = Err (g e)

-- Option::ok_or; `let Some(x) = e else { return Err(error) };`
abbrev pub ok_or : {A E : Type 0} → E → Option A → Result A E
ok_or error None = Err error
ok_or error (Some a) = Ok a
