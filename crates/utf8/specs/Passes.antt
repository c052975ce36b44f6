-- Internal: cited by the contracts of helpers alone; whoever reads the claims may skip it.
--
-- What `eights_end`, `ascii_end`, `block_ascii` and `all_ascii` answer.
-- Assumes nothing.
use Rattle.std.specs.Prelude.{ℕ, ◌≤◌, ◌<◌, ◌≡◌, List, length, drop, get_or}
use Rattle.utf8.specs.Table.{is_utf8}

-- the bytes between two places may be passed over: what is behind them decides
pub record Passes (s : List ℕ) (from to : ℕ) : Type 0 where
  pub onward : from ≤ to
  pub inside : to ≤ length s
  pub same : is_utf8 (drop from s) ≡ is_utf8 (drop to s)

-- the bytes between two places are all of the first row
abbrev pub Ascii : (s : List ℕ) (from to : ℕ) → Type 0
Ascii s from to = (i : ℕ) → from ≤ i → i < to → get_or s i 0 ≤ 127
