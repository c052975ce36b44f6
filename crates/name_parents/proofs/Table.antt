-- The rule of a table: a table of a rule's values, one after the other, has the rule's value at each place. That a table of the source is
-- that list is one comparison, which antt computes over all of its entries.
--
-- In order: such a table (`values`), and its entry at a place (`values-at`).
-- Assumes nothing.
use Prim.Native.Nat.{ℕ, zero, suc, ◌+◌, ◌<◌}
use native.Mathlib.Omega.{arith}
use mathlib.Core.Path.{◌≡◌, ap, ◌∙◌}
use mathlib.Core.List.{List, [], ◌∷◌}
use lib.ListN.{get_or}

-- the rule's values at the n places from i on
abbrev pub values : (ℕ → ℕ) → ℕ → ℕ → List ℕ
values rule i zero = []
values rule i (suc n) = rule i ∷ values rule (suc i) n

values-from : (rule : ℕ → ℕ) (i n k : ℕ) → k < n → get_or (values rule i n) k 0 ≡ rule (i + k)
values-from rule i zero k h = absurd (omega arith)
values-from rule i (suc n) zero h = let e : i + zero ≡ i = omega arith in rw e
values-from rule i (suc n) (suc k) h =
    let e : i + suc k ≡ suc i + k = omega arith in
    rw e (values-from rule (suc i) n k (omega arith))

pub values-at : (rule : ℕ → ℕ) (n k : ℕ) → k < n → get_or (values rule 0 n) k 0 ≡ rule k
values-at rule n k h = values-from rule 0 n k h ∙ ap rule (omega arith)
