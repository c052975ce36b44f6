-- Public: "Two desks, two deltas" (02 k) of the calls join and apply, over any bytes: deltas that name no id in common
-- may be joined in either order.
--
-- The two joins are both written, with the same length, or both refused for the same reason (20 or 21). What is
-- written differs at most in the epoch, the first 8 bytes: a join has that of its second delta. Applied to any bytes,
-- the two joined deltas again are both written or both refused for the same reason (20, 15 or 21), and what is written
-- differs at most in the epoch.
-- Of values, of any size, the law is crates/packed_delta/proofs/CommuteLaws. That the hypothesis is needed is Needed.antt.
-- Assumes nothing.
use Rattle.std.specs.Prelude.{ℕ, ◌≡◌, List, take, drop, Ok}
use Rattle.output.specs.Output.{Outcome}
use Rattle.packed_delta.specs.Delta.{decode_delta}
use Rattle.packed_delta.specs.Join.{Apart}
use Rattle.packed_join.specs.JoinOutcome.{join_outcome}
use Rattle.packed_apply.specs.ApplyOutcome.{apply_outcome}

-- "differ at most in the epoch": the same answer, and the same output but for its first 8 bytes
pub record SameButEpoch (x y : Outcome) : Type 0 where
  pub answer : x.answer ≡ y.answer
  pub behind : drop 8 x.out ≡ drop 8 y.out

-- the n bytes that join has written to the output
abbrev pub joined_bytes : ℕ → List ℕ → List ℕ → List ℕ → List ℕ
joined_bytes n d e out = take n (join_outcome d e out).out

-- both orders of the deltas d and e: an output for join, a packed assignment, and an output for apply
pub record EitherOrder (d e : List ℕ) : Type 0 where
  pub joins : (out : List ℕ) → SameButEpoch (join_outcome d e out) (join_outcome e d out)
  pub applied : (out assignment room : List ℕ) (n : ℕ) → (join_outcome d e out).answer ≡ Ok n
      → SameButEpoch (apply_outcome assignment (joined_bytes n d e out) room)
      (apply_outcome assignment (joined_bytes n e d out) room)

-- the law
abbrev pub Law : Type 0
Law = (d e : List ℕ) → Apart (decode_delta d) (decode_delta e) → EitherOrder d e
