-- Public: the claim (02 n): "For every list of counts and clearings from an empty window, both answers equal a fresh
-- reckoning over the latest 256 counts not refused since the last clearing, and are 0 when there are none."
-- Assumes nothing.
use Rattle.std.specs.Prelude.{ℕ, ◌-◌, ◌≤◌, ◌≡◌, true, cond, List, [], ◌∷◌, ◌++◌, length, drop, ltb, Result, Ok, Err}
use Rattle.refusal.specs.declared.Refusal.TheVariants.{InvalidWindow}
use Rattle.churn.specs.Window.{places, most_lost, window_size, is_window, counts_of}
use Rattle.churn.specs.Churn.{ChurnOutcome, totals_of, push, clear, current}
use Rattle.refusal.specs.declared.Refusal.{Refusal}
use Rattle.churn.specs.declared.Totals.{Totals}

-- what the station does with a window
pub data Step : Type 0 where
  count : ℕ → Step
  clearing : Step

-- "an empty window": one that holds no counts
pub record EmptyWindow (w : List ℕ) : Type 0 where
  pub is-window : is_window w ≡ true
  pub no-counts : counts_of w ≡ []

-- ---- the calls

unfoldable pub step_on : List ℕ → Step → ChurnOutcome
step_on w (count c) = push w c
step_on w clearing = clear w

unfoldable pub answers_on : List ℕ → List Step → List (Result Totals Refusal)
answers_on w [] = []
answers_on w (x ∷ xs) = (step_on w x).answer ∷ answers_on (step_on w x).window xs

-- the window's bytes behind them
unfoldable pub window_after : List ℕ → List Step → List ℕ
window_after w [] = w
window_after w (x ∷ xs) = window_after (step_on w x).window xs

-- ---- the fresh reckoning

-- the last n elements of a list
unfoldable pub latest : ℕ → List ℕ → List ℕ
latest n l = drop (length l - n) l

-- "counts not refused since the last clearing", after a step
unfoldable pub after : List ℕ → Step → List ℕ
after kept (count c) = cond (ltb most_lost c) kept (kept ++ (c ∷ []))
after kept clearing = []

unfoldable pub kept_after : List ℕ → List Step → List ℕ
kept_after kept [] = kept
kept_after kept (x ∷ xs) = kept_after (after kept x) xs

-- "a fresh reckoning over the latest 256 counts"
abbrev pub reckoning : List ℕ → Result Totals Refusal
reckoning kept = Ok (totals_of (latest places kept))

-- 38, else the reckoning with the step
unfoldable pub fresh_answer : List ℕ → Step → Result Totals Refusal
fresh_answer kept (count c) = cond (ltb most_lost c) (Err InvalidWindow) (reckoning (after kept (count c)))
fresh_answer kept clearing = reckoning (after kept clearing)

unfoldable pub fresh_answers : List ℕ → List Step → List (Result Totals Refusal)
fresh_answers kept [] = []
fresh_answers kept (x ∷ xs) = fresh_answer kept x ∷ fresh_answers (after kept x) xs

-- ---- the claims

-- "For every list of counts and clearings from an empty window"
abbrev pub Fresh : Type 0
Fresh = (w : List ℕ) (xs : List Step) → EmptyWindow w → answers_on w xs ≡ fresh_answers [] xs

-- and so are both answers asked for behind any such list
abbrev pub FreshCurrent : Type 0
FreshCurrent = (w : List ℕ) (xs : List Step) → EmptyWindow w → current (window_after w xs) ≡ reckoning (kept_after [] xs)

-- any memory of the window's size, cleared, is an empty window
abbrev pub ClearedEmpty : Type 0
ClearedEmpty = (w : List ℕ) → window_size ≤ length w → EmptyWindow (clear w).window
