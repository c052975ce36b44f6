-- Internal: cited by the contracts of helpers alone; whoever reads the claims may skip it.
--
-- The steps of the program: how long to wait for a window, for the first of some, and the first open second of a term
-- and of some. `largest` stands for none: no second of a term is that late.
-- Assumes nothing.
use Rattle.std.specs.Prelude.{ℕ, ◌+◌, ◌-◌, min, max, cond, List, [], ◌∷◌, leb, ltb, Option, Some, None}
use Rattle.hours.specs.declared.Span.{Span}
use Rattle.hours.specs.Contract.{week, largest, term_count, window_count, is_contract}
use Rattle.hours.specs.Hours.{second_of_week}

unfoldable pub shape_of : List ℕ → Option (ℕ × ℕ)
shape_of l = cond (is_contract l) (Some (term_count l, window_count l)) None

-- from a moment of the week to the window: it is there, or comes this week, or next week
unfoldable pub wait_for : (window : Span) (moment : ℕ) → ℕ
wait_for x moment =
    cond (leb x.start moment) (cond (ltb moment x.end) 0 (week - moment + x.start)) (x.start - moment)

unfoldable pub least_wait : (windows : List Span) (moment : ℕ) → ℕ
least_wait [] moment = largest
least_wait (x ∷ xs) moment = min (wait_for x moment) (least_wait xs moment)

-- the first second from low on that is in a window, where it is before the end
unfoldable pub first_from : (low end : ℕ) (windows : List Span) → ℕ
first_from low end windows =
    cond (ltb low end)
    (cond (ltb (least_wait windows (second_of_week low)) (end - low)) (low + least_wait windows (second_of_week low)) largest)
    largest

unfoldable pub first_in : (term : Span) (windows : List Span) (t : ℕ) → ℕ
first_in term windows t = first_from (max term.start t) term.end windows

unfoldable pub first_of : (terms windows : List Span) (t : ℕ) → ℕ
first_of [] windows t = largest
first_of (x ∷ xs) windows t = min (first_in x windows t) (first_of xs windows t)
