-- Public: worked rows of the fresh reckoning, and that bytes of zero are an empty window, as one proved table, by
-- computation.
-- Assumes nothing.
use Rattle.std.specs.Prelude.{ℕ, zero, suc, ◌≡◌, refl, List, [], ◌∷◌, ◌++◌, Result, Ok, Err}
use Rattle.refusal.specs.declared.Refusal.TheVariants.{InvalidWindow}
use Rattle.slice_int.specs.Be.{be_from, be, be_at}
use Rattle.churn.specs.Window.{window_size, mark_of, row_of, counts_in, is_window, held_in, counts_of}
use Rattle.churn.specs.Churn.{sum_of, largest_of}
use Rattle.churn.specs.Fresh.{Step, EmptyWindow, latest, after, kept_after, reckoning, fresh_answer, fresh_answers}
use Rattle.churn.specs.Fresh.Step.{count, clearing}
use Rattle.refusal.specs.declared.Refusal.{Refusal}
use Rattle.churn.specs.declared.Totals.{Totals}

abbrev pub counted : ℕ → ℕ → Result Totals Refusal
counted sum largest = Ok (record { sum = sum; largest = largest })

-- n, n - 1, .. 1 pushed
unfoldable pub falling : ℕ → List Step
falling zero = []
falling (suc n) = count (suc n) ∷ falling n

-- n counts of 1
unfoldable pub ones : ℕ → List Step
ones zero = []
ones (suc n) = count 1 ∷ ones n

unfoldable pub zeros : ℕ → List ℕ
zeros zero = []
zeros (suc n) = 0 ∷ zeros n

pub record Rows : Type 0 where
  pub zero-window : EmptyWindow (zeros window_size)
  -- no counts
  pub none : reckoning [] ≡ counted 0 0
  -- after each: sum and largest
  pub few :
      fresh_answers [] (count 3 ∷ count 0 ∷ count 5 ∷ count 2 ∷ [])
      ≡ counted 3 3 ∷ counted 3 3 ∷ counted 8 5 ∷ counted 10 5 ∷ []
  -- a clearing, and counts behind it
  pub clearings :
      fresh_answers [] (clearing ∷ count 7 ∷ clearing ∷ count 2 ∷ [])
      ≡ counted 0 0 ∷ counted 7 7 ∷ counted 0 0 ∷ counted 2 2 ∷ []
  -- 65,535 is counted, 65,536 is refused and not kept
  pub refused :
      fresh_answers [] (count 65535 ∷ count 65536 ∷ count 1 ∷ [])
      ≡ counted 65535 65535 ∷ Err InvalidWindow ∷ counted 65536 65535 ∷ []
  -- 256 counts are all reckoned: 256 + .. + 1
  pub full : reckoning (kept_after [] (falling 256)) ≡ counted 32896 256
  -- the 257th puts the first out, which was the largest
  pub one_more : reckoning (kept_after [] (falling 257)) ≡ counted 32896 256
  -- of 300 falling counts the latest 256 are 256 .. 1
  pub more : reckoning (kept_after [] (falling 300)) ≡ counted 32896 256
  -- behind a large count, 255 of 1 keep it and 256 do not
  pub still-in : reckoning (kept_after [] (count 900 ∷ ones 255)) ≡ counted 1155 900
  pub out-again : reckoning (kept_after [] (count 900 ∷ ones 256)) ≡ counted 256 1
  -- a refused count puts none out
  pub refused_none : reckoning (kept_after [] (count 900 ∷ (ones 255 ++ (count 65536 ∷ [])))) ≡ counted 1155 900

pub rows : Rows
unfolding be_from be be_at mark_of row_of counts_in is_window held_in counts_of zeros sum_of largest_of latest after kept_after
    fresh_answer fresh_answers falling ones
rows =
    record {
      zero-window = record { is-window = refl; no-counts = refl };
      none = refl;
      few = refl;
      clearings = refl;
      refused = refl;
      full = refl;
      one_more = refl;
      more = refl;
      still-in = refl;
      out-again = refl;
      refused_none = refl;
    }
