-- Public: worked cases of the definitions, by computation: days of the calendar as seconds of the week, a term around
-- the leap day of 2024, the week's turn, and bytes that are 35. The seconds since 2000-01-01 are those of Python's
-- datetime. The earliest second of the same contract: proofs/EarliestRows.
-- Assumes nothing.
use Rattle.std.specs.Prelude.{ℕ, ◌≡◌, refl, true, false, List, [], ◌∷◌, ◌++◌, length, replicate, Ok, Err}
use Rattle.slice_int.specs.Be.{be_from, be, be_at, bytes_of}
use Rattle.refusal.specs.declared.Refusal.TheVariants.{InvalidContract}
use Rattle.hours.specs.declared.Span.{Span}
use Rattle.hours.specs.Contract.{span_of, spans_of, term_count, window_count, terms_of, windows_of, ok_spans, is_contract}
use Rattle.hours.specs.Hours.{any_holds, second_of_week, open_in, is_open_at, open_answer}

-- ---- the calendar

pub record Calendar : Type 0 where
  -- Saturday 2000-01-01 00:00:00; the last second of Friday 2000-01-07, and the next
  pub first : second_of_week 0 ≡ 0
  pub friday : second_of_week 604799 ≡ 604799
  pub saturday : second_of_week 604800 ≡ 0
  -- Tuesday 2000-02-29, Thursday 2024-02-29, Monday 2100-03-01, each at 00:00: 3, 5 and 2 days behind Saturday
  pub leap-2000 : second_of_week 5097600 ≡ 259200
  pub leap-2024 : second_of_week 762480000 ≡ 432000
  pub march-2100 : second_of_week 3160857600 ≡ 172800

pub calendar : Calendar
calendar = record {
  first = refl;
  friday = refl;
  saturday = refl;
  leap-2000 = refl;
  leap-2024 = refl;
  march-2100 = refl;
}

-- ---- open and closed

abbrev pub span : (a b : ℕ) → Span
span a b = record { start = a; end = b }

-- from Thursday 2024-02-29 00:00 to Saturday 2024-03-02 12:00
abbrev pub leap_day : List Span
leap_day = span 762480000 762696000 ∷ []

-- Thursdays 06:00 to 08:00 and 07:00 to 09:00; Fridays from 22:00 to the end of the week; Saturdays until 01:00
abbrev pub weekly : List Span
weekly = span 453600 460800 ∷ span 457200 464400 ∷ span 597600 604800 ∷ span 0 3600 ∷ []

pub record OpenRows : Type 0 where
  -- Thursday 05:59:59, 06:00:00, 07:30:00 (in two windows), 08:59:59, 09:00:00
  pub before-start : open_in leap_day weekly 762501599 ≡ false
  pub at-start : open_in leap_day weekly 762501600 ≡ true
  pub overlap : open_in leap_day weekly 762507000 ≡ true
  pub before-end : open_in leap_day weekly 762512399 ≡ true
  pub at-end : open_in leap_day weekly 762512400 ≡ false
  -- Friday 23:59:59, Saturday 00:00:00; without the window of Saturdays
  pub last-of-week : open_in leap_day weekly 762652799 ≡ true
  pub first-of-week : open_in leap_day weekly 762652800 ≡ true
  pub end-of-week : open_in leap_day (span 597600 604800 ∷ []) 762652800 ≡ false
  -- Saturday a week later: no term holds it; a term that ends there; no term; no window
  pub week-later : open_in leap_day weekly 763257600 ≡ false
  pub at-term-end : open_in (span 762480000 762652800 ∷ []) weekly 762652800 ≡ false
  pub no-term : open_in [] weekly 762501600 ≡ false
  pub no-window : open_in leap_day [] 762501600 ≡ false

pub open-rows : OpenRows
unfolding any_holds open_in
open-rows = record {
  before-start = refl;
  at-start = refl;
  overlap = refl;
  before-end = refl;
  at-end = refl;
  last-of-week = refl;
  first-of-week = refl;
  end-of-week = refl;
  week-later = refl;
  at-term-end = refl;
  no-term = refl;
  no-window = refl;
}

-- ---- bytes

abbrev pub span_bytes : List Span → List ℕ
span_bytes [] = []
span_bytes (x ∷ xs) = bytes_of 8 x.start ++ bytes_of 8 x.end ++ span_bytes xs

-- terms and windows in their layout
abbrev pub contract_bytes : List Span → List Span → List ℕ
contract_bytes terms windows =
    bytes_of 2 (length terms) ++ bytes_of 2 (length windows) ++ span_bytes terms ++ span_bytes windows

-- the first second of time, and the first of each week
abbrev pub instant : Span
instant = span 0 1

pub record ByteRows : Type 0 where
  -- Friday 23:59:59, Saturday 01:00:00; neither terms nor windows
  pub inside : open_answer (contract_bytes leap_day weekly) 762652799 ≡ Ok true
  pub outside : open_answer (contract_bytes leap_day weekly) 762656400 ≡ Ok false
  pub bare : open_answer (contract_bytes [] []) 0 ≡ Ok false
  -- the most terms and windows, and one more
  pub most : open_answer (contract_bytes (replicate 64 instant) (replicate 28 instant)) 0 ≡ Ok true
  pub terms-65 : open_answer (contract_bytes (replicate 65 instant) []) 0 ≡ Err InvalidContract
  pub windows-29 : open_answer (contract_bytes [] (replicate 29 instant)) 0 ≡ Err InvalidContract
  -- a window that ends with the week, and a second later; ends at the start, of a term and of a window
  pub week-end : is_contract (contract_bytes [] (span 604799 604800 ∷ [])) ≡ true
  pub beyond : is_contract (contract_bytes [] (span 604799 604801 ∷ [])) ≡ false
  pub empty-term : is_contract (contract_bytes (span 7 7 ∷ []) []) ≡ false
  pub empty-window : is_contract (contract_bytes [] (span 7 7 ∷ [])) ≡ false
  -- no bytes, and a byte left over
  pub no_bytes : is_contract [] ≡ false
  pub left_over : is_contract (contract_bytes [] [] ++ (0 ∷ [])) ≡ false

pub byte-rows : ByteRows
unfolding be_from be be_at bytes_of span_of spans_of term_count window_count terms_of windows_of ok_spans is_contract any_holds open_in is_open_at open_answer
byte-rows = record {
  inside = refl;
  outside = refl;
  bare = refl;
  most = refl;
  terms-65 = refl;
  windows-29 = refl;
  week-end = refl;
  beyond = refl;
  empty-term = refl;
  empty-window = refl;
  no_bytes = refl;
  left_over = refl;
}
