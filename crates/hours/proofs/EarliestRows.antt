-- Worked cases of `Earliest`: what the program finds, by computation, is the least of all open seconds. The contract is
-- that of specs/Rows, around the leap day of 2024.
-- Assumes nothing.
use Rattle.std.specs.Prelude.{Some, None, Ok}
use mathlib.Core.Path.{refl}
use native.Mathlib.Omega.{arith}
use mathlib.Core.List.{List}
use Prim.Native.Nat.{ℕ}
use Rattle.slice_int.specs.Be.{be_from, be, be_at, bytes_of}
use Rattle.hours.specs.Contract.{span_of, spans_of, term_count, window_count, terms_of, windows_of, ok_spans, is_contract}
use Rattle.hours.specs.Hours.{Earliest}
use Rattle.hours.specs.Steps.{shape_of, wait_for, least_wait, first_from, first_in, first_of}
use Rattle.hours.specs.Rows.{leap_day, weekly, contract_bytes}
use Rattle.hours.proofs.SpanLaws.{Shaped, shaped}
use Rattle.hours.proofs.HoursLaws.{earliest-at, earliest-none}

abbrev contract : List ℕ
contract = contract_bytes leap_day weekly

is-contract : Shaped contract 1 4
unfolding be_from be be_at bytes_of span_of spans_of term_count window_count terms_of windows_of ok_spans is_contract shape_of
is-contract = shaped contract 1 4 refl

pub record EarliestRows : Type 0 where
  -- from the first second of time on: Thursday 2024-02-29 06:00:00
  pub from_zero : Earliest contract 0 (Ok (Some 762501600))
  -- an open second is its own answer: the last one before Thursday's end, at 08:59:59
  pub itself : Earliest contract 762512399 (Ok (Some 762512399))
  -- from that end on: Friday 2024-03-01 22:00:00
  pub next-window : Earliest contract 762512400 (Ok (Some 762645600))
  -- the week's turn
  pub turn : Earliest contract 762652800 (Ok (Some 762652800))
  -- behind Saturday's window the term ends before another starts
  pub none : Earliest contract 762656400 (Ok None)

pub earliest-rows : EarliestRows
unfolding be_from be be_at bytes_of span_of spans_of wait_for least_wait first_from first_in first_of
earliest-rows = record {
  from_zero = earliest-at contract 0 1 4 is-contract 762501600 refl (omega arith);
  itself = earliest-at contract 762512399 1 4 is-contract 762512399 refl (omega arith);
  next-window = earliest-at contract 762512400 1 4 is-contract 762645600 refl (omega arith);
  turn = earliest-at contract 762652800 1 4 is-contract 762652800 refl (omega arith);
  none = earliest-none contract 762656400 1 4 is-contract 18446744073709551615 refl refl;
}
