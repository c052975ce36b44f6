-- Public: the packed contract (02, request f): "A contract has up to 64 terms and up to 28 weekly windows, in seconds
-- of a week that starts on Saturday."
--
-- Its layout: term count 16 bits, window count 16 bits, then each term and each window as start 64 bits and end 64
-- bits, most significant bit first. A term is in seconds since 2000-01-01 00:00 UTC, a window in seconds of the week.
-- Reading is total: `terms_of` and `windows_of` give what the bytes say, and `is_contract` tests afterwards.
-- Assumes nothing.
use Rattle.std.specs.Prelude.{ℕ, zero, suc, ◌+◌, ◌*◌, Bool, true, ◌&&◌, List, [], ◌∷◌, length, drop, leb, ltb, eqb}
use Rattle.slice_int.specs.Be.{be_at}
use Rattle.hours.specs.declared.Span.{Span}

-- the seconds of a week
abbrev pub week : ℕ
week = 604800

-- the largest number of 64 bits
abbrev pub largest : ℕ
largest = 18446744073709551615

-- ---- from bytes to values

unfoldable pub span_of : List ℕ → Span
span_of l = record { start = be_at 8 l 0; end = be_at 8 l 8 }

unfoldable pub spans_of : ℕ → List ℕ → List Span
spans_of zero l = []
spans_of (suc n) l = span_of l ∷ spans_of n (drop 16 l)

unfoldable pub term_count : List ℕ → ℕ
term_count l = be_at 2 l 0

unfoldable pub window_count : List ℕ → ℕ
window_count l = be_at 2 l 2

unfoldable pub terms_of : List ℕ → List Span
terms_of l = spans_of (term_count l) (drop 4 l)

unfoldable pub windows_of : List ℕ → List Span
windows_of l = spans_of (window_count l) (drop (4 + 16 * term_count l) l)

-- ---- which bytes are a contract

-- each end is after its start, and none beyond the limit
unfoldable pub ok_spans : ℕ → List Span → Bool
ok_spans limit [] = true
ok_spans limit (x ∷ xs) = ltb x.start x.end && (leb x.end limit && ok_spans limit xs)

-- not "35, an end not after its start, a window beyond the week or a count too large"; a count is too large too where
-- the bytes do not hold so many, and none may be left over. "The end of a weekly window may be 604,800." Of a term it
-- may be any number of 64 bits.
unfoldable pub is_contract : List ℕ → Bool
is_contract l =
    leb (term_count l) 64
    && (leb (window_count l) 28
    && (eqb (4 + 16 * (term_count l + window_count l)) (length l)
    && (ok_spans largest (terms_of l)
    && ok_spans week (windows_of l))))
