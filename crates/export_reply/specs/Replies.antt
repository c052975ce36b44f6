-- Public: answers in numbers, for callers in C: which answer it is, 01's number of a refusal, and the values that come
-- with it.
-- Assumes nothing.
use Rattle.std.specs.Prelude.{ℕ, zero, suc, ◌-◌, ◌^◌, Bool, cond, List, [], ◌∷◌, ℤ, pos, negsuc, length}
use Rattle.refusal.specs.declared.Refusal.{Refusal}
use Rattle.refusal.specs.Refusals.{number_of, values_of}
use Rattle.export_reply.specs.declared.Reply.{Reply}

-- an integer as a word of 64 bits, two's complement
unfoldable pub word_of : ℤ → ℕ
word_of (pos n) = n
word_of (negsuc n) = 2 ^ 64 - 1 - n

-- the k-th of the values, 0 where there are fewer
unfoldable pub word_at : ℕ → List ℤ → ℕ
word_at k [] = 0
word_at zero (v ∷ vs) = word_of v
word_at (suc k) (v ∷ vs) = word_at k vs

-- an answer with its values
unfoldable pub reply_with : (answer number : ℕ) (values : List ℤ) → Reply
reply_with answer number values =
    record {
      answer = answer;
      number = number;
      count = length values;
      first = word_at 0 values;
      second = word_at 1 values;
      third = word_at 2 values;
      fourth = word_at 3 values;
    }

-- ---- which answer it is

abbrev pub refused : ℕ
refused = 0

abbrev pub accepted : ℕ
accepted = 1

abbrev pub unchanged : ℕ
unchanged = 2

abbrev pub delta : ℕ
delta = 3

abbrev pub replay : ℕ
replay = 4

abbrev pub written : ℕ
written = 5

abbrev pub yes : ℕ
yes = 6

abbrev pub no : ℕ
no = 7

abbrev pub found : ℕ
found = 8

-- "number, attached numbers (those of the Rust's variant, else none)"
unfoldable pub refused_reply : Refusal → Reply
refused_reply x = reply_with refused (number_of x) (values_of x)

-- an answer that is no refusal
abbrev pub taken_reply : ℕ → List ℤ → Reply
taken_reply answer values = reply_with answer 0 values

unfoldable pub test_reply : Bool → Reply
test_reply b = taken_reply (cond b yes no) []
