-- Public: the calls on a contract (02, request f): "whether a second is open, and the earliest open second not before a
-- given one, or none if there is none."
--
-- The earliest second is said as what it is, the least of a set of seconds, and not by a way to find it;
-- `earliest-one` of proofs/HoursLaws shows that no two answers meet it. specs/Rows has worked cases.
-- Assumes nothing.
use Rattle.std.specs.Prelude.{ℕ, ◌%◌, ◌≤◌, ◌≡◌, Bool, true, false, ◌&&◌, ◌||◌, List, [], ◌∷◌, leb, ltb, Option, Some, None, Result, Ok, Err}
use Rattle.refusal.specs.declared.Refusal.TheVariants.{InvalidContract}
use Rattle.refusal.specs.Steps.{◌>>◌, refuse_unless}
use Rattle.hours.specs.declared.Span.{Span}
use Rattle.hours.specs.Contract.{week, terms_of, windows_of, is_contract}
use Rattle.refusal.specs.declared.Refusal.{Refusal}

-- "Start is inside, end is outside"
abbrev pub holds : Span → ℕ → Bool
holds x t = leb x.start t && ltb t x.end

-- some of the spans holds it; "terms and windows may overlap"
unfoldable pub any_holds : List Span → ℕ → Bool
any_holds [] t = false
any_holds (x ∷ xs) t = holds x t || any_holds xs t

-- "since 2000-01-01 00:00 UTC, a Saturday", and "a week that starts on Saturday": second 0 starts a week
abbrev pub second_of_week : ℕ → ℕ
second_of_week t = t % week

-- "A second is open if some term and some weekly window hold it."
unfoldable pub open_in : (terms windows : List Span) (t : ℕ) → Bool
open_in terms windows t = any_holds terms t && any_holds windows (second_of_week t)

unfoldable pub is_open_at : (contract : List ℕ) (t : ℕ) → Bool
is_open_at contract t = open_in (terms_of contract) (windows_of contract) t

-- "whether a second is open"; 35 is "the only test"
unfoldable pub open_answer : (contract : List ℕ) (t : ℕ) → Result Bool Refusal
open_answer contract t = do
  refuse_unless Err (is_contract contract) InvalidContract  -- 35
  Ok (is_open_at contract t)

-- ---- the earliest

-- s is open, not before t, and no second from t on that is open is before it
pub record Least (opens : ℕ → Bool) (t s : ℕ) : Type 0 where
  pub is_open : opens s ≡ true
  pub not-before : t ≤ s
  pub least : (u : ℕ) → t ≤ u → opens u ≡ true → s ≤ u

-- no second from t on is open
abbrev pub Never : (ℕ → Bool) → ℕ → Type 0
Never opens t = (u : ℕ) → t ≤ u → opens u ≡ true → ⊥

-- "the earliest open second not before a given one, or none if there is none"; 35 is "the only test"
unfoldable pub Earliest : (contract : List ℕ) (t : ℕ) → Result (Option ℕ) Refusal → Type 0
Earliest contract t (Err x) = (is_contract contract ≡ false) × (x ≡ InvalidContract)
Earliest contract t (Ok (Some s)) = (is_contract contract ≡ true) × Least (is_open_at contract) t s
Earliest contract t (Ok None) = (is_contract contract ≡ true) × Never (is_open_at contract) t
