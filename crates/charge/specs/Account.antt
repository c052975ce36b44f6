-- Public: what a list of holdings of one segment is charged (02, request l): "Over any list of holdings of one segment
-- the charges of those not refused add up to their exact total rounded down; a refused one leaves the remainder."
--
-- Each holding has a record of its own: the claim holds as well where the segment's range or buckets change from one
-- holding to the next. Its law is `adds-up` of proofs/AccountLaws; `remainder-left` there says what the remainder is.
-- Assumes nothing.
use Rattle.std.specs.Prelude.{ℕ, ◌+◌, ◌/◌, ◌≡◌, List, [], ◌∷◌, Result, Ok, Err}
use Rattle.charge.specs.Charge.{divisor, cost_of, charge_of}
use Rattle.refusal.specs.declared.Refusal.{Refusal}

pub record Holding : Type 0 where
  pub segment : List ℕ
  pub seconds : ℕ
  pub rate : ℕ

-- of the holdings not refused so far: their charges added up, their costs added up before any division; and the
-- remainder for the next holding
pub record Account : Type 0 where
  pub charged : ℕ
  pub exact : ℕ
  pub remainder : ℕ

-- "starting from 0"
abbrev pub opened : Account
opened = record { charged = 0; exact = 0; remainder = 0 }

-- the call's answer for a holding: the account's remainder "goes into that segment's next holding"
abbrev pub answer_of : Account → Holding → Result (ℕ × ℕ) Refusal
answer_of a h = charge_of h.segment h.seconds h.rate a.remainder

-- the account after an answer; "a refused one leaves the remainder", and adds to neither sum
unfoldable pub book : Account → Holding → Result (ℕ × ℕ) Refusal → Account
book a h (Ok (charge, next)) =
    record {
      charged = a.charged + charge;
      exact = a.exact + cost_of h.segment h.seconds h.rate;
      remainder = next;
    }
book a h (Err x) = a

-- the holdings in their order
unfoldable pub book_all : Account → List Holding → Account
book_all a [] = a
book_all a (h ∷ hs) = book_all (book a h (answer_of a h)) hs

-- "the charges of those not refused add up to their exact total rounded down"
abbrev pub AddsUp : List Holding → Type 0
AddsUp hs = (book_all opened hs).charged ≡ (book_all opened hs).exact / divisor
