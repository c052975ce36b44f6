-- A run by its calls: each is computed from what the one before it leaves, written out, and from nothing further back.
-- Assumes nothing.
use Rattle.std.specs.Prelude.{None, Ok}
use Prim.Native.Nat.{ℕ}
use mathlib.Core.Path.{◌≡◌, refl, ap, sym, ◌∙◌, subst}
use mathlib.Core.Bool.{false}
use mathlib.Core.List.{List, [], ◌∷◌}
use Rattle.session.specs.declared.SessionRecord.{SessionRecord}
use Rattle.session.specs.declared.Answer.TheVariants.{Accepted}
use Rattle.session.specs.Calls.{CallOutcome, OpenOutcome}
use Rattle.session.specs.Trace.{Call, step_of}
use Rattle.session_rows.specs.Rows.{opened, record_of, outcomes, run_on}

-- the calls leave these, one after the other
abbrev pub Leave : SessionRecord → List ℕ → List Call → List CallOutcome → Type 0
Leave r st [] [] = Unit {0}
Leave r st [] (x ∷ xs) = ⊥
Leave r st (c ∷ cs) [] = ⊥
Leave r st (c ∷ cs) (x ∷ xs) = (step_of r st c ≡ x) × Leave x.next x.store cs xs

leave : (r : SessionRecord) (st : List ℕ) (cs : List Call) (xs : List CallOutcome) → Leave r st cs xs → outcomes r st cs ≡ xs
leave r st [] [] h = refl
leave r st [] (x ∷ xs) h = absurd h
leave r st (c ∷ cs) [] h = absurd h
leave r st (c ∷ cs) (x ∷ xs) h =
    ap (λ (y : CallOutcome). y ∷ outcomes y.next y.store cs) h.0 ∙ ap (λ ys. x ∷ ys) (leave x.next x.store cs xs h.1)

-- behind an open
abbrev pub opened_on : List ℕ → OpenOutcome
opened_on store = record { answer = (Ok Accepted); next = record_of false None 0; store = store }

pub run_is : (n : ℕ) (st : List ℕ) → opened n ≡ opened_on st → (cs : List Call) (xs : List CallOutcome) → Leave (record_of false None 0) st cs xs
    → run_on n cs ≡ xs
run_is n st e cs xs h = subst (λ (p : OpenOutcome). outcomes p.next p.store cs ≡ xs) (sym e) (leave (record_of false None 0) st cs xs h)
