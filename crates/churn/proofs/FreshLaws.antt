-- Over any list of counts and clearings the answers are those of a fresh reckoning (`fresh`), also those asked for behind
-- it (`fresh-current`); cleared memory is an empty window (`cleared-empty`).
--
-- By induction: the window holds the latest 256 of the counts that were kept (`Holds`).
-- Assumes nothing.
use Rattle.std.specs.Prelude.{Result, Ok, Err}
use Prim.Native.Nat.{ℕ, ◌≤◌, ◌<◌}
use native.Mathlib.Omega.{arith}
use mathlib.Core.Path.{◌≡◌, refl, sym, ap, ◌∙◌}
use mathlib.Core.Bool.{Bool, true, false}
use mathlib.Core.List.{List, [], ◌∷◌, ◌++◌}
use lib.ListN.{length}
use lib.Dec.{ltb}
use borrow.Author.Tests.{ltb-true, ltb-false}
use Rattle.refusal.specs.declared.Refusal.TheVariants.{InvalidWindow}
use Rattle.churn.specs.Window.{counts_of, pushed, cleared}
use Rattle.churn.specs.Churn.{ChurnOutcome, totals_of, churn_outcome, push, clear, current}
use Rattle.churn.specs.Fresh.{Step, EmptyWindow, step_on, answers_on, window_after, latest, after, kept_after, reckoning}
use Rattle.churn.specs.Fresh.{fresh_answer, fresh_answers, Fresh, FreshCurrent, ClearedEmpty}
use Rattle.churn.specs.Fresh.Step.{count, clearing}
use Rattle.churn.proofs.CountLaws.{latest-few, latest-again}
use Rattle.churn.proofs.WindowLaws.{Window, window-valid, window-is, pushed-window, pushed-counts, cleared-window, cleared-counts}
use Rattle.churn.proofs.WindowLaws.{push-large, push-is, current-is}
use Rattle.refusal.specs.declared.Refusal.{Refusal}
use Rattle.churn.specs.declared.Totals.{Totals}

record Holds (w kept : List ℕ) : Type 0 where
  window : Window w
  counts : counts_of w ≡ latest 256 kept

-- a step answers as the fresh reckoning does, and the window holds what is kept then
record Stepped (w kept : List ℕ) (x : Step) : Type 0 where
  answer-is : (step_on w x).answer ≡ fresh_answer kept x
  holds : Holds (step_on w x).window (after kept x)

holds-none : (w : List ℕ) → 514 ≤ length w → Holds (cleared w) []
holds-none w h =
    record { window = cleared-window w (omega arith) h; counts = cleared-counts w (omega arith) ∙ sym (latest-few 256 [] (omega arith)) }

stepped : (w kept : List ℕ) → Holds w kept → (x : Step) → Stepped w kept x
unfolding step_on after fresh_answer clear
stepped w kept h clearing = record {
  answer-is = ap (λ (l : List ℕ). Ok (totals_of l)) (sym (latest-few 256 [] (omega arith)));
  holds = holds-none w h.window.long;
}
stepped w kept h (count c) = go (ltb 65535 c) refl
  where
    go : (t : Bool) → ltb 65535 c ≡ t → Stepped w kept (count c)
    go true e =
        let p : push w c ≡ churn_outcome (Err InvalidWindow) w = sym (push-large w c (ltb-true 65535 c e)) in
        record {
          answer-is = ap (λ (o : ChurnOutcome). o.answer) p ∙ rw e;
          holds = rw (p, e) h;
        }
    go false e =
        let j : c ≤ 65535 = ltb-false 65535 c e in
        let b : c < 65536 = omega arith in
        let p : push w c ≡ churn_outcome (Ok (totals_of (counts_of (pushed w c)))) (pushed w c) = push-is w c j h.window in
        let k : counts_of (pushed w c) ≡ latest 256 (kept ++ (c ∷ [])) =
        pushed-counts w h.window c b ∙ ap (λ (l : List ℕ). latest 256 (l ++ (c ∷ []))) h.counts ∙ latest-again 256 kept c in
        record {
          answer-is = ap (λ (o : ChurnOutcome). o.answer) p ∙ ap (λ (l : List ℕ). Ok (totals_of l)) k ∙ rw e;
          holds = rw (p, e) (record { window = pushed-window w h.window c b; counts = k });
        }

answers : (w kept : List ℕ) → Holds w kept → (xs : List Step) → answers_on w xs ≡ fresh_answers kept xs
unfolding answers_on fresh_answers
answers w kept h [] = refl
answers w kept h (x ∷ xs) =
    let s = stepped w kept h x in
    ap (λ (a : Result Totals Refusal). a ∷ answers_on (step_on w x).window xs) s.answer-is
    ∙ ap (λ (rest : List (Result Totals Refusal)). fresh_answer kept x ∷ rest) (answers (step_on w x).window (after kept x) s.holds xs)

stands : (w kept : List ℕ) → Holds w kept → (xs : List Step) → current (window_after w xs) ≡ reckoning (kept_after kept xs)
unfolding window_after kept_after
stands w kept h [] = current-is w h.window ∙ ap (λ (l : List ℕ). Ok (totals_of l)) h.counts
stands w kept h (x ∷ xs) = stands (step_on w x).window (after kept x) (stepped w kept h x).holds xs

-- ---- the claims

holds-empty : (w : List ℕ) → EmptyWindow w → Holds w []
holds-empty w e = record { window = window-is w e.is-window; counts = e.no-counts ∙ sym (latest-few 256 [] (omega arith)) }

pub fresh : Fresh
fresh w xs e = answers w [] (holds-empty w e) xs

pub fresh-current : FreshCurrent
fresh-current w xs e = stands w [] (holds-empty w e) xs

pub cleared-empty : ClearedEmpty
unfolding clear
cleared-empty w h =
    record { is-window = window-valid (cleared w) (cleared-window w (omega arith) h); no-counts = cleared-counts w (omega arith) }
