-- What a call over the record as a plain struct gives, from what the call of 01 under it gives and its answer in numbers; and the cases of the check.
-- Assumes nothing.
use Rattle.std.specs.Prelude.{Result, Ok, Err}
use Prim.Native.Nat.{ℕ, ◌<◌, ◌≤◌}
use mathlib.Core.Path.{◌≡◌, ap, sym, ◌∙◌}
use mathlib.Core.Bool.{Bool, true, false, not}
use mathlib.Core.List.{List}
use lib.ListN.{length}
use borrow.Author.Tests.{lt-ltb, le-ltb, not-true, not-false}
use Rattle.refusal.specs.declared.Refusal.TheVariants.{StoreTooShort, MalformedStore}
use Rattle.session.specs.declared.SessionRecord.{SessionRecord}
use Rattle.session.specs.declared.Answer.{Answer}
use Rattle.session.specs.declared.Answer.TheVariants as answer
use Rattle.session.specs.Session.{view, damaged}
use Rattle.session.specs.Calls.{CallOutcome, call_outcome}
use Rattle.export_record.specs.declared.Record.{Record}
use Rattle.export_record.specs.declared.SessionReply.{SessionReply}
use Rattle.export_record.specs.Replies.{Lent, lent_of, session_reply}
use Rattle.export_session.specs.Check.{check_of}
use Rattle.refusal.specs.declared.Refusal.{Refusal}

abbrev pub lent : SessionReply → List ℕ → List ℕ → Lent
lent x store out = record { reply = x.reply; state = x.state; store = store; out = out }

pub lent-call :
    {x : SessionReply} (r : Record) {a : Result Answer Refusal} {next : SessionRecord} {store out : List ℕ} {o : CallOutcome} →
    x ≡ session_reply r a next → call_outcome a next store out ≡ o → lent x store out ≡ lent_of r o
lent-call r {store = store} {out = out} e f = ap (λ (y : SessionReply). lent y store out) e ∙ ap (lent_of r) f

-- ---- the check
module _ (r : SessionRecord) (store : List ℕ) where
  pub check-short : length store < 6144 → Err StoreTooShort ≡ check_of r store
  unfolding check_of
  check-short h = rw (lt-ltb (length store) 6144 h)

  module _ (h : 6144 ≤ length store) (x : Bool) (e : x ≡ not (damaged (view r store))) where
    pub check_sound : x ≡ true → (Ok answer.Accepted) ≡ check_of r store
    unfolding check_of
    check_sound f = rw (le-ltb (length store) 6144 h, not-true (damaged (view r store)) (sym e ∙ f))

    pub check-damaged : x ≡ false → Err MalformedStore ≡ check_of r store
    unfolding check_of
    check-damaged f = rw (le-ltb (length store) 6144 h, not-false (damaged (view r store)) (sym e ∙ f))
