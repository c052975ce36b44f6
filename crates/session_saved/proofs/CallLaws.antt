-- The cases of the calls, as the programs come to them.
--
-- In order: the test of a form (`saved-short` to `sum-decides`); save (`save-short` to `save-sound`, `no_room`, `all-written`); restore
-- (`part-damaged` to `part-put`, `no-form`, `form-taken`).
-- Assumes nothing.
use Rattle.std.specs.Prelude.{Ok, Err}
use Prim.Native.Nat.{ℕ, ◌+◌, ◌-◌, ◌≤◌, ◌<◌}
use native.Mathlib.Omega.{arith}
use mathlib.Core.Path.{◌≡◌, sym, ap, ap₂, ◌∙◌}
use mathlib.Core.Bool.{Bool, true, false, not}
use mathlib.Core.List.{List}
use lib.ListN.{length, take, drop}
use lib.Dec.{eqb}
use borrow.Author.Tests.{lt-ltb, le-ltb, lt-leb, le-leb, leb-true, eq-eqb, ne_eqb, not-true, not-false}
use Rattle.slice.specs.BoolLaws.{both_true}
use Rattle.refusal.specs.declared.Refusal.{Refusal}
use Rattle.refusal.specs.declared.Refusal.TheVariants.{StoreTooShort, MalformedStore, MalformedSave, ResultTooLong}
use Rattle.slice_int.specs.Be.{be_at}
use Rattle.slice_int.specs.Put.{put}
use Rattle.crc32.specs.Crc.{crc32}
use Rattle.output.specs.Output.{outcome, refuse, written}
use Rattle.session.specs.declared.SessionRecord.{SessionRecord}
use Rattle.session.specs.declared.Changed.{Changed}
use Rattle.session.specs.declared.Answer.TheVariants.{Accepted}
use Rattle.session.specs.Session.{view, damaged}
use Rattle.session.specs.Calls.{OpenOutcome}
use Rattle.session_store.specs.Places.{QueueEnds}
use Rattle.session_saved.specs.Form.{mark, encode_saved, saved_record, saved_store, sum_holds, is_saved}
use Rattle.session_saved.specs.Saved.{save_outcome, no_session, restore_part, restore_outcome}
use Rattle.session_saved.proofs.FormLaws.{length-used, length-saved}

-- ---- the test of a form

module _ (f : List ℕ) where
  pub saved-short : length f < 6255 → false ≡ is_saved f
  unfolding is_saved
  saved-short h = sym (simp (lt-leb 6255 (length f) h))

  pub saved-long : is_saved f ≡ true → 6255 ≤ length f
  unfolding is_saved
  saved-long e = leb-true 6255 (length f) (both_true _ _ e).0

  module _ (h : 6255 ≤ length f) (x : ℕ) (ex : x ≡ be_at 4 f 0) where
    pub no-mark : (x ≡ mark → ⊥) → false ≡ is_saved f
    unfolding is_saved
    no-mark n = sym (simp (le-leb 6255 (length f) h, ne_eqb (be_at 4 f 0) mark (λ e. n (ex ∙ e))))

    module _ (m : x ≡ mark) (y : ℕ) (ey : y ≡ be_at 4 f 4) where
      pub no_length : (y ≡ length f → ⊥) → false ≡ is_saved f
      unfolding is_saved
      no_length n =
          sym
          (simp (
            le-leb 6255 (length f) h,
            eq-eqb (be_at 4 f 0) mark (sym ex ∙ m),
            ne_eqb (be_at 4 f 4) (length f) (λ e. n (ey ∙ e)),
          ))

      pub sum-decides : y ≡ length f → (s k : ℕ) → s ≡ be_at 4 f (length f - 4) → k ≡ crc32 (take (length f - 4) f) → eqb s k ≡ is_saved f
      unfolding is_saved sum_holds
      sum-decides l s k es ek =
          ap₂ eqb es ek
          ∙ sym
          (simp (
            le-leb 6255 (length f) h,
            eq-eqb (be_at 4 f 0) mark (sym ex ∙ m),
            eq-eqb (be_at 4 f 4) (length f) (sym ey ∙ l),
          ))

-- ---- save

module _ (r : SessionRecord) (st out : List ℕ) where
  pub save-short : length st < 6144 → refuse StoreTooShort out ≡ save_outcome r st out
  unfolding save_outcome
  save-short h = simp (lt-ltb (length st) 6144 h)

  module _ (h : 6144 ≤ length st) where
    pub save-damaged : damaged (view r st) ≡ true → refuse MalformedStore out ≡ save_outcome r st out
    unfolding save_outcome
    save-damaged e = simp (le-ltb (length st) 6144 h, e)

    pub save-sound : damaged (view r st) ≡ false → written (encode_saved r st) out ≡ save_outcome r st out
    unfolding save_outcome
    save-sound e = simp (le-ltb (length st) 6144 h, e)

  module _ (end : ℕ) (q : QueueEnds st r.queue_count end) where
    size_is : length (encode_saved r st) ≡ end + 111
    size_is = length-saved r st ∙ omega (arith, length-used r st end q)

    pub no_room : length out < end + 111 → refuse ResultTooLong out ≡ written (encode_saved r st) out
    unfolding written
    no_room h = simp (lt-leb (length (encode_saved r st)) (length out) (omega (arith, size_is)))

    pub all-written : end + 111 ≤ length out → (p : List ℕ) → p ≡ put out 0 (encode_saved r st)
        → outcome (Ok (end + 111)) p ≡ written (encode_saved r st) out
    unfolding written
    all-written h p e =
        simp (size_is, le-leb (end + 111) (length out) h, ← e)

-- ---- restore

-- what the program answers, with the store that it leaves
abbrev pub left : Changed → List ℕ → OpenOutcome
left x st = record { answer = x.answer; next = x.next; store = st }

abbrev pub refused_with : Refusal → Changed
refused_with x = record { next = no_session; answer = Err x }

module _ (r : SessionRecord) (part st : List ℕ) (x : Bool) (ex : x ≡ not (damaged (view r part))) where
  pub part-damaged : not x ≡ true → (c : Changed) → c ≡ refused_with MalformedStore → left c st ≡ restore_part r part st
  unfolding restore_part
  part-damaged n c e =
      let d : damaged (view r part) ≡ true = flip (damaged (view r part)) (sym ex ∙ not-true x n) in
      rw e (simp d)
    where
      flip : (t : Bool) → not t ≡ false → t ≡ true
      flip t k = not-false t k

  module _ (n : not x ≡ false) where
    valid : damaged (view r part) ≡ false
    valid = not-true (damaged (view r part)) (sym ex ∙ not-false x n)

    pub part-short : length st < length part → (c : Changed) → c ≡ refused_with StoreTooShort → left c st ≡ restore_part r part st
    unfolding restore_part
    part-short h c e = rw e (simp (valid, lt-ltb (length st) (length part) h))

    pub part-put : length part ≤ length st → (p : List ℕ) → p ≡ put st 0 part
        → left (record { next = r; answer = (Ok Accepted) }) p ≡ restore_part r part st
    unfolding restore_part
    part-put h p e = rw e (simp (valid, le-ltb (length st) (length part) h))

module _ (f st : List ℕ) (x : Bool) (ex : x ≡ is_saved f) where
  pub no-form : not x ≡ true → (c : Changed) → c ≡ refused_with MalformedSave → left c st ≡ restore_outcome f st
  unfolding restore_outcome
  no-form n c e = rw e (simp (← ex, n))

  pub form-long : not x ≡ false → 6255 ≤ length f
  form-long n = saved-long f (sym ex ∙ not-false x n)

  -- the part that is lent
  pub lent-part : take (length f - 4 - 107) (drop 107 f) ≡ saved_store f
  unfolding saved_store
  lent-part = let e : length f - 4 - 107 ≡ length f - 111 = omega arith in ap (λ (k : ℕ). take k (drop 107 f)) e

  pub form-taken : not x ≡ false → (r : SessionRecord) → r ≡ saved_record f → (o : OpenOutcome)
      → o ≡ restore_part r (take (length f - 4 - 107) (drop 107 f)) st → o ≡ restore_outcome f st
  unfolding restore_outcome
  form-taken n r er o e = e ∙ ap₂ (λ (a : SessionRecord) (p : List ℕ). restore_part a p st) er lent-part ∙ simp (← ex, n)
