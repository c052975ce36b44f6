-- Demand 3 over the session in values, by induction over the list of calls.
-- Assumes nothing.
use Rattle.std.specs.Prelude.{Option, Some, None, option_map}
use Prim.Native.Nat.{ℕ, ◌<◌}
use mathlib.Core.Path.{◌≡◌, refl, ap, sym, ◌∙◌, subst}
use mathlib.Core.Bool.{Bool, true, false, cond, not, ◌&&◌, ◌||◌, false≢true}
use mathlib.Core.List.{List, [], ◌∷◌}
use mathlib.Core.Logic.{inl, inr}
use Rattle.std.proofs.lemmas.Option.{none-some}
use lib.ListN.{length}
use lib.Dec.{eqb}
use Rattle.slice.specs.BoolLaws.{both_true}
use Rattle.topic_types.specs.declared.ControllerIncarnation.{ControllerIncarnation}
use Rattle.packed.specs.Assignment.{ConsumerAssignment}
use Rattle.packed_delta.specs.Delta.{AssignmentDelta}
use Rattle.packed_delta.specs.Join.{Proper, apply_all}
use Rattle.packed_delta.proofs.BracketLaws.{AllProper, apply-joined, brackets-agree}
use Rattle.keyed.proofs.EachLaws.{Each}
use Rattle.session.specs.Session.{Session}
use Rattle.session.specs.Trace.{Call, update, response, drain, begin, invalidate}
use Rattle.session.specs.Observers.{own_in, on_delta, Seen, unseen, see, watch, is_response, drains_to_none, all_drained}
use Rattle.session.specs.DemandThree.{Fresh, Claim}
use Rattle.session.proofs.Model.{result_of, after, accepts, value_event, value_trace, value_final, held_in}
use Rattle.session.proofs.QueueLaws.{last_in}
use Rattle.session.proofs.CallLaws.{response-cases}
use Rattle.session.proofs.HoldLaws.{Uploaded, Invariant}
use Rattle.session.proofs.DrainLaws.{owed-drain}
use Rattle.session.proofs.KeptLaws.{keep-call}

-- ---- a baseline is the own assignment of the response that gave it: whatever the run is, drained or not

own-baseline : (s : Session) (message : List ℕ) (incarnation : ControllerIncarnation)
    → (value_event s (response message incarnation)).accepted ≡ true → (value_event s (response message incarnation)).baseline ≡ own_in message
own-baseline s message incarnation =
    response-cases s (λ x. accepts x.reply ≡ true → (after s x).baseline ≡ own_in message) (λ x e. absurd (false≢true e)) message incarnation
    (λ t u e. refl)

abbrev Own : Option ConsumerAssignment → Option (List ℕ) → Type 0
Own baseline message = baseline ≡ option_map own_in message

abbrev OwnIn : Seen → Type 0
OwnIn o = Own o.baseline o.response

module _ (baseline : Option ConsumerAssignment) (message : Option (List ℕ)) (h : Own baseline message) where
  own-delta : (d : Option AssignmentDelta) → Own (on_delta d (λ d b. b) baseline) (on_delta d (λ d m. m) message)
  own-delta None = h
  own-delta (Some d) = h

  own-response : (accepted : Bool) (b : ConsumerAssignment) (m : List ℕ) → (accepted ≡ true → b ≡ own_in m)
      → Own (cond accepted (Some b) baseline) (cond accepted (Some m) message)
  own-response true b m e = ap Some (e refl)
  own-response false b m e = h

  own-drain : (own : Bool) (d : Option AssignmentDelta)
      → Own (cond own (on_delta d (λ d b. b) baseline) baseline) (cond own (on_delta d (λ d m. m) message) message)
  own-drain true d = own-delta d
  own-drain false d = h

  own-ended : (accepted : Bool) → Own (cond accepted None baseline) (cond accepted None message)
  own-ended true = refl
  own-ended false = h

own-call : (reader : ℕ) (c : Call) (s : Session) (o : Seen) → OwnIn o → OwnIn (see reader (value_event s c) o)
own-call reader (update message incarnation out) s o h =
    own-delta o.baseline o.response h (value_event s (update message incarnation out)).delta
own-call reader (response message incarnation) s o h =
    let e = value_event s (response message incarnation) in
    own-response o.baseline o.response h e.accepted e.baseline message (own-baseline s message incarnation)
own-call reader (drain by out) s o h =
    own-drain o.baseline o.response h (eqb by reader) (value_event s (drain by out)).delta
own-call reader (begin incarnation) s o h = own-ended o.baseline o.response h (value_event s (begin incarnation)).accepted
own-call reader invalidate s o h = own-ended o.baseline o.response h (value_event s invalidate).accepted

own-from : (reader : ℕ) (calls : List Call) (s : Session) (o : Seen) → OwnIn o → OwnIn (watch reader o (value_trace s calls))
own-from reader [] s o h = h
own-from reader (c ∷ cs) s o h = own-from reader cs (after s (result_of s c)) (see reader (value_event s c) o) (own-call reader c s o h)

pub values-own : (reader : ℕ) (s : Session) (calls : List Call) → OwnIn (watch reader unseen (value_trace s calls))
values-own reader s calls = own-from reader calls s unseen refl

-- ---- the claim, with no drain owed

held-live : (s : Session) → s.state.registered ≡ true → held_in s ≡ Some s.list
held-live s e = rw e

held-idle : (s : Session) → s.state.registered ≡ false → held_in s ≡ None
held-idle s e = rw e

settled : (reader : ℕ) (s : Session) (o : Seen) → Invariant reader false s o → OwnIn o → Claim (held_in s) s.state.epoch_floor o
settled reader s o (inl h) own =
    record {
      sent = held-idle s h.registered ∙ sym h.list;
      uploaded = held-idle s h.registered ∙ sym h.uploader;
      own = own;
      same = λ l e. absurd (no l e);
      turns = λ l e. absurd (no l e);
      still = λ l e. absurd (no l e);
      highest = h.highest;
    }
  where
    no : (l : ConsumerAssignment) → held_in s ≡ Some l → ⊥
    no l e = none-some l (sym (held-idle s h.registered) ∙ e)
settled reader s o (inr h) own =
    record {
      sent = held-live s h.held.live ∙ sym h.held.sent;
      uploaded = held-live s h.held.live ∙ sym v.has;
      own = own;
      same = λ l e t u p q. brackets-agree t u (subst AllProper (sym p) v.proper) (p ∙ sym q);
      turns = λ l e. (
        s.baseline,
        v.based,
        λ t p.
            apply-joined t s.baseline (subst AllProper (sym p) v.proper) v.proper-baseline
            ∙ ap (λ ds. apply_all ds s.baseline) p
            ∙ v.turned
            ∙ is l e,
      );
      still = λ l e p. v.based ∙ ap Some (ap (λ ds. apply_all ds s.baseline) (sym p) ∙ v.turned ∙ is l e);
      highest = h.held.raised ∙ sym v.top;
    }
  where
    v : Uploaded s.baseline s.list o.uploader o.baseline o.deltas o.highest
    v = h.uploaded

    is : (l : ConsumerAssignment) → held_in s ≡ Some l → s.list ≡ l
    is l e = let p : Some s.list ≡ Some l = sym (held-live s h.held.live) ∙ e in cc

-- ---- over a list of calls

owes : (a b : Bool) → (not a || b) ≡ true → a ≡ true → b ≡ true
owes true b e p = e
owes false b e p = absurd (false≢true p)

still-owes : (a b : Bool) → (a || b) ≡ true → not a ≡ true → b ≡ true
still-owes true b e p = absurd (false≢true p)
still-owes false b e p = e

claim-from : (reader : ℕ) → reader < 8 → (calls : List Call) (w : Bool) (s : Session) (o : Seen) → Invariant reader w s o
    → OwnIn (watch reader o (value_trace s calls)) → (w ≡ true → drains_to_none reader (value_trace s calls) ≡ true)
    → all_drained reader (value_trace s calls) ≡ true
    → Claim (held_in (value_final s calls)) (value_final s calls).state.epoch_floor (watch reader o (value_trace s calls))
claim-from reader low [] true s o g own d a = absurd (false≢true (d refl))
claim-from reader low [] false s o g own d a = settled reader s o g own
claim-from reader low (c ∷ cs) false s o g own d a =
    let e = value_event s c in
    let n = after s (result_of s c) in
    let b = is_response c && e.accepted in
    let p = both_true (not b || drains_to_none reader (value_trace n cs)) (all_drained reader (value_trace n cs)) a in
    claim-from reader low cs b n (see reader e o) (keep-call reader low c s o g) own (owes b (drains_to_none reader (value_trace n cs)) p.0) p.1
claim-from reader low (drain by out ∷ cs) true s o g own d a =
    let e = value_event s (drain by out) in
    let n = after s (result_of s (drain by out)) in
    let mine = eqb by reader && e.none in
    claim-from reader low cs (not mine) n (see reader e o) (owed-drain reader low by out s o g) own
    (still-owes mine (drains_to_none reader (value_trace n cs)) (d refl)) a
claim-from reader low (update message incarnation out ∷ cs) true s o g own d a = absurd (false≢true (d refl))
claim-from reader low (response message incarnation ∷ cs) true s o g own d a = absurd (false≢true (d refl))
claim-from reader low (begin incarnation ∷ cs) true s o g own d a = absurd (false≢true (d refl))
claim-from reader low (invalidate ∷ cs) true s o g own d a = absurd (false≢true (d refl))

fresh-invariant : (reader : ℕ) (s : Session) → Fresh s.state → s.queue ≡ [] → Invariant reader false s unseen
fresh-invariant reader s f q =
    inl (record {
      registered = f.unregistered;
      list = refl;
      pending = ap last_in (sym q);
      uploader = refl;
      highest = f.no-floor;
      proper = subst (Each Proper) (sym q) tt;
      counted = ap length q ∙ sym f.no-queue;
    })

pub values-demand-three : (reader : ℕ) → reader < 8 → (s : Session) → Fresh s.state → s.queue ≡ [] → (calls : List Call)
    → all_drained reader (value_trace s calls) ≡ true
    → Claim (held_in (value_final s calls)) (value_final s calls).state.epoch_floor (watch reader unseen (value_trace s calls))
values-demand-three reader low s f q calls a =
    claim-from reader low calls false s unseen (fresh-invariant reader s f q) (values-own reader s calls) (λ e. absurd (false≢true e)) a
