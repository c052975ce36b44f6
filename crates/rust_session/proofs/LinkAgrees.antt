-- Begin and invalidate: `begin_incarnation` and `invalidate_authority` answer as this port's do, and the sessions stay alike (`fair-begin`,
-- `fair-invalidate`).
-- Assumes nothing.
use Rattle.std.specs.Prelude.{Option, None}
use Prim.Native.Nat.{ℕ}
use mathlib.Core.Path.{◌≡◌, refl, ap, sym, ◌∙◌, subst}
use mathlib.Core.Bool.{Bool, true, false, cond, not}
use mathlib.Core.List.{List, []}
use mathlib.Core.Logic.{◌⊎◌, inl, inr}
use lib.Dec.{ltb, leb}
use borrow.Author.Tests.{ltb-true, ltb-false, le-leb, lt-leb}
use Rattle.topic_types.specs.declared.ControllerIncarnation.{ControllerIncarnation}
use Rattle.refusal.specs.declared.Refusal.TheVariants as refusal
use Rattle.packed.specs.Assignment as port
use Rattle.session.specs.Session as session
use Rattle.session.specs.Session.{Session}
use Rattle.session.specs.Link.{unregistered}
use Rattle.session.specs.Trace.{begin, invalidate}
use Rattle.session.proofs.Model.{after, begin_call, invalidate_call}
use Rattle.rust_magnetar.specs.Result.{Ok}
use Rattle.rust_magnetar.specs.Assignment.{NonAdvancingIncarnation, ConsumerAssignment}
use Rattle.rust_magnetar.specs.Session.{AssignmentReplay, Did, Run, fail, with-fields, begin-incarnation}
use Rattle.rust_session.specs.Values.{as_floor}
use Rattle.rust_session.specs.Demand.{done, Caller, after_link, rust_step}
use Rattle.rust_session.proofs.ReplayAgrees.{Registration, sess}
use Rattle.rust_session.proofs.Mirror.{rust, caller, holding, Idle, Live, Mirror, Agrees, Fair, refuse-fair, both}

-- the registration ends
abbrev leaving : Session → ControllerIncarnation → Bool → session.Result
leaving s link invalidated = record { reply = session.accepted; next = unregistered s.state link invalidated; writes = [] }

-- the Rust's session then
abbrev left : Registration → Session → ControllerIncarnation → Bool → Caller
left n s link invalidated =
    record {
      session = sess n s.state.consumer_id s.topic link None (as_floor s.state.epoch_floor) [] [] invalidated;
      taken = [];
    }

leave-mirror : (n : Registration) (s : Session) (c : Caller) (link : ControllerIncarnation) (invalidated : Bool) → Mirror n s c
    → Mirror n (after s (leaving s link invalidated)) (left n s link invalidated)
leave-mirror n s c link invalidated h =
    record { unmarked = h.unmarked; counted = refl; eight = refl; state = inl (record { registered = refl; is = refl; proper = tt }) }

-- ---- begin

opposite : (a b : ℕ) → leb b a ≡ not (ltb a b)
opposite a b = go (ltb a b) refl
  where
    go : (t : Bool) → ltb a b ≡ t → leb b a ≡ not t
    go true t = lt-leb b a (ltb-true a b t)
    go false t = le-leb b a (ltb-false a b t)

swapped : {A : Type 0} (b : Bool) (x y : A) → cond (not b) x y ≡ cond b y x
swapped true x y = refl
swapped false x y = refl

-- the method behind its test
abbrev beginning : ControllerIncarnation → Run (Unit {0})
beginning link s = record { after = with-fields link None s.epoch-floor [] [] false s; result = Ok tt }

module _ (n : Registration) (link : ControllerIncarnation) (s : Session) where
  abbrev Begins : List AssignmentReplay → session.Result → Did (Unit {0}) → Type 0
  Begins t x d = Fair n (begin link) s x (after_link t d.after d.result)

  begin-from : (o : Option ConsumerAssignment) (q : List port.ConsumerAssignment) (r t : List AssignmentReplay)
      → Mirror n s (caller n s o q r t) → Begins t (begin_call s link) (begin-incarnation link (rust n s o q r))
  begin-from o q r t h =
      let own = s.state.incarnation in
      subst (λ (x : Run (Unit {0})). Begins t (begin_call s link) (x (rust n s o q r)))
      (sym (ap (λ b. cond b (fail (NonAdvancingIncarnation link own)) (beginning link)) (opposite own.0 link.0)
      ∙ swapped (ltb own.0 link.0) (fail (NonAdvancingIncarnation link own)) (beginning link)))
      (both (Begins t) (ltb own.0 link.0) (ltb own.0 link.0) refl
      (beginning link) (fail (NonAdvancingIncarnation link own)) (rust n s o q r)
      (λ u f. record { answered = refl; mirror = leave-mirror n s (caller n s o q r t) link false h })
      (λ u. refuse-fair n (begin link) s (refusal.NonAdvancingIncarnation link own) (NonAdvancingIncarnation link own)
      (caller n s o q r t) refl refl h))

  pub fair-begin : (c : Caller) → Mirror n s c → Fair n (begin link) s (begin_call s link) (rust_step c (begin link))
  fair-begin c h = go h.state
    where
      go : Idle n s c ⊎ Live n s c → Fair n (begin link) s (begin_call s link) (rust_step c (begin link))
      go (inl d) =
          subst (λ x. Fair n (begin link) s (begin_call s link) (rust_step x (begin link))) (sym d.is)
          (begin-from None s.queue [] [] (subst (Mirror n s) d.is h))
      go (inr d) =
          subst (λ x. Fair n (begin link) s (begin_call s link) (rust_step x (begin link))) (sym d.is)
          (begin-from (holding s) [] c.session.replayed-updates c.taken (subst (Mirror n s) d.is h))

-- ---- invalidate

pub fair-invalidate : (n : Registration) (s : Session) (c : Caller) → Mirror n s c
    → Fair n invalidate s (invalidate_call s) (rust_step c invalidate)
fair-invalidate n s c h = go h.state
  where
    ended : Agrees n invalidate s (invalidate_call s) (record { answered = done; next = left n s s.state.incarnation true })
    ended = record { answered = refl; mirror = leave-mirror n s c s.state.incarnation true h }

    go : Idle n s c ⊎ Live n s c → Fair n invalidate s (invalidate_call s) (rust_step c invalidate)
    go (inl d) = subst (λ x. Fair n invalidate s (invalidate_call s) (rust_step x invalidate)) (sym d.is) (λ f. ended)
    go (inr d) = subst (λ x. Fair n invalidate s (invalidate_call s) (rust_step x invalidate)) (sym d.is) (λ f. ended)
