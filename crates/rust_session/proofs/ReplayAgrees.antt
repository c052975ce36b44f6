-- `apply_incoming` and the replay loop of the Rust, beside this port's queue.
--
-- In order: floors (`raise-agrees`); a session of the Rust by its fields (`sess`); `apply_incoming` by the two tests (`apply-stale`,
-- `apply-same`, `apply-new`); the loop (`loop-agrees`); what a drain finds is the first of the replays that are left (`replays-end`,
-- `replays-none`, `replays-entry`).
-- Assumes nothing.
use Rattle.std.specs.Prelude.{Option, Some, None}
use Prim.Native.Nat.{ℕ, zero, suc, ◌+◌, ◌≤◌, ◌<◌, max}
use native.Mathlib.Omega.{arith}
use mathlib.Core.Path.{◌≡◌, refl, ap, ap₂, sym, ◌∙◌, subst}
use mathlib.Core.Bool.{Bool, true, false, cond}
use mathlib.Core.List.{List, [], ◌∷◌, ◌++◌, map, append_assoc, append-nil}
use lib.ListN.{length, get_or}
use lib.Dec.{eqb, ltb}
use borrow.Author.Tests.{ltb-true, ltb-false}
use Rattle.topic_types.specs.declared.ControllerIncarnation.{ControllerIncarnation}
use Rattle.topic_types.specs.declared.ScalableConsumerType.{ScalableConsumerType}
use Rattle.refusal.specs.declared.Refusal.{Refusal}
use Rattle.refusal.specs.declared.Refusal.TheVariants as refusal
use Rattle.refusal.specs.Refusals.{number_of}
use Rattle.packed.specs.Assignment as port
use Rattle.packed.specs.Equal.{same_assignment}
use Rattle.packed.proofs.EqualLaws.{assignment-eq}
use Rattle.packed_delta.specs.Delta as port-delta
use Rattle.packed_delta.specs.Change.{delta_between}
use Rattle.packed_delta.specs.Join.{Proper}
use Rattle.keyed.proofs.EachLaws.{Each}
use Rattle.session.specs.Session.{raise}
use Rattle.session.specs.Response.{stale_fault, last_list}
use Rattle.session.specs.Drain.{end, entry, next_change}
use Rattle.rust_magnetar.specs.Result.{Ok, Err}
use Rattle.rust_magnetar.specs.Text.{Text}
use Rattle.rust_magnetar.specs.Assignment.{AssignmentError, StaleEpoch, ConsumerAssignment}
use Rattle.rust_magnetar.specs.Session.{AssignmentDelta, AssignmentReplay, ScalableConsumerSession, Did, Run, go_on, pure, with-assignment}
use Rattle.rust_magnetar.specs.Session.{with-epoch-floor, map-or-max, apply-incoming, push-replay, replay-loop}
use Rattle.rust_session.specs.Paper.{paper, text_of}
use Rattle.rust_session.specs.Values.{as_assignment, as_delta, as_replay, as_floor, replays}
use Rattle.rust_session.proofs.DeltaAgrees.{assignment-eq-agrees, rust_delta, delta-agrees}

-- ---- floors

pub raise-agrees : (f : Option ℕ) (epoch : ℕ) → Some (map-or-max (as_floor f) epoch) ≡ as_floor (raise f epoch)
raise-agrees None epoch = refl
raise-agrees (Some f) epoch = go (ltb f epoch) refl
  where
    go : (b : Bool) → ltb f epoch ≡ b → Some (max f epoch) ≡ as_floor (cond b (Some epoch) (Some f))
    go true t = let l = ltb-true f epoch t in let m : max f epoch ≡ epoch = omega arith in ap Some m
    go false t = let l = ltb-false f epoch t in let m : max f epoch ≡ f = omega arith in ap Some m

-- ---- a session of the Rust, by its fields

-- those that no method reads, and the reader that drains
pub record Registration : Type 0 where
  pub reader : ℕ
  pub subscription : Text
  pub consumer-name : Text
  pub consumer-type : ScalableConsumerType

abbrev pub sess : Registration → ℕ → Text → ControllerIncarnation → Option ConsumerAssignment → Option ℕ → List ConsumerAssignment
    → List AssignmentReplay → Bool → ScalableConsumerSession
sess n id t link assignment floor buffered replayed invalidated =
    record {
      consumer-id = id;
      topic = t;
      subscription = n.subscription;
      consumer-name = n.consumer-name;
      consumer-type = n.consumer-type;
      incarnation = link;
      assignment = assignment;
      epoch-floor = floor;
      buffered-updates = buffered;
      replayed-updates = replayed;
      invalidated = invalidated;
    }

-- ---- apply_incoming

-- its shape: the stale test, the equality test, the rest
abbrev shape : {A : Type 0} → Bool → Bool → AssignmentError → ScalableConsumerSession → Run (Option A) → Did (Option A)
shape stale same e s rest = go_on s (cond stale (Err e) (Ok (tt {0}))) (λ x. cond same (pure None) rest)

module _ (n : Registration) (id : ℕ) (t : Text) (link : ControllerIncarnation) (f : Option ℕ) (q : List ConsumerAssignment)
    (r : List AssignmentReplay) (v : Bool) (b a : port.ConsumerAssignment) where
  abbrev here : ScalableConsumerSession
  here = sess n id t link (Some (as_assignment t b)) (as_floor f) q r v

  abbrev onward : Run (Option AssignmentDelta)
  onward s =
      record {
        after = with-epoch-floor (Some (map-or-max (as_floor f) a.layout_epoch)) (with-assignment (Some (as_assignment t a)) s);
        result = Ok (Some (rust_delta (as_assignment t b).segments (as_assignment t a).segments a.layout_epoch));
      }

  apply-with : (c d : Bool) → ltb a.layout_epoch b.layout_epoch ≡ c → same_assignment b a ≡ d
      → apply-incoming (as_assignment t a) here ≡ shape c d (StaleEpoch a.layout_epoch b.layout_epoch) here onward
  apply-with c d p u = ap₂ (λ x y. shape x y (StaleEpoch a.layout_epoch b.layout_epoch) here onward) p (assignment-eq-agrees t b a ∙ u)

  pub apply-stale : ltb a.layout_epoch b.layout_epoch ≡ true
      → apply-incoming (as_assignment t a) here ≡ record { after = here; result = Err (StaleEpoch a.layout_epoch b.layout_epoch) }
  apply-stale p = apply-with true (same_assignment b a) p refl

  pub apply-same : ltb a.layout_epoch b.layout_epoch ≡ false → same_assignment b a ≡ true
      → apply-incoming (as_assignment t a) here ≡ record { after = here; result = Ok None }
  apply-same p u = apply-with false true p u

  pub apply-new : ltb a.layout_epoch b.layout_epoch ≡ false → same_assignment b a ≡ false → Proper b → Proper a
      → apply-incoming (as_assignment t a) here
      ≡ record {
        after = sess n id t link (Some (as_assignment t a)) (as_floor (raise f a.layout_epoch)) q r v;
        result = Ok (Some (as_delta t (delta_between b a)));
      }
  apply-new p u pb pa =
      apply-with false false p u
      ∙ ap₂ (λ g d. record { after = sess n id t link (Some (as_assignment t a)) g q r v; result = Ok (Some d) })
      (raise-agrees f a.layout_epoch) (delta-agrees t b a pb pa)

-- ---- the replay loop

-- an error that is this refusal, with no text beside it
pub record Plain (e : AssignmentError) (x : Refusal) : Type 0 where
  pub is : paper e ≡ x
  pub text : text_of e ≡ []
  pub number : eqb (number_of x) 16 ≡ false

-- what the loop comes to: with no stale push that session, else that push's refusal
abbrev pub Replayed : Option Refusal → ScalableConsumerSession → Did (Unit {0}) → Type 0
Replayed None s d = d ≡ record { after = s; result = Ok tt }
Replayed (Some x) s d = (e : AssignmentError) × (d.result ≡ Err e) × Plain e x

-- the loop, in its second half
abbrev loop_rest : ℕ → List ConsumerAssignment → Option AssignmentDelta → Run (Unit {0})
loop_rest request q delta s = go_on (push-replay request delta s).after (push-replay request delta s).result (λ x. replay-loop request q)

abbrev loop_on : ℕ → List ConsumerAssignment → Did (Option AssignmentDelta) → Did (Unit {0})
loop_on request q d = go_on d.after d.result (loop_rest request q)

module _ (n : Registration) (request id : ℕ) (t : Text) (link : ControllerIncarnation) (v : Bool) where
  -- the Rust's session in the loop, with that list, those pushes ahead and those replays behind
  abbrev looping : port.ConsumerAssignment → List ConsumerAssignment → List AssignmentReplay → ScalableConsumerSession
  looping b q r = sess n id t link (Some (as_assignment t b)) (Some b.layout_epoch) q r v

  pub loop-agrees : (q : List port.ConsumerAssignment) (b : port.ConsumerAssignment) (r : List AssignmentReplay) → Proper b → Each Proper q
      → Replayed (stale_fault b q) (looping (last_list b q) [] (r ++ replays t b q 0))
      (replay-loop request (map (as_assignment t) q) (looping b (map (as_assignment t) q) r))
  unfolding stale_fault last_list
  loop-agrees [] b r pb pq = ap (λ l. record { after = looping b [] l; result = Ok tt }) (sym (append-nil r))
  loop-agrees (a ∷ q) b r pb pq =
      go (ltb a.layout_epoch b.layout_epoch) refl (same_assignment b a) refl (λ l. loop-agrees q a l pq.0 pq.1)
    where
      rest : List ConsumerAssignment
      rest = map (as_assignment t) q

      found : AssignmentReplay
      found = as_replay t a (delta_between b a)

      finish : List AssignmentReplay → ScalableConsumerSession
      finish l = looping (last_list a q) [] l

      go : (c : Bool) → ltb a.layout_epoch b.layout_epoch ≡ c → (d : Bool) → same_assignment b a ≡ d
          → ((l : List AssignmentReplay) → Replayed (stale_fault a q) (finish (l ++ replays t a q 0))
          (replay-loop request rest (looping a rest l)))
          → Replayed (cond c (Some (refusal.StaleEpoch a.layout_epoch b.layout_epoch)) (stale_fault a q))
          (finish (r ++ cond d (replays t a q 0) (found ∷ replays t a q 0)))
          (loop_on request rest (apply-incoming (as_assignment t a) (looping b rest r)))
      go true p d u ih = (
        StaleEpoch a.layout_epoch b.layout_epoch,
        ap (λ x. (loop_on request rest x).result) (apply-stale n id t link (Some b.layout_epoch) rest r v b a p),
        record { is = refl; text = refl; number = refl },
      )
      go false p true u ih =
          subst (λ x. Replayed (stale_fault a q) (finish (r ++ replays t a q 0)) (loop_on request rest x))
          (sym (apply-same n id t link (Some b.layout_epoch) rest r v b a p u))
          (subst (λ x. Replayed (stale_fault a q) (finish (r ++ replays t a q 0)) (replay-loop request rest (looping x rest r)))
          (sym (assignment-eq b a u)) (ih r))
      go false p false u ih =
          subst (λ x. Replayed (stale_fault a q) (finish (r ++ (found ∷ replays t a q 0))) (loop_on request rest x))
          (sym (apply-new n id t link (Some b.layout_epoch) rest r v b a p u pb pq.0
          ∙ ap (λ g. record { after = sess n id t link (Some (as_assignment t a)) g rest r v; result = Ok (Some found.delta) }) higher))
          (subst (λ l. Replayed (stale_fault a q) (finish l) (replay-loop request rest (looping a rest (r ++ (found ∷ [])))))
          (append_assoc r (found ∷ []) (replays t a q 0)) (ih (r ++ (found ∷ []))))
        where
          higher : as_floor (raise (Some b.layout_epoch) a.layout_epoch) ≡ Some a.layout_epoch
          higher =
              let l : b.layout_epoch ≤ a.layout_epoch = ltb-false a.layout_epoch b.layout_epoch p in
              let m : max b.layout_epoch a.layout_epoch ≡ a.layout_epoch = omega arith in
              sym (raise-agrees (Some b.layout_epoch) a.layout_epoch) ∙ ap Some m

-- ---- what is left to be drained

pub replays-end : (t : Text) (b : port.ConsumerAssignment) (q : List port.ConsumerAssignment) → replays t b q (length q) ≡ []
replays-end t b [] = refl
replays-end t b (a ∷ q) = replays-end t a q

-- where a drain finds nothing there is none
pub replays-none : (t : Text) (i : ℕ) (b : port.ConsumerAssignment) (q : List port.ConsumerAssignment) (k : ℕ) → next_change i b q k ≡ end
    → replays t b q k ≡ []
unfolding next_change
replays-none t i b [] zero e = refl
replays-none t i b [] (suc k) e = refl
replays-none t i b (a ∷ q) (suc k) e = replays-none t (suc i) a q k e
replays-none t i b (a ∷ q) zero e = go (same_assignment b a) (replays-none t (suc i) a q zero) e
  where
    go : (c : Bool) → (next_change (suc i) a q zero ≡ end → replays t a q zero ≡ [])
        → cond c (next_change (suc i) a q zero) (entry i (delta_between b a)) ≡ end
        → cond c (replays t a q zero) (as_replay t a (delta_between b a) ∷ replays t a q zero) ≡ []
    go true ih h = ih h
    go false ih h = let z : ◌≡◌ {A = ℕ} 0 1 = cc in absurd (omega arith)

-- what it finds is the first of them, and the others are those from behind its place on
pub record Next (t : Text) (z : port.ConsumerAssignment) (i : ℕ) (b : port.ConsumerAssignment) (q : List port.ConsumerAssignment) (k j : ℕ)
    (d : port-delta.AssignmentDelta) : Type 0 where
  pub place : ℕ
  pub at : j ≡ i + place
  pub inside : place < length q
  pub first : replays t b q k ≡ as_replay t (get_or q place z) d ∷ replays t b q (suc place)

module _ (t : Text) (z : port.ConsumerAssignment) where
  not_end : {A : Type 0} (j : ℕ) (d : port-delta.AssignmentDelta) → end ≡ entry j d → A
  not_end j d e = let y : ◌≡◌ {A = ℕ} 0 1 = cc in absurd (omega arith)

  pub replays-entry : (i : ℕ) (b : port.ConsumerAssignment) (q : List port.ConsumerAssignment) (k j : ℕ) (d : port-delta.AssignmentDelta)
      → next_change i b q k ≡ entry j d → Next t z i b q k j d
  unfolding next_change
  replays-entry i b [] zero j d e = not_end j d e
  replays-entry i b [] (suc k) j d e = not_end j d e
  replays-entry i b (a ∷ q) (suc k) j d e =
      let h = replays-entry (suc i) a q k j d e in
      record { place = suc h.place; at = omega (arith, h.at); inside = omega (arith, h.inside); first = h.first }
  replays-entry i b (a ∷ q) zero j d e = go (same_assignment b a) refl (replays-entry (suc i) a q zero j d) e
    where
      go : (c : Bool) → same_assignment b a ≡ c → (next_change (suc i) a q zero ≡ entry j d → Next t z (suc i) a q zero j d)
          → cond c (next_change (suc i) a q zero) (entry i (delta_between b a)) ≡ entry j d → Next t z i b (a ∷ q) zero j d
      go true c ih h =
          let n = ih h in
          record { place = suc n.place; at = omega (arith, n.at); inside = omega (arith, n.inside); first = rw c n.first }
      go false c ih h =
          let p : i ≡ j = cc in
          let r : delta_between b a ≡ d = cc in
          record { place = 0; at = omega arith; inside = omega arith; first = rw c (ap (λ x. as_replay t a x ∷ replays t a q zero) r) }
