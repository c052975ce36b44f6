-- The queue of a session: its last list, what stands before a position, what a drain finds there, and that a replay's epochs do not fall.
-- Assumes nothing.
use Rattle.std.specs.Prelude.{Option, Some, None}
use Prim.Native.Nat.{ℕ, zero, suc, ◌+◌, ◌≤◌}
use native.Mathlib.Omega.{arith}
use mathlib.Core.Path.{◌≡◌, refl, ap, sym, ◌∙◌, subst}
use mathlib.Core.Bool.{Bool, true, false, cond}
use mathlib.Core.List.{List, [], ◌∷◌, ◌++◌}
use lib.Dec.{ltb}
use lib.ListN.{length}
use borrow.Author.Tests.{ltb-false, le-ltb}
use Rattle.refusal.specs.declared.Refusal.TheVariants.{StaleEpoch, CrossIncarnationEpochRegression}
use Rattle.keyed.specs.Keyed.{or_else}
use Rattle.keyed.proofs.KeyedLaws.{choose}
use Rattle.packed.specs.Assignment.{ConsumerAssignment}
use Rattle.packed.specs.Equal.{same_assignment}
use Rattle.packed.proofs.EqualLaws.{assignment-eq}
use Rattle.packed_delta.specs.Delta.{AssignmentDelta}
use Rattle.packed_delta.specs.Change.{delta_between}
use Rattle.packed_delta.specs.Join.{Proper}
use Rattle.intake_content.proofs.SoundLaws.{if_none}
use Rattle.keyed.proofs.EachLaws.{Each}
use Rattle.session.specs.Session.{floor_fault, raise}
use Rattle.session.specs.Response.{stale_fault, last_list}
use Rattle.session.specs.Drain.{end, entry, next_change}

-- ---- floors

-- a floor at which an epoch is no fault is raised to anything from that epoch on
pub raise-over : (f : Option ℕ) (epoch to : ℕ) → floor_fault epoch f ≡ None → epoch ≤ to → raise f to ≡ Some to
raise-over None epoch to h l = refl
raise-over (Some f) epoch to h l =
    let g : f ≤ epoch = ltb-false epoch f (if_none (ltb epoch f) (CrossIncarnationEpochRegression epoch f) None h).0 in
    choose (λ x. x ≡ Some to) (ltb f to) (λ t. refl) (λ t. ap Some (omega (arith, ltb-false f to t)))

-- a floor is raised to anything that is not below it
pub raise-next : (floor to : ℕ) → floor ≤ to → raise (Some floor) to ≡ Some to
raise-next floor to l =
    raise-over (Some floor) to to (ap (λ b. cond b (Some (CrossIncarnationEpochRegression to floor)) None) (le-ltb to floor l)) (omega arith)

-- ---- the last list

-- the last of the queue, if there is one
abbrev pub last_in : List ConsumerAssignment → Option ConsumerAssignment
last_in [] = None
last_in (a ∷ q) = Some (last_list a q)

last-append : (b : ConsumerAssignment) (q : List ConsumerAssignment) (a : ConsumerAssignment) → last_list b (q ++ (a ∷ [])) ≡ a
unfolding last_list
last-append b [] a = refl
last-append b (c ∷ q) a = last-append c q a

pub last_in-append : (q : List ConsumerAssignment) (a : ConsumerAssignment) → last_in (q ++ (a ∷ [])) ≡ Some a
unfolding last_list
last_in-append [] a = refl
last_in-append (c ∷ q) a = ap Some (last-append c q a)

pub last_in-or : (q : List ConsumerAssignment) (b : ConsumerAssignment) → or_else (last_in q) (Some b) ≡ Some (last_list b q)
unfolding last_list
last_in-or [] b = refl
last_in-or (a ∷ q) b = refl

pub last-proper : (b : ConsumerAssignment) (q : List ConsumerAssignment) → Proper b → Each Proper q → Proper (last_list b q)
unfolding last_list
last-proper b [] r s = r
last-proper b (a ∷ q) r s = last-proper a q s.0 s.1

-- ---- epochs

stale-head : (b a : ConsumerAssignment) (q : List ConsumerAssignment) → stale_fault b (a ∷ q) ≡ None → b.layout_epoch ≤ a.layout_epoch
unfolding stale_fault
stale-head b a q e =
    ltb-false a.layout_epoch b.layout_epoch
    (if_none (ltb a.layout_epoch b.layout_epoch) (StaleEpoch a.layout_epoch b.layout_epoch) (stale_fault a q) e).0

stale-tail : (b a : ConsumerAssignment) (q : List ConsumerAssignment) → stale_fault b (a ∷ q) ≡ None → stale_fault a q ≡ None
unfolding stale_fault
stale-tail b a q e =
    (if_none (ltb a.layout_epoch b.layout_epoch) (StaleEpoch a.layout_epoch b.layout_epoch) (stale_fault a q) e).1

-- where no push is stale, the last list's epoch is not below the baseline's
pub stale-last : (b : ConsumerAssignment) (q : List ConsumerAssignment) → stale_fault b q ≡ None
    → b.layout_epoch ≤ (last_list b q).layout_epoch
unfolding last_list
stale-last b [] e = omega arith
stale-last b (a ∷ q) e = omega (arith, stale-head b a q e, stale-last a q (stale-tail b a q e))

-- ---- what stands before position k: b before the first

abbrev pub before : ConsumerAssignment → List ConsumerAssignment → ℕ → ConsumerAssignment
before b q zero = b
before b [] (suc k) = b
before b (a ∷ q) (suc k) = before a q k

pub before-proper : (b : ConsumerAssignment) (q : List ConsumerAssignment) (k : ℕ) → Proper b → Each Proper q → Proper (before b q k)
before-proper b q zero r s = r
before-proper b [] (suc k) r s = r
before-proper b (a ∷ q) (suc k) r s = before-proper a q k s.0 s.1

-- ---- what a drain finds

-- at the queue's end there is no change
pub change-none : (i : ℕ) (b : ConsumerAssignment) (q : List ConsumerAssignment) → next_change i b q (length q) ≡ end
unfolding next_change
change-none i b [] = refl
change-none i b (a ∷ q) = change-none (suc i) a q

-- where there is no change, the last list stands already
pub change-end : (i : ℕ) (b : ConsumerAssignment) (q : List ConsumerAssignment) (k : ℕ) → next_change i b q k ≡ end
    → before b q k ≡ last_list b q
unfolding next_change last_list
change-end i b [] zero e = refl
change-end i b [] (suc k) e = refl
change-end i b (a ∷ q) (suc k) e = change-end (suc i) a q k e
change-end i b (a ∷ q) zero e = go (same_assignment b a) refl (change-end (suc i) a q zero) e
  where
    go : (t : Bool) → same_assignment b a ≡ t → (next_change (suc i) a q zero ≡ end → a ≡ last_list a q)
        → cond t (next_change (suc i) a q zero) (entry i (delta_between b a)) ≡ end → b ≡ last_list a q
    go true t ih h = assignment-eq b a t ∙ ih h
    go false t ih h = cc

-- a change is from what stands before the position to the list at a place of the queue, whose epoch is not below
pub record Change (i : ℕ) (b : ConsumerAssignment) (q : List ConsumerAssignment) (k j : ℕ) (d : AssignmentDelta) : Type 0 where
  pub place : ℕ
  pub at : j ≡ i + place
  pub delta : d ≡ delta_between (before b q k) (before b q (suc place))
  pub rises : stale_fault b q ≡ None → (before b q k).layout_epoch ≤ (before b q (suc place)).layout_epoch

not_end : {A : Type 0} (j : ℕ) (d : AssignmentDelta) → end ≡ entry j d → A
not_end j d e = let z : ◌≡◌ {A = ℕ} 0 1 = cc in absurd (omega arith)

-- the same, one place further back
further : (i : ℕ) (b a : ConsumerAssignment) (q : List ConsumerAssignment) (k j : ℕ) (d : AssignmentDelta)
    → Change (suc i) a q k j d → Change i b (a ∷ q) (suc k) j d
further i b a q k j d h =
    record { place = suc h.place; at = omega (arith, h.at); delta = h.delta; rises = λ s. h.rises (stale-tail b a q s) }

pub change-entry : (i : ℕ) (b : ConsumerAssignment) (q : List ConsumerAssignment) (k j : ℕ) (d : AssignmentDelta)
    → next_change i b q k ≡ entry j d → Change i b q k j d
unfolding next_change
change-entry i b [] zero j d e = not_end j d e
change-entry i b [] (suc k) j d e = not_end j d e
change-entry i b (a ∷ q) (suc k) j d e = further i b a q k j d (change-entry (suc i) a q k j d e)
change-entry i b (a ∷ q) zero j d e = go (same_assignment b a) refl (change-entry (suc i) a q zero j d) e
  where
    go : (t : Bool) → same_assignment b a ≡ t → (next_change (suc i) a q zero ≡ entry j d → Change (suc i) a q zero j d)
        → cond t (next_change (suc i) a q zero) (entry i (delta_between b a)) ≡ entry j d → Change i b (a ∷ q) zero j d
    go true t ih h =
        let p : a ≡ b = sym (assignment-eq b a t) in
        let f = further i b a q zero j d (ih h) in
        record {
          place = f.place;
          at = f.at;
          delta = f.delta ∙ ap (λ x. delta_between x (before b (a ∷ q) (suc f.place))) p;
          rises = λ s. subst (λ x. x.layout_epoch ≤ (before b (a ∷ q) (suc f.place)).layout_epoch) p (f.rises s);
        }
    go false t ih h =
        let p : i ≡ j = cc in
        let r : delta_between b a ≡ d = cc in
        record { place = 0; at = omega (arith, p); delta = sym r; rises = stale-head b a q }
