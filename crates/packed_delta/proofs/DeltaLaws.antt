-- A delta turns the old assignment into the new one; a join applied is its parts applied one after the other; join is associative.
--
-- In order: values that pass the tests are proper (`ok-proper`, `ids-proper`, `delta-ok-proper`, `is-delta-proper`); what an id finds after
-- each operation (`find-apply`, `find-lost`, `find-gained`, `same-found`, `find-without-same`); the results are proper; the laws (`delta-law`,
-- `apply-join`, `join-assoc`); and that a join's gained records are what `apply` makes of the first delta's (`join-overlay`).
-- Assumes nothing.
use Rattle.std.specs.Prelude.{Option, Some, None, option_map}
use Prim.Native.Nat.{ℕ, suc}
use native.Mathlib.Omega.{arith}
use mathlib.Core.Path.{◌≡◌, refl, ap, ap₂, sym, ◌∙◌}
use mathlib.Core.Bool.{Bool, true, false, cond, not, ◌||◌, or-false}
use mathlib.Core.List.{List, [], ◌∷◌}
use lib.ListN.{length}
use lib.Dec.{eqb, leb}
use borrow.Author.Tests.{eqb-true, leb-true}
use Rattle.slice.specs.BoolLaws.{both_true}
use Rattle.keyed.specs.Keyed.{self, or_else, is_some, only, filter, Above, Rising, find, holds, insert_all}
use Rattle.keyed.proofs.KeyedLaws.{find-below, find-insert_all, find-filter, find-keys, find-without, only_at}
use Rattle.keyed.proofs.KeyedLaws.{rising-insert_all, rising-filter, rising-keys, extensional}
use Rattle.packed.specs.Assignment.{AssignedSegment, id_of, ConsumerAssignment, ok_from}
use Rattle.packed.specs.Equal.{same_segment}
use Rattle.packed.proofs.AssignmentLaws.{ok-head, ok-tail}
use Rattle.packed.proofs.EqualLaws.{segment-refl, segment-eq}
use Rattle.packed_delta.specs.Delta.{AssignmentDelta, size_delta, decode_delta, ids_from, ok_delta, is_delta}
use Rattle.packed_delta.specs.Change.{has_same, without, delta_between}
use Rattle.packed_delta.specs.Join.{Proper, ProperDelta, strike, apply, names, join}

-- ---- values that pass the tests are proper

ok-above : (n : ℕ) (gs : List AssignedSegment) → ok_from (suc n) gs ≡ true → Above id_of n gs
ok-above n [] e = tt
ok-above n (g ∷ gs) e = ok-head (suc n) g gs e

pub ok-proper : (low : ℕ) (gs : List AssignedSegment) → ok_from low gs ≡ true → Rising id_of gs
ok-proper low [] e = tt
ok-proper low (g ∷ gs) e =
    let t : ok_from (suc g.segment_id) gs ≡ true = ok-tail low g gs e in
    (ok-above g.segment_id gs t, ok-proper (suc g.segment_id) gs t)

ids-above : (n : ℕ) (ids : List ℕ) → ids_from (suc n) ids ≡ true → Above self n ids
unfolding ids_from
ids-above n [] e = tt
ids-above n (id ∷ ids) e = leb-true (suc n) id (both_true (leb (suc n) id) _ e).0

pub ids-proper : (low : ℕ) (ids : List ℕ) → ids_from low ids ≡ true → Rising self ids
unfolding ids_from
ids-proper low [] e = tt
ids-proper low (id ∷ ids) e =
    let t : ids_from (suc id) ids ≡ true = (both_true (leb low id) _ e).1 in (ids-above id ids t, ids-proper (suc id) ids t)

pub delta-ok-proper : (d : AssignmentDelta) → ok_delta d ≡ true → ProperDelta d
unfolding ok_delta
delta-ok-proper d e =
    let p = both_true (ids_from 0 d.lost) _ e in (ids-proper 0 d.lost p.0, ok-proper 0 d.gained p.1)

pub is-delta-proper : (l : List ℕ) → is_delta l ≡ true → ProperDelta (decode_delta l)
unfolding is_delta
is-delta-proper l e = delta-ok-proper (decode_delta l) (both_true (eqb (size_delta (decode_delta l)) (length l)) _ e).1

-- ---- what an id finds after each operation

-- after `apply`: by what it finds gained, lost, and before
abbrev pub applied : {A : Type 0} → Option A → Option ℕ → Option A → Option A
applied gained lost before = or_else gained (cond (is_some lost) None before)

-- gained by a join: by what the second gains and loses, and what the first gains
abbrev pub merged : {A : Type 0} → Option A → Option ℕ → Option A → Option A
merged gained lost first = or_else gained (cond (is_some lost || is_some gained) None first)

pub find-apply : (k : ℕ) (d : AssignmentDelta) (a : ConsumerAssignment) → Proper a
    → find id_of k (apply d a).segments ≡ applied (find id_of k d.gained) (find self k d.lost) (find id_of k a.segments)
unfolding apply strike
find-apply k d a r =
    find-insert_all id_of k d.gained (strike d.lost a.segments)
    ∙ ap (or_else (find id_of k d.gained)) (find-without id_of (λ i. holds self i d.lost) k a.segments r)

pub find-lost : (k : ℕ) (d e : AssignmentDelta)
    → find self k (join d e).lost ≡ or_else (find self k e.lost) (find self k d.lost)
unfolding join
find-lost k d e = find-insert_all self k e.lost d.lost

pub find-gained : (k : ℕ) (d e : AssignmentDelta) → ProperDelta d
    → find id_of k (join d e).gained ≡ merged (find id_of k e.gained) (find self k e.lost) (find id_of k d.gained)
unfolding join
find-gained k d e r =
    find-insert_all id_of k e.gained (filter (λ g. not (names e g.segment_id)) d.gained)
    ∙ ap (or_else (find id_of k e.gained)) (find-without id_of (names e) k d.gained r.1)

-- the record that was found is identical to g
abbrev pub identical : Option AssignedSegment → AssignedSegment → Bool
identical None g = false
identical (Some h) g = same_segment g h

-- in a rising list an identical record is found by its id
pub same-found : (hs : List AssignedSegment) (g : AssignedSegment) → Rising id_of hs
    → has_same hs g ≡ identical (find id_of g.segment_id hs) g
unfolding has_same same_segment
same-found [] g r = refl
same-found (h ∷ hs) g r = go (eqb g.segment_id h.segment_id) refl (same-found hs g r.1)
  where
    go : (b : Bool) → eqb g.segment_id h.segment_id ≡ b → has_same hs g ≡ identical (find id_of g.segment_id hs) g
        → (same_segment g h || has_same hs g) ≡ identical (cond (eqb g.segment_id h.segment_id) (Some h) (find id_of g.segment_id hs)) g
    go true t ih =
        let f : find id_of g.segment_id hs ≡ None =
        find-below id_of g.segment_id h.segment_id hs (omega (arith, eqb-true g.segment_id h.segment_id t)) r.0 r.1 in
        let n : has_same hs g ≡ false = ih ∙ ap (λ (o : Option AssignedSegment). identical o g) f in
        simp (t, n, or-false)
    go false t ih = simp t ih

-- the first, unless the second is identical
abbrev pub differing : Option AssignedSegment → Option AssignedSegment → Option AssignedSegment
differing a b = only (λ g. not (identical b g)) a

pub find-without-same : (k : ℕ) (gs hs : List AssignedSegment) → Rising id_of gs → Rising id_of hs
    → find id_of k (without gs hs) ≡ differing (find id_of k gs) (find id_of k hs)
unfolding without
find-without-same k gs hs r s =
    find-filter id_of (λ g. not (has_same hs g)) k gs r
    ∙ (λ i. only (λ g. not (same-found hs g s i)) (find id_of k gs))
    ∙ only_at id_of (λ i g. not (identical (find id_of i hs) g)) k gs

-- ---- the results are proper

pub apply-proper : (d : AssignmentDelta) (a : ConsumerAssignment) → Proper a → Proper (apply d a)
unfolding apply strike
apply-proper d a r = rising-insert_all id_of d.gained (strike d.lost a.segments) (rising-filter id_of _ a.segments r)

pub join-proper : (d e : AssignmentDelta) → ProperDelta d → ProperDelta (join d e)
unfolding join
join-proper d e r =
    (rising-insert_all self e.lost d.lost r.0, rising-insert_all id_of e.gained _ (rising-filter id_of _ d.gained r.1))

pub without-proper : (gs hs : List AssignedSegment) → Rising id_of gs → Rising id_of (without gs hs)
unfolding without
without-proper gs hs r = rising-filter id_of (λ g. not (has_same hs g)) gs r

pub delta-proper : (a b : ConsumerAssignment) → Proper a → Proper b → ProperDelta (delta_between a b)
unfolding delta_between
delta-proper a b r s = (
  rising-keys id_of (without a.segments b.segments) (without-proper a.segments b.segments r),
  without-proper b.segments a.segments s,
)

-- ---- a delta turns the old assignment into the new one

one-id : (a b : Option AssignedSegment) → applied (differing b a) (option_map id_of (differing a b)) a ≡ b
one-id None None = refl
one-id None (Some h) = refl
one-id (Some g) None = refl
one-id (Some g) (Some h) = go (same_segment h g) refl
  where
    go : (t : Bool) → same_segment h g ≡ t
        → applied (differing (Some h) (Some g)) (option_map id_of (differing (Some g) (Some h))) (Some g) ≡ Some h
    go true e =
        let q : h ≡ g = segment-eq h g e in
        let b : same_segment g h ≡ true = rw q (segment-refl g) in
        simp (e, b) (ap Some (sym q))
    go false e = simp e

pub delta-law : (a b : ConsumerAssignment) → Proper a → Proper b → apply (delta_between a b) a ≡ b
unfolding apply delta_between
delta-law a b r s =
    let p : (apply (delta_between a b) a).segments ≡ b.segments =
    extensional id_of _ b.segments (apply-proper (delta_between a b) a r) s at_each in
    λ i. record { layout_epoch = b.layout_epoch; segments = p i }
  where
    gone : (k : ℕ)
        → find self k (delta_between a b).lost ≡ option_map id_of (differing (find id_of k a.segments) (find id_of k b.segments))
    gone k =
        find-keys id_of k (without a.segments b.segments)
        ∙ ap (option_map id_of) (find-without-same k a.segments b.segments r s)

    at_each : (k : ℕ) → find id_of k (apply (delta_between a b) a).segments ≡ find id_of k b.segments
    at_each k =
        find-apply k (delta_between a b) a r
        ∙ ap₂ (λ g l. applied g l (find id_of k a.segments)) (find-without-same k b.segments a.segments s r) (gone k)
        ∙ one-id (find id_of k a.segments) (find id_of k b.segments)

-- ---- a join applied is its parts applied, one after the other

two_steps : {A : Type 0} (dg eg a : Option A) (dl el : Option ℕ)
    → applied (merged eg el dg) (or_else el dl) a ≡ applied eg el (applied dg dl a)
two_steps dg (Some x) a dl el = refl
two_steps dg None a dl (Some i) = refl
two_steps dg None a dl None = refl

pub apply-join : (d e : AssignmentDelta) (a : ConsumerAssignment) → ProperDelta d → Proper a → apply (join d e) a ≡ apply e (apply d a)
unfolding apply join
apply-join d e a r s =
    let p : (apply (join d e) a).segments ≡ (apply e (apply d a)).segments =
    extensional id_of _ _ (apply-proper (join d e) a s) (apply-proper e (apply d a) (apply-proper d a s)) at_each in
    λ i. record { layout_epoch = e.layout_epoch; segments = p i }
  where
    at_each : (k : ℕ) → find id_of k (apply (join d e) a).segments ≡ find id_of k (apply e (apply d a)).segments
    at_each k =
        find-apply k (join d e) a s
        ∙ ap₂ (λ g l. applied g l (find id_of k a.segments)) (find-gained k d e r) (find-lost k d e)
        ∙ two_steps (find id_of k d.gained) (find id_of k e.gained) (find id_of k a.segments)
        (find self k d.lost) (find self k e.lost)
        ∙ sym (find-apply k e (apply d a) (apply-proper d a s)
        ∙ ap (applied (find id_of k e.gained) (find self k e.lost)) (find-apply k d a s))

-- ---- join is associative

three-lost : {A : Type 0} (d e f : Option A) → or_else f (or_else e d) ≡ or_else (or_else f e) d
three-lost d e (Some i) = refl
three-lost d e None = refl

three-gained : {A : Type 0} (dg eg fg : Option A) (el fl : Option ℕ)
    → merged fg fl (merged eg el dg) ≡ merged (merged fg fl eg) (or_else fl el) dg
three-gained dg eg (Some x) el fl = refl
three-gained dg eg None el (Some i) = refl
three-gained dg eg None el None = refl

pub join-assoc : (d e f : AssignmentDelta) → ProperDelta d → ProperDelta e → join (join d e) f ≡ join d (join e f)
unfolding join
join-assoc d e f r s =
    let l : (join (join d e) f).lost ≡ (join d (join e f)).lost = extensional self _ _ left.0 right.0 lost-at in
    let g : (join (join d e) f).gained ≡ (join d (join e f)).gained = extensional id_of _ _ left.1 right.1 gained-at in
    λ i. record { layout_epoch = f.layout_epoch; lost = l i; gained = g i }
  where
    left : ProperDelta (join (join d e) f)
    left = join-proper (join d e) f (join-proper d e r)

    right : ProperDelta (join d (join e f))
    right = join-proper d (join e f) r

    lost-at : (k : ℕ) → find self k (join (join d e) f).lost ≡ find self k (join d (join e f)).lost
    lost-at k =
        find-lost k (join d e) f
        ∙ ap (or_else (find self k f.lost)) (find-lost k d e)
        ∙ three-lost (find self k d.lost) (find self k e.lost) (find self k f.lost)
        ∙ sym (find-lost k d (join e f) ∙ ap (λ o. or_else o (find self k d.lost)) (find-lost k e f))

    gained-at : (k : ℕ) → find id_of k (join (join d e) f).gained ≡ find id_of k (join d (join e f)).gained
    gained-at k =
        find-gained k (join d e) f (join-proper d e r)
        ∙ ap (merged (find id_of k f.gained) (find self k f.lost)) (find-gained k d e r)
        ∙ three-gained (find id_of k d.gained) (find id_of k e.gained) (find id_of k f.gained)
        (find self k e.lost) (find self k f.lost)
        ∙ sym (find-gained k d (join e f) r
        ∙ ap₂ (λ l g. merged g l (find id_of k d.gained)) (find-lost k e f) (find-gained k e f s))

-- ---- one walk serves both

over : {A : Type 0} (dg eg : Option A) (el : Option ℕ) → merged eg el dg ≡ applied eg el dg
over dg (Some x) el = refl
over dg None (Some i) = refl
over dg None None = refl

-- a join's gained records are what `apply` makes of the first delta's: an id that the second gains is written over, struck or not
pub join-overlay : (d e : AssignmentDelta) → ProperDelta d
    → (join d e).gained ≡ insert_all id_of e.gained (strike e.lost d.gained)
unfolding apply
join-overlay d e r =
    extensional id_of _ (apply e first).segments (join-proper d e r).1 (apply-proper e first r.1) (λ k.
    find-gained k d e r
    ∙ over (find id_of k d.gained) (find id_of k e.gained) (find self k e.lost)
    ∙ sym (find-apply k e first r.1))
  where
    first : ConsumerAssignment
    first = record { layout_epoch = d.layout_epoch; segments = d.gained }
