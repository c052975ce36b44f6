-- The Rust's equality of assignments is this port's (`assignment-eq-agrees`), and its delta, taken over maps, is too (`delta-agrees`).
-- Assumes nothing.
use Rattle.std.specs.Prelude.{option_map, Option, Some, None}
use Prim.Native.Nat.{ℕ}
use native.Mathlib.Omega.{arith}
use mathlib.Core.Path.{◌≡◌, refl, ap, ap₂, sym, ◌∙◌, subst}
use mathlib.Core.Bool.{Bool, true, false, cond, not, ◌&&◌, false≢true, true≢false}
use mathlib.Core.List.{List, [], ◌∷◌, map}
use lib.Dec.{eqb}
use borrow.Author.Tests.{eqb-true}
use Rattle.topic_types.specs.declared.KeyRange.{KeyRange}
use Rattle.keyed.specs.Keyed.{or_else, Rising, find}
use Rattle.keyed.proofs.KeyedLaws.{find-insert, find-below, rising-insert, extensional}
use Rattle.slice.proofs.SameLaws.{same_refl}
use Rattle.packed.specs.Assignment as port
use Rattle.packed.specs.Assignment.{id_of}
use Rattle.packed.specs.Equal.{same_range, same_ranges, same_segment, same_segments, same_assignment}
use Rattle.packed.proofs.EqualLaws.{segment-refl, segment-eq}
use Rattle.packed_delta.specs.Change.{has_same, without, delta_between}
use Rattle.packed_delta.specs.Join.{Proper}
use Rattle.packed_delta.proofs.DeltaLaws.{identical, same-found}
use Rattle.rust_magnetar.specs.Text.{Text, text-eq}
use Rattle.topic_types.specs.declared.SegmentId.{SegmentId}
use Rattle.rust_magnetar.specs.Collections.{Vec-eq, filter, is-none-or}
use Rattle.rust_magnetar.specs.BTree.{BTreeMap-get, BTreeMap-insert, BTreeMap-extend}
use Rattle.rust_magnetar.specs.Ranges.{KeyRange-eq}
use Rattle.rust_magnetar.specs.Assignment.{SegmentId-cmp, AssignedSegment, AssignedSegment-eq, ConsumerAssignment-eq}
use Rattle.rust_magnetar.specs.Session.{AssignmentDelta, SegmentMap, by-id, segment-map, is-gained, is_lost, key_of}
use Rattle.rust_names.proofs.TextAgrees.{text_same}
use Rattle.rust_session.specs.Values.{as_id, as_segment, as_assignment, as_delta}
use Rattle.rust_session.proofs.Verdicts.{or-none}
use Rattle.rust_session.proofs.TreeAgrees.{eq_test, entry_key, map-insert-agrees, filter-agrees}

-- ---- equality

ranges-agree : (qs rs : List KeyRange) → Vec-eq KeyRange-eq qs rs ≡ same_ranges qs rs
unfolding same_ranges
ranges-agree [] [] = refl
ranges-agree [] (r ∷ rs) = refl
ranges-agree (q ∷ qs) [] = refl
ranges-agree (q ∷ qs) (r ∷ rs) = ap (λ b. same_range q r && b) (ranges-agree qs rs)

-- a test that follows from the others
absorb : (a b c d : Bool) → ((a && (b && c)) ≡ true → d ≡ true) → (a && (b && (c && d))) ≡ (a && (b && c))
absorb true true true d h = h refl
absorb true true false d h = refl
absorb true false c d h = refl
absorb false b c d h = refl

-- the name follows from the other fields
segment-eq-agrees : (t : Text) (g h : port.AssignedSegment) → AssignedSegment-eq (as_segment t g) (as_segment t h) ≡ same_segment g h
unfolding same_segment
segment-eq-agrees t g h =
    ap (λ b. eqb g.segment_id h.segment_id && (same_range g.range h.range && (b && names)))
    (ranges-agree g.buckets h.buckets)
    ∙ absorb (eqb g.segment_id h.segment_id) (same_range g.range h.range) (same_ranges g.buckets h.buckets) names (λ e.
    subst (λ k. text-eq (as_segment t g).segment-topic (as_segment t k).segment-topic ≡ true) (segment-eq g h e)
    (text_same (as_segment t g).segment-topic (as_segment t g).segment-topic ∙ same_refl (as_segment t g).segment-topic))
  where
    names : Bool
    names = text-eq (as_segment t g).segment-topic (as_segment t h).segment-topic

segments-eq-agree : (t : Text) (gs hs : List port.AssignedSegment)
    → Vec-eq AssignedSegment-eq (map (as_segment t) gs) (map (as_segment t) hs) ≡ same_segments gs hs
unfolding same_segments
segments-eq-agree t [] [] = refl
segments-eq-agree t [] (h ∷ hs) = refl
segments-eq-agree t (g ∷ gs) [] = refl
segments-eq-agree t (g ∷ gs) (h ∷ hs) = ap₂ (λ a b. a && b) (segment-eq-agrees t g h) (segments-eq-agree t gs hs)

pub assignment-eq-agrees : (t : Text) (a b : port.ConsumerAssignment)
    → ConsumerAssignment-eq (as_assignment t a) (as_assignment t b) ≡ same_assignment a b
unfolding same_assignment
assignment-eq-agrees t a b = ap (λ c. eqb a.layout_epoch b.layout_epoch && c) (segments-eq-agree t a.segments b.segments)

same-swap : (g h : port.AssignedSegment) → same_segment g h ≡ same_segment h g
same-swap g h = go (same_segment g h) refl (same_segment h g) refl
  where
    turned : (x y : port.AssignedSegment) → same_segment x y ≡ true → same_segment y x ≡ true
    turned x y e = subst (λ z. same_segment z x ≡ true) (segment-eq x y e) (segment-refl x)

    go : (b : Bool) → same_segment g h ≡ b → (c : Bool) → same_segment h g ≡ c → b ≡ c
    go true e true f = refl
    go true e false f = absurd (true≢false (sym (turned g h e) ∙ f))
    go false e true f = absurd (false≢true (sym e ∙ turned h g f))
    go false e false f = refl

-- ---- maps

find-each : (k : ℕ) (m xs : SegmentMap) → Rising entry_key xs
    → find entry_key k (BTreeMap-extend SegmentId-cmp m xs) ≡ or_else (find entry_key k xs) (find entry_key k m)
find-each k m [] r = refl
find-each k m (x ∷ xs) r =
    find-each k (BTreeMap-insert SegmentId-cmp x.key x.value m) xs r.1
    ∙ ap (λ (l : SegmentMap). or_else (find entry_key k xs) (find entry_key k l)) (map-insert-agrees x.key x.value m)
    ∙ ap (or_else (find entry_key k xs)) (find-insert entry_key k x m)
    ∙ go (eqb k (entry_key x)) refl
  where
    go : (b : Bool) → eqb k (entry_key x) ≡ b
        → or_else (find entry_key k xs) (cond b (Some x) (find entry_key k m))
        ≡ or_else (cond b (Some x) (find entry_key k xs)) (find entry_key k m)
    go true e =
        ap (λ o. or_else o (Some x))
        (find-below entry_key k (entry_key x) xs (omega (arith, eqb-true k (entry_key x) e)) r.0 r.1)
    go false e = refl

rising-each : (m xs : SegmentMap) → Rising entry_key m → Rising entry_key (BTreeMap-extend SegmentId-cmp m xs)
rising-each m [] r = r
rising-each m (x ∷ xs) r =
    rising-each (BTreeMap-insert SegmentId-cmp x.key x.value m) xs
    (subst (Rising entry_key) (sym (map-insert-agrees x.key x.value m)) (rising-insert entry_key x m r))

-- the map of a rising list is the list
collect-rising : (xs : SegmentMap) → Rising entry_key xs → BTreeMap-extend SegmentId-cmp [] xs ≡ xs
collect-rising xs r =
    extensional entry_key (BTreeMap-extend SegmentId-cmp [] xs) xs (rising-each [] xs tt) r
    (λ k. find-each k [] xs r ∙ or-none (find entry_key k xs))

-- the entries of the segments
abbrev as_entries : Text → List port.AssignedSegment → SegmentMap
as_entries t gs = map by-id (map (as_segment t) gs)

rising-as : (t : Text) (gs : List port.AssignedSegment) → Rising id_of gs → Rising entry_key (as_entries t gs)
rising-as t [] r = tt
rising-as t (g ∷ []) r = (tt, tt)
rising-as t (g ∷ (h ∷ gs)) r = (r.0, rising-as t (h ∷ gs) r.1)

collected : (t : Text) (gs : List port.AssignedSegment) → Rising id_of gs → segment-map (map (as_segment t) gs) ≡ as_entries t gs
collected t gs r = collect-rising (as_entries t gs) (rising-as t gs r)

-- ---- deltas

find-as : (t : Text) (id : SegmentId) (gs : List port.AssignedSegment)
    → BTreeMap-get SegmentId-cmp id (as_entries t gs) ≡ option_map (as_segment t) (find id_of id.0 gs)
find-as t id [] = refl
find-as t id (g ∷ gs) = rw (eq_test id.0 g.segment_id) (go (eqb id.0 g.segment_id) (find-as t id gs))
  where
    go : (b : Bool) → BTreeMap-get SegmentId-cmp id (as_entries t gs) ≡ option_map (as_segment t) (find id_of id.0 gs)
        → cond b (Some (as_segment t g)) (BTreeMap-get SegmentId-cmp id (as_entries t gs))
        ≡ option_map (as_segment t) (cond b (Some g) (find id_of id.0 gs))
    go true ih = refl
    go false ih = ih

differs : (t : Text) (o : Option port.AssignedSegment) (g : port.AssignedSegment)
    → is-none-or (λ other. not (AssignedSegment-eq other (as_segment t g))) (option_map (as_segment t) o) ≡ not (identical o g)
differs t None g = refl
differs t (Some h) g = ap not (segment-eq-agrees t h g ∙ same-swap h g)

filter-as : {A B : Type 0} (f : A → B) (p : B → Bool) (q : A → Bool) → ((x : A) → p (f x) ≡ q x) → (xs : List A)
    → filter p (map f xs) ≡ map f (filter q xs)
filter-as f p q e [] = refl
filter-as f p q e (x ∷ xs) = go (p (f x)) (q x) (e x) (filter-as f p q e xs)
  where
    go : (b c : Bool) → b ≡ c → filter p (map f xs) ≡ map f (filter q xs)
        → cond b (f x ∷ filter p (map f xs)) (filter p (map f xs)) ≡ map f (cond c (x ∷ filter q xs) (filter q xs))
    go true true z ih = ap (f x ∷◌) ih
    go true false z ih = absurd (true≢false z)
    go false true z ih = absurd (false≢true z)
    go false false z ih = ih

-- entries that are lost are those of segments that are
lost_as : (after : SegmentMap) (xs : List AssignedSegment) → filter (is_lost after) (map by-id xs) ≡ map by-id (filter (is-gained after) xs)
lost_as after xs = filter-as by-id (is_lost after) (is-gained after) (λ x. refl) xs

ids-as : (t : Text) (gs : List port.AssignedSegment) → map key_of (as_entries t gs) ≡ map as_id (map id_of gs)
ids-as t [] = refl
ids-as t (g ∷ gs) = ap (as_id g.segment_id ∷◌) (ids-as t gs)

-- the segments of gs without an identical one in hs
without-agrees : (t : Text) (gs hs : List port.AssignedSegment) → Rising id_of hs
    → filter (is-gained (segment-map (map (as_segment t) hs))) (map (as_segment t) gs) ≡ map (as_segment t) (without gs hs)
unfolding without
without-agrees t gs hs r =
    filter-as (as_segment t) (is-gained (segment-map (map (as_segment t) hs))) (λ g. not (has_same hs g)) (λ g.
    ap (λ m. is-gained m (as_segment t g)) (collected t hs r)
    ∙ ap (is-none-or (λ other. not (AssignedSegment-eq other (as_segment t g)))) (find-as t (as_id g.segment_id) hs)
    ∙ differs t (find id_of g.segment_id hs) g
    ∙ ap not (sym (same-found hs g r))) gs
    ∙ ap (map (as_segment t)) (filter-agrees (λ g. not (has_same hs g)) gs)

-- what `apply_incoming` computes
abbrev pub rust_delta : List AssignedSegment → List AssignedSegment → ℕ → AssignmentDelta
rust_delta old new epoch =
    record {
      layout-epoch = epoch;
      gained = filter (is-gained (segment-map old)) new;
      lost = map key_of (filter (is_lost (segment-map new)) (segment-map old));
    }

pub delta-agrees : (t : Text) (a b : port.ConsumerAssignment) → Proper a → Proper b
    → rust_delta (map (as_segment t) a.segments) (map (as_segment t) b.segments) b.layout_epoch ≡ as_delta t (delta_between a b)
unfolding delta_between
delta-agrees t a b r s =
    let after : SegmentMap = segment-map (map (as_segment t) b.segments) in
    let gained = without-agrees t b.segments a.segments r in
    let lost =
    ap (λ (l : SegmentMap). map key_of (filter (is_lost after) l)) (collected t a.segments r)
    ∙ ap (map key_of) (lost_as after (map (as_segment t) a.segments))
    ∙ ap (λ (l : List AssignedSegment). map key_of (map by-id l)) (without-agrees t a.segments b.segments s)
    ∙ ids-as t (without a.segments b.segments) in
    λ i. record { layout-epoch = b.layout_epoch; gained = gained i; lost = lost i }
