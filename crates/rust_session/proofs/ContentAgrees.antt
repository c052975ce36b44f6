-- What an assignment of a message comes to: the Rust's `ConsumerAssignment::try_from_pb` refuses and takes it as this port does
-- (`content-agrees`; `taken-agrees`, of one that this port takes).
--
-- The Rust keeps the ids in a set, pushes each segment and sorts at the end; this port inserts each in its place. In order: the loop
-- (`segments-agree`); sorting with one more at the end (`sort-snoc`); the sorted segments are the inserted ones (`order-agrees`).
-- Assumes nothing.
use Rattle.std.specs.Prelude.{Option, Some, None}
use Prim.Native.Nat.{ℕ}
use native.Mathlib.Omega.{arith}
use mathlib.Core.Path.{◌≡◌, refl, ap, sym, ◌∙◌, subst}
use mathlib.Core.Bool.{Bool, true, false, cond, not, true≢false, not-not}
use mathlib.Core.List.{List, [], ◌∷◌, ◌++◌, map, append_assoc, append-nil}
use lib.Dec.{eqb, ltb, leb}
use borrow.Author.Tests.{ltb-true, ltb-false, leb-true, leb-false, eqb-false, le-leb, lt-leb}
use Rattle.topic_types.specs.declared.SegmentId.{SegmentId}
use Rattle.refusal.specs.declared.Refusal.{Refusal}
use Rattle.refusal.specs.declared.Refusal.TheVariants.{AssignmentTooLong}
use Rattle.wire_readers.specs.Messages.{WireSegment, WireAssignment}
use Rattle.keyed.specs.Keyed.{or_else, is_some, self, find, holds, insert}
use Rattle.keyed.proofs.KeyedLaws.{choose, find-insert}
use Rattle.packed.specs.Assignment as port
use Rattle.packed.specs.Assignment.{id_of, size_assignment, slot_size}
use Rattle.intake_content.specs.Content.{wire_id, segment_fault, duplicate_fault, first_refusal, assigned_segment, in_id_order, consumer_assignment}
use Rattle.intake_content.specs.Content.{refused, taken, content_by, content_of}
use Rattle.intake_content.proofs.OrderLaws.{First, refusal-none, SeenIds, seen_start, seen_next, seen-held}
use Rattle.rust_magnetar.specs.Result.{Result, Ok, Err, map-err}
use Rattle.rust_magnetar.specs.Text.{Text}
use Rattle.rust_magnetar.specs.Collections.{insert-by, sort-by}
use Rattle.rust_magnetar.specs.BTree.{BTreeSet-contains, BTreeSet-insert, BTreeSet-is-new}
use Rattle.rust_magnetar.specs.Assignment.{DuplicateSegment, SegmentId-cmp, AssignedSegment, AssignedSegment-try-from-pb, segments-loop, id-le}
use Rattle.rust_magnetar.specs.Assignment.{AssignmentError, ConsumerAssignment, ConsumerAssignment-try-from-pb}
use Rattle.rust_names.specs.Agree.{is_marked}
use Rattle.rust_session.specs.Paper.{paper}
use Rattle.rust_session.specs.Values.{as_segment, as_assignment}
use Rattle.rust_session.proofs.Verdicts.{verdict, Agreed, seq-agreed, test-agreed, or-none}
use Rattle.rust_session.proofs.OursLaws.{Ours}
use Rattle.rust_session.proofs.SegmentAgrees.{segment-agrees}
use Rattle.rust_session.proofs.TreeAgrees.{id-key, contains-agrees, insert-agrees}

-- ---- the loop

-- the set has the ids that were seen
abbrev SameIds : List SegmentId → List ℕ → Type 0
SameIds ids seen = (k : ℕ) → holds id-key k ids ≡ holds self k seen

same-ids : (ids : List SegmentId) (seen : List ℕ) (id : SegmentId) → SameIds ids seen
    → SameIds (BTreeSet-insert SegmentId-cmp id ids) (id.0 ∷ seen)
same-ids ids seen id h k = ap (holds id-key k) (insert-agrees id ids) ∙ ap is_some (find-insert id-key k id ids) ∙ go (eqb k id.0)
  where
    go : (t : Bool) → is_some (cond t (Some id) (find id-key k ids)) ≡ is_some (cond t (Some id.0) (find self k seen))
    go true = refl
    go false = h k

-- the segments as they came, as the Rust's
abbrev as_they_came : Text → List WireSegment → List AssignedSegment
as_they_came parent [] = []
as_they_came parent (w ∷ ws) = as_segment parent (assigned_segment w) ∷ as_they_came parent ws

module _ (parent : Text) (m : is_marked parent ≡ false) where
  segments-agree : (ws : List WireSegment) (segments : List AssignedSegment) (ids : List SegmentId) (seen : List ℕ) → SameIds ids seen
      → Agreed Ours paper (segments-loop parent ws segments ids) (first_refusal parent seen ws) (segments ++ as_they_came parent ws)
  unfolding first_refusal assigned_segment
  segments-agree [] segments ids seen h = Agreed.agree (ap (λ l. verdict None l) (sym (append-nil segments)))
  segments-agree (w ∷ ws) segments ids seen h =
      seq-agreed Ours paper (AssignedSegment-try-from-pb w parent) (segment_fault parent w) x (segment-agrees parent m w) _
      (or_else (duplicate_fault seen w) later) (segments ++ (x ∷ as_they_came parent ws)) (λ n.
      test-agreed Ours paper (not (BTreeSet-is-new SegmentId-cmp (wire_id w) ids)) (holds self w.segment_id seen)
      (not-not (BTreeSet-contains SegmentId-cmp (wire_id w) ids) ∙ contains-agrees (wire_id w) ids ∙ h w.segment_id)
      (DuplicateSegment (wire_id w))
      (segments-loop parent ws (segments ++ (x ∷ [])) more) later (segments ++ (x ∷ as_they_came parent ws)) (λ u.
      subst (Agreed Ours paper (segments-loop parent ws (segments ++ (x ∷ [])) more) later)
      (append_assoc segments (x ∷ []) (as_they_came parent ws))
      (segments-agree ws (segments ++ (x ∷ [])) more (w.segment_id ∷ seen) (same-ids ids seen (wire_id w) h))))
    where
      more : List SegmentId
      more = BTreeSet-insert SegmentId-cmp (wire_id w) ids

      x : AssignedSegment
      x = as_segment parent (assigned_segment w)

      later : Option Refusal
      later = first_refusal parent (w.segment_id ∷ seen) ws

-- ---- sorting, with one more at the end

abbrev segment-key : AssignedSegment → ℕ
segment-key s = s.segment-id.0

other_way : (a b : ℕ) → (a ≡ b → ⊥) → leb a b ≡ true → leb b a ≡ false
other_way a b n e = lt-leb b a (omega (arith, leb-true a b e, n))

insert-insert : (x y : AssignedSegment) → (segment-key x ≡ segment-key y → ⊥) → (l : List AssignedSegment)
    → insert-by id-le x (insert-by id-le y l) ≡ insert-by id-le y (insert-by id-le x l)
insert-insert x y n [] = go (id-le x y) refl
  where
    go : (b : Bool) → id-le x y ≡ b → insert-by id-le x (y ∷ []) ≡ insert-by id-le y (x ∷ [])
    go true t = let u = other_way (segment-key x) (segment-key y) n t in simp (t, u)
    go false t =
        let u : id-le y x ≡ true = le-leb (segment-key y) (segment-key x) (omega (arith, leb-false (segment-key x) (segment-key y) t)) in
        simp (t, u)
insert-insert x y n (z ∷ l) = go (id-le x z) refl (id-le y z) refl (id-le x y) refl (insert-insert x y n l)
  where
    go : (a : Bool) → id-le x z ≡ a → (b : Bool) → id-le y z ≡ b → (c : Bool) → id-le x y ≡ c
        → insert-by id-le x (insert-by id-le y l) ≡ insert-by id-le y (insert-by id-le x l)
        → insert-by id-le x (insert-by id-le y (z ∷ l)) ≡ insert-by id-le y (insert-by id-le x (z ∷ l))
    go true t true u true v ih = let w = other_way (segment-key x) (segment-key y) n v in simp (t, u, v, w)
    go true t true u false v ih =
        let w : id-le y x ≡ true = le-leb (segment-key y) (segment-key x) (omega (arith, leb-false (segment-key x) (segment-key y) v)) in
        simp (t, u, v, w)
    go true t false u c v ih =
        let w : id-le y x ≡ false =
        lt-leb (segment-key y) (segment-key x)
        (omega (arith, leb-true (segment-key x) (segment-key z) t, leb-false (segment-key y) (segment-key z) u)) in
        simp (t, u, w)
    go false t true u c v ih =
        let w : id-le x y ≡ false =
        lt-leb (segment-key x) (segment-key y)
        (omega (arith, leb-false (segment-key x) (segment-key z) t, leb-true (segment-key y) (segment-key z) u)) in
        simp (t, u, w)
    go false t false u c v ih = simp (t, u) (ap (z ∷◌) ih)

-- a key that is not held is not that of the first, and not held further on
not_first : {A : Type 0} (b : Bool) (x : A) (o : Option A) → is_some (cond b (Some x) o) ≡ false → (b ≡ false) × (is_some o ≡ false)
not_first true x o e = absurd (true≢false e)
not_first false x o e = (refl, e)

holds-insert : (k : ℕ) (x : AssignedSegment) (l : List AssignedSegment)
    → holds segment-key k (insert-by id-le x l) ≡ holds segment-key k (x ∷ l)
holds-insert k x [] = refl
holds-insert k x (y ∷ ys) =
    choose (λ l. holds segment-key k l ≡ holds segment-key k (x ∷ (y ∷ ys))) (id-le x y) (λ t. refl)
    (λ t. over (eqb k (segment-key y)) (eqb k (segment-key x)) (holds-insert k x ys))
  where
    over : (b c : Bool) → holds segment-key k (insert-by id-le x ys) ≡ is_some (cond c (Some x) (find segment-key k ys))
        → is_some (cond b (Some y) (find segment-key k (insert-by id-le x ys)))
        ≡ is_some (cond c (Some x) (cond b (Some y) (find segment-key k ys)))
    over true true e = refl
    over true false e = refl
    over false c e = e

both_some : {A B : Type 0} (b : Bool) (x : A) (y : B) (o : Option A) (p : Option B) → is_some o ≡ is_some p
    → is_some (cond b (Some x) o) ≡ is_some (cond b (Some y) p)
both_some true x y o p e = refl
both_some false x y o p e = e

holds-sort : (k : ℕ) (l : List AssignedSegment) → holds segment-key k (sort-by id-le l) ≡ holds segment-key k l
holds-sort k [] = refl
holds-sort k (x ∷ xs) =
    holds-insert k x (sort-by id-le xs)
    ∙ both_some (eqb k (segment-key x)) x x (find segment-key k (sort-by id-le xs)) (find segment-key k xs) (holds-sort k xs)

sort-snoc : (l : List AssignedSegment) (x : AssignedSegment) → holds segment-key (segment-key x) l ≡ false
    → sort-by id-le (l ++ (x ∷ [])) ≡ insert-by id-le x (sort-by id-le l)
sort-snoc [] x h = refl
sort-snoc (a ∷ l) x h =
    let n = not_first (eqb (segment-key x) (segment-key a)) a (find segment-key (segment-key x) l) h in
    ap (insert-by id-le a) (sort-snoc l x n.1)
    ∙ insert-insert a x (λ e. eqb-false (segment-key x) (segment-key a) n.0 (sym e)) (sort-by id-le l)

-- ---- sorted, and inserted one by one

module _ (parent : Text) where
  sorted_insert : (g : port.AssignedSegment) (l : List port.AssignedSegment) → holds id_of g.segment_id l ≡ false
      → insert-by id-le (as_segment parent g) (map (as_segment parent) l) ≡ map (as_segment parent) (insert id_of g l)
  sorted_insert g [] h = refl
  sorted_insert g (y ∷ ys) h =
      let n = not_first (eqb g.segment_id y.segment_id) y (find id_of g.segment_id ys) h in
      go (ltb g.segment_id y.segment_id) refl n.0 (sorted_insert g ys n.1)
    where
      go : (b : Bool) → ltb g.segment_id y.segment_id ≡ b → eqb g.segment_id y.segment_id ≡ false
          → insert-by id-le (as_segment parent g) (map (as_segment parent) ys) ≡ map (as_segment parent) (insert id_of g ys)
          → insert-by id-le (as_segment parent g) (map (as_segment parent) (y ∷ ys)) ≡ map (as_segment parent) (insert id_of g (y ∷ ys))
      go true t e ih =
          let u : leb g.segment_id y.segment_id ≡ true =
          le-leb g.segment_id y.segment_id (omega (arith, ltb-true g.segment_id y.segment_id t)) in
          simp (t, u)
      go false t e ih =
          let u : leb g.segment_id y.segment_id ≡ false =
          lt-leb g.segment_id y.segment_id
          (omega (arith, ltb-false g.segment_id y.segment_id t, eqb-false g.segment_id y.segment_id e)) in
          simp (t, e, u) (ap (as_segment parent y ∷◌) ih)

  holds_as : (k : ℕ) (l : List port.AssignedSegment) → holds segment-key k (map (as_segment parent) l) ≡ holds id_of k l
  holds_as k [] = refl
  holds_as k (y ∷ ys) =
      both_some (eqb k y.segment_id) (as_segment parent y) y (find segment-key k (map (as_segment parent) ys)) (find id_of k ys)
      (holds_as k ys)

  order-agrees : (ws : List WireSegment) (segments : List AssignedSegment) (seen : List ℕ) (done : List port.AssignedSegment)
      → sort-by id-le segments ≡ map (as_segment parent) done → SeenIds seen done → first_refusal parent seen ws ≡ None
      → sort-by id-le (segments ++ as_they_came parent ws) ≡ map (as_segment parent) (in_id_order done ws)
  unfolding in_id_order
  order-agrees [] segments seen done e s n = ap (sort-by id-le) (append-nil segments) ∙ e
  order-agrees (w ∷ ws) segments seen done e s n =
      ap (sort-by id-le) (sym (append_assoc segments (x ∷ []) (as_they_came parent ws)))
      ∙ order-agrees ws (segments ++ (x ∷ [])) (w.segment_id ∷ seen) (insert id_of g done) next (seen_next seen done s w) f.others
    where
      g : port.AssignedSegment
      g = assigned_segment w

      x : AssignedSegment
      x = as_segment parent g

      f : First parent seen w ws
      f = refusal-none parent seen w ws n

      fresh : holds id_of (assigned_segment w).segment_id done ≡ false
      fresh = seen-held seen done s w ∙ f.new

      absent : holds segment-key (assigned_segment w).segment_id segments ≡ false
      absent =
          sym (holds-sort (assigned_segment w).segment_id segments) ∙ ap (holds segment-key (assigned_segment w).segment_id) e
          ∙ holds_as (assigned_segment w).segment_id done ∙ fresh

      next : sort-by id-le (segments ++ (x ∷ [])) ≡ map (as_segment parent) (insert id_of g done)
      next = sort-snoc segments x absent ∙ ap (insert-by id-le x) e ∙ sorted_insert g done fresh

-- ---- the assignment

pub content-agrees : (parent : Text) (a : WireAssignment) → is_marked parent ≡ false
    → Agreed Ours paper (ConsumerAssignment-try-from-pb a parent) (first_refusal parent [] a.segments)
    (as_assignment parent (consumer_assignment a))
unfolding consumer_assignment
content-agrees parent a m =
    subst (λ o. Agreed Ours paper (ConsumerAssignment-try-from-pb a parent) o (as_assignment parent (consumer_assignment a)))
    (or-none (first_refusal parent [] a.segments))
    (seq-agreed Ours paper (segments-loop parent a.segments [] []) (first_refusal parent [] a.segments) (as_they_came parent a.segments)
    (segments-agree parent m a.segments [] [] [] (λ k. refl)) _ None (as_assignment parent (consumer_assignment a))
    (λ n.
    Agreed.agree (ap (λ l. verdict None (record { layout-epoch = a.layout_epoch; segments = l }))
    (order-agrees parent a.segments [] [] [] refl seen_start n))))

-- ---- an assignment that this port takes

refused-taken : {A : Type 0} {x : Refusal} {a : port.ConsumerAssignment} → refused x ≡ taken a → A
refused-taken e = let z : ◌≡◌ {A = ℕ} 0 1 = cc in absurd (omega arith)

fits-taken : (t : Bool) (c a : port.ConsumerAssignment) → cond t (taken c) (refused AssignmentTooLong) ≡ taken a → c ≡ a
fits-taken true c a e = cc
fits-taken false c a e = refused-taken e

ok-agreed : (m : Result ConsumerAssignment AssignmentError) (x : ConsumerAssignment) → map-err paper m ≡ Ok x → m ≡ Ok x
ok-agreed (Ok y) x e = let p : y ≡ x = cc in ap (λ (b : ConsumerAssignment). Ok b) p
ok-agreed (Err y) x e = let z : ◌≡◌ {A = ℕ} 0 1 = cc in absurd (omega arith)

pub taken-agrees : (parent : Text) (w : WireAssignment) (a : port.ConsumerAssignment) → is_marked parent ≡ false → content_of parent w ≡ taken a
    → ConsumerAssignment-try-from-pb w parent ≡ Ok (as_assignment parent a)
unfolding content_of
taken-agrees parent w a m e = go (first_refusal parent [] w.segments) e (content-agrees parent w m)
  where
    c : port.ConsumerAssignment
    c = consumer_assignment w

    go : (o : Option Refusal) → content_by o c ≡ taken a
        → Agreed Ours paper (ConsumerAssignment-try-from-pb w parent) o (as_assignment parent c)
        → ConsumerAssignment-try-from-pb w parent ≡ Ok (as_assignment parent a)
    go (Some x) e g = refused-taken e
    go None e (Agreed.agree f) =
        ok-agreed (ConsumerAssignment-try-from-pb w parent) (as_assignment parent c) f
        ∙ ap (λ (b : port.ConsumerAssignment). Ok (as_assignment parent b)) (fits-taken (leb (size_assignment c) slot_size) c a e)
    go None e (Agreed.mine x p q) = let z : ◌≡◌ {A = ℕ} 0 1 = cc in absurd (omega arith)
