-- What an assignment comes to does not depend on the order of its segments (`content-shuffled`): 9 to 14 are found in
-- both orders or in neither, and what is taken, or too long (15), is the same.
--
-- In order: the first refusal looks at the ids that were seen, not at their order (`seen_same`); none in one order,
-- none in another (`none-shuffled`); two segments with other ids put in their places (`insert-swap`), and all of them
-- (`order-shuffled`); what they come to (`content-shuffled`, `taken-shuffled`).
-- Assumes nothing.
use Rattle.std.specs.Prelude.{Option, Some, None}
use Prim.Native.Nat.{ℕ}
use mathlib.Core.Path.{◌≡◌, refl, sym, ap, ◌∙◌}
use mathlib.Core.Bool.{Bool, true, false, cond, true≢false}
use mathlib.Core.List.{List, [], ◌∷◌}
use Rattle.std.proofs.lemmas.Option.{none-some}
use lib.Dec.{eqb}
use borrow.Author.Tests.{eqb-true, eqb-false, ne_eqb}
use Rattle.refusal.specs.declared.Refusal.{Refusal}
use Rattle.wire_readers.specs.Messages.{WireSegment, WireAssignment}
use Rattle.keyed.specs.Keyed.{is_some, self, Rising, find, holds, insert}
use Rattle.keyed.proofs.KeyedLaws.{find-insert, rising-insert, extensional}
use Rattle.packed.specs.Assignment.{AssignedSegment, ConsumerAssignment, id_of}
use Rattle.intake_content.specs.Content.{duplicate_fault, first_refusal, assigned_segment, in_id_order, consumer_assignment}
use Rattle.intake_content.specs.Content.{Content, refused, taken, content_of}
use Rattle.intake_content.proofs.OrderLaws.{First, refusal-next, refusal-none}
use Rattle.intake_content.proofs.ContentLaws.{content-refused}
use Rattle.keyed.specs.Shuffled.{Shuffled, nil, cons, swap, trans}
use Rattle.keyed.proofs.ShuffleLaws.{shuffled-sym}

-- ---- the ids that were seen

abbrev Same : List ℕ → List ℕ → Type 0
Same s t = (k : ℕ) → holds self k s ≡ holds self k t

same-cons : (i : ℕ) (s t : List ℕ) → Same s t → Same (i ∷ s) (i ∷ t)
same-cons i s t h k = go (eqb k i)
  where
    go : (b : Bool) → is_some (cond b (Some i) (find self k s)) ≡ is_some (cond b (Some i) (find self k t))
    go true = refl
    go false = h k

same-swap : (i j : ℕ) (s : List ℕ) → Same (i ∷ j ∷ s) (j ∷ i ∷ s)
same-swap i j s k = go (eqb k i) (eqb k j)
  where
    go : (a b : Bool)
        → is_some (cond a (Some i) (cond b (Some j) (find self k s)))
        ≡ is_some (cond b (Some j) (cond a (Some i) (find self k s)))
    go true true = refl
    go true false = refl
    go false true = refl
    go false false = refl

seen_same : (parent s t : List ℕ) (ws : List WireSegment) → Same s t
    → first_refusal parent s ws ≡ first_refusal parent t ws
unfolding first_refusal
seen_same parent s t [] h = refl
seen_same parent s t (w ∷ ws) h =
    let r = seen_same parent (w.segment_id ∷ s) (w.segment_id ∷ t) ws (same-cons w.segment_id s t h) in
    let d : duplicate_fault s w ≡ duplicate_fault t w = rw (h w.segment_id) in
    cc

-- ---- no refusal

-- i was not seen, and is not j
apart : (i j : ℕ) (s : List ℕ) → holds self i (j ∷ s) ≡ false → (eqb i j ≡ false) × (holds self i s ≡ false)
apart i j s h = go (eqb i j) refl h
  where
    go : (b : Bool) → eqb i j ≡ b → is_some (cond b (Some j) (find self i s)) ≡ false
        → (eqb i j ≡ false) × (holds self i s ≡ false)
    go true e f = absurd (true≢false f)
    go false e f = (e, f)

eqb-turn : (i j : ℕ) → eqb i j ≡ false → eqb j i ≡ false
eqb-turn i j h = ne_eqb j i (λ e. eqb-false i j h (sym e))

beyond : (i j : ℕ) (s : List ℕ) → eqb i j ≡ false → holds self i s ≡ false → holds self i (j ∷ s) ≡ false
beyond i j s e h = rw e h

module _ (parent : List ℕ) where
  none-shuffled : {ws vs : List WireSegment} → Shuffled ws vs → (seen : List ℕ) → first_refusal parent seen ws ≡ None
      → first_refusal parent seen vs ≡ None
  none-shuffled nil seen e = e
  none-shuffled (cons w {xs} {ys} r) seen e =
      let f : First parent seen w xs = refusal-none parent seen w xs e in
      refusal-next parent seen w ys f.passes f.new ∙ none-shuffled r (w.segment_id ∷ seen) f.others
  none-shuffled (swap v w ws) seen e =
      let i : ℕ = v.segment_id in
      let j : ℕ = w.segment_id in
      let f : First parent seen v (w ∷ ws) = refusal-none parent seen v (w ∷ ws) e in
      let g : First parent (i ∷ seen) w ws = refusal-none parent (i ∷ seen) w ws f.others in
      let a = apart j i seen g.new in
      refusal-next parent seen w (v ∷ ws) g.passes a.1
      ∙ refusal-next parent (j ∷ seen) v ws f.passes (beyond i j seen (eqb-turn j i a.0) f.new)
      ∙ seen_same parent (i ∷ j ∷ seen) (j ∷ i ∷ seen) ws (same-swap i j seen)
      ∙ g.others
  none-shuffled (trans r s) seen e = none-shuffled s seen (none-shuffled r seen e)

-- ---- in id order

insert-swap : (g h : AssignedSegment) (done : List AssignedSegment)
    → eqb g.segment_id h.segment_id ≡ false → Rising id_of done
    → insert id_of h (insert id_of g done) ≡ insert id_of g (insert id_of h done)
insert-swap g h done n r =
    extensional id_of _ _
    (rising-insert id_of h (insert id_of g done) (rising-insert id_of g done r))
    (rising-insert id_of g (insert id_of h done) (rising-insert id_of h done r))
    (λ k.
    find-insert id_of k h (insert id_of g done)
    ∙ ap (cond (eqb k h.segment_id) (Some h)) (find-insert id_of k g done)
    ∙ go k (eqb k g.segment_id) refl (eqb k h.segment_id) refl
    ∙ sym (ap (cond (eqb k g.segment_id) (Some g)) (find-insert id_of k h done))
    ∙ sym (find-insert id_of k g (insert id_of h done)))
  where
    go : (k : ℕ) (a : Bool) → eqb k g.segment_id ≡ a → (b : Bool) → eqb k h.segment_id ≡ b
        → cond (eqb k h.segment_id) (Some h) (cond (eqb k g.segment_id) (Some g) (find id_of k done))
        ≡ cond (eqb k g.segment_id) (Some g) (cond (eqb k h.segment_id) (Some h) (find id_of k done))
    go k true p true q =
        let e : g.segment_id ≡ h.segment_id = sym (eqb-true k g.segment_id p) ∙ eqb-true k h.segment_id q in
        absurd (eqb-false g.segment_id h.segment_id n e)
    go k true p false q = simp (p, q)
    go k false p true q = simp (p, q)
    go k false p false q = simp (p, q)

module _ (parent : List ℕ) where
  order-shuffled : {ws vs : List WireSegment} → Shuffled ws vs → (seen : List ℕ) → first_refusal parent seen ws ≡ None
      → (done : List AssignedSegment) → Rising id_of done → in_id_order done ws ≡ in_id_order done vs
  unfolding in_id_order assigned_segment
  order-shuffled nil seen e done r = refl
  order-shuffled (cons w {xs} {ys} s) seen e done r =
      let g : AssignedSegment = assigned_segment w in
      order-shuffled s (w.segment_id ∷ seen) (refusal-none parent seen w xs e).others (insert id_of g done)
      (rising-insert id_of g done r)
  order-shuffled (swap v w ws) seen e done r =
      let f : First parent seen v (w ∷ ws) = refusal-none parent seen v (w ∷ ws) e in
      let g : First parent (v.segment_id ∷ seen) w ws = refusal-none parent (v.segment_id ∷ seen) w ws f.others in
      let n : eqb v.segment_id w.segment_id ≡ false =
      eqb-turn w.segment_id v.segment_id (apart w.segment_id v.segment_id seen g.new).0 in
      ap (λ (l : List AssignedSegment). in_id_order l ws) (insert-swap (assigned_segment v) (assigned_segment w) done n r)
  order-shuffled (trans s t) seen e done r =
      order-shuffled s seen e done r ∙ order-shuffled t seen (none-shuffled parent s seen e) done r

-- ---- what it comes to

pub data AlikeContent (c d : Content) : Type 0 where
  equal : c ≡ d → AlikeContent c d
  refusals : (x y : Refusal) → c ≡ refused x → d ≡ refused y → AlikeContent c d

module _ (parent : List ℕ) (a b : WireAssignment) (e : a.layout_epoch ≡ b.layout_epoch)
    (s : Shuffled a.segments b.segments) where
  pub content-shuffled : AlikeContent (content_of parent a) (content_of parent b)
  unfolding content_of consumer_assignment
  content-shuffled = go (first_refusal parent [] a.segments) refl (first_refusal parent [] b.segments) refl
    where
      go : (o : Option Refusal) → first_refusal parent [] a.segments ≡ o
          → (q : Option Refusal) → first_refusal parent [] b.segments ≡ q
          → AlikeContent (content_of parent a) (content_of parent b)
      go None p None q =
          let i : in_id_order [] a.segments ≡ in_id_order [] b.segments = order-shuffled parent s [] p [] tt in
          let k : consumer_assignment a ≡ consumer_assignment b = cc in
          equal (cc)
      go None p (Some y) q = absurd (none-some y (sym (sym q ∙ none-shuffled parent s [] p)))
      go (Some x) p None q = absurd (none-some x (sym (sym p ∙ none-shuffled parent (shuffled-sym s) [] q)))
      go (Some x) p (Some y) q = refusals x y (content-refused parent a x p) (content-refused parent b y q)

  -- what is taken in one order is taken in another
  pub taken-shuffled : (y : ConsumerAssignment) → content_of parent b ≡ taken y → content_of parent a ≡ taken y
  taken-shuffled y h = go content-shuffled
    where
      is_taken : Content → Bool
      is_taken (refused x) = false
      is_taken (taken z) = true

      go : AlikeContent (content_of parent a) (content_of parent b) → content_of parent a ≡ taken y
      go (equal p) = p ∙ h
      go (refusals x z p q) = absurd (true≢false (ap is_taken (sym h ∙ q)))
