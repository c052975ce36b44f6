-- What an assignment comes to.
--
-- In order: by the first refusal and the size (`content-refused`, `content-long`, `content-taken`, and back `took`); the size is the sum
-- over the segments as they came (`content-size`); one that is taken is a packed assignment that fits its widths (`content-fits`), of the
-- same epoch (`content-epoch`); segments that pass and come in id order are taken as they are (`content-rising`).
-- Assumes nothing.
use Rattle.std.specs.Prelude.{Option, Some, None}
use Prim.Native.Nat.{ℕ, ◌+◌, ◌≤◌, ◌<◌}
use native.Mathlib.Omega.{arith}
use mathlib.Core.Path.{◌≡◌, refl, sym, ap, ◌∙◌, subst}
use mathlib.Core.Bool.{Bool, true, false}
use mathlib.Core.List.{List, [], map}
use lib.Dec.{leb}
use borrow.Author.Tests.{le-leb, lt-leb, leb-true}
use Rattle.slice.specs.BoolLaws.{both_true}
use Rattle.refusal.specs.declared.Refusal.{Refusal}
use Rattle.refusal.specs.declared.Refusal.TheVariants.{AssignmentTooLong}
use Rattle.wire_readers.specs.Messages.{WireAssignment}
use Rattle.packed.specs.Assignment.{AssignedSegment, ConsumerAssignment, slot_size, size_segments, size_assignment, ok_from, ok_assignment}
use Rattle.packed.proofs.RoundLaws.{FitAssignment}
use Rattle.intake_content.specs.Content.{first_refusal, assigned_segment, in_id_order, consumer_assignment, refused, taken, content_by, content_of}
use Rattle.keyed.proofs.EachLaws.{Each}
use Rattle.intake_content.proofs.WideLaws.{Wide}
use Rattle.intake_content.proofs.OrderLaws.{Passing, order-size, order-ok, order-fit, order-rising, refusal-rising, count-least}

-- an assignment that is taken
pub record Took (parent : List ℕ) (a : WireAssignment) (y : ConsumerAssignment) : Type 0 where
  pub first : first_refusal parent [] a.segments ≡ None
  pub fits : size_assignment (consumer_assignment a) ≤ slot_size
  pub is : consumer_assignment a ≡ y

module _ (parent : List ℕ) (a : WireAssignment) where
  pub content-refused : (x : Refusal) → first_refusal parent [] a.segments ≡ Some x → content_of parent a ≡ refused x
  unfolding content_of
  content-refused x e = rw e

  module _ (e : first_refusal parent [] a.segments ≡ None) where
    pub content-long : slot_size < size_assignment (consumer_assignment a) → content_of parent a ≡ refused AssignmentTooLong
    unfolding content_of
    content-long h = simp (e, lt-leb (size_assignment (consumer_assignment a)) slot_size h)

    pub content-taken : size_assignment (consumer_assignment a) ≤ slot_size → content_of parent a ≡ taken (consumer_assignment a)
    unfolding content_of
    content-taken h = simp (e, le-leb (size_assignment (consumer_assignment a)) slot_size h)

    pub content-size : size_assignment (consumer_assignment a) ≡ 10 + size_segments (map assigned_segment a.segments)
    unfolding size_assignment consumer_assignment
    content-size = ap (λ (n : ℕ). 10 + n) (order-size parent a.segments e)

    whole-ok : size_assignment (consumer_assignment a) ≤ slot_size → ok_assignment (consumer_assignment a) ≡ true
    unfolding ok_assignment consumer_assignment
    whole-ok h = simp (le-leb (size_assignment (consumer_assignment a)) slot_size h) (order-ok parent a.segments e)

    whole-fits : Wide a → size_assignment (consumer_assignment a) ≤ slot_size → FitAssignment (consumer_assignment a)
    unfolding size_assignment consumer_assignment
    whole-fits w h =
        record {
          epoch = w.epoch;
          count = omega (arith, count-least (in_id_order [] a.segments));
          segments = order-fit parent a.segments e w.segments (omega arith);
        }

  pub took : (y : ConsumerAssignment) → content_of parent a ≡ taken y → Took parent a y
  unfolding content_of
  took y e = go (first_refusal parent [] a.segments) refl (leb (size_assignment (consumer_assignment a)) slot_size) refl e
    where
      go : (o : Option Refusal) → first_refusal parent [] a.segments ≡ o
          → (t : Bool) → leb (size_assignment (consumer_assignment a)) slot_size ≡ t
          → content_by o (consumer_assignment a) ≡ taken y → Took parent a y
      go (Some x) p t q f = let z : ◌≡◌ {A = ℕ} 0 1 = cc in absurd (omega arith)
      go None p true q f =
          let g : taken (consumer_assignment a) ≡ taken y = rw q at f in record { first = p; fits = leb-true _ _ q; is = cc }
      go None p false q f =
          let g : refused AssignmentTooLong ≡ taken y = rw q at f in let z : ◌≡◌ {A = ℕ} 0 1 = cc in absurd (omega arith)

  pub content-fits : Wide a → (y : ConsumerAssignment) → content_of parent a ≡ taken y → FitAssignment y × (ok_assignment y ≡ true)
  content-fits w y e =
      let t : Took parent a y = took y e in
      subst (λ (b : ConsumerAssignment). FitAssignment b × (ok_assignment b ≡ true)) t.is
      (whole-fits t.first w t.fits, whole-ok t.first t.fits)

  pub content-epoch : (y : ConsumerAssignment) → content_of parent a ≡ taken y → y.layout_epoch ≡ a.layout_epoch
  unfolding consumer_assignment
  content-epoch y e = sym (ap (λ (b : ConsumerAssignment). b.layout_epoch) (took y e).is)

  pub content-rising : Each (Passing parent) a.segments
      → ok_assignment (record { layout_epoch = a.layout_epoch; segments = map assigned_segment a.segments }) ≡ true
      → content_of parent a ≡ taken (record { layout_epoch = a.layout_epoch; segments = map assigned_segment a.segments })
  unfolding ok_assignment consumer_assignment
  content-rising p o =
      let y : ConsumerAssignment = record { layout_epoch = a.layout_epoch; segments = map assigned_segment a.segments } in
      let b : (leb (size_assignment y) slot_size ≡ true) × (ok_from 0 y.segments ≡ true) = both_true _ _ o in
      let e : consumer_assignment a ≡ y =
      ap (λ (gs : List AssignedSegment). record { layout_epoch = a.layout_epoch; segments = gs }) (order-rising a.segments b.1) in
      content-taken (refusal-rising parent a.segments p b.1)
      (subst (λ (c : ConsumerAssignment). size_assignment c ≤ slot_size) (sym e) (leb-true (size_assignment y) slot_size b.0))
      ∙ ap taken e
