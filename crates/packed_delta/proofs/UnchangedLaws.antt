-- A delta loses and gains nothing just where the segments are the same, whatever the epochs.
-- Assumes nothing.
use mathlib.Core.Path.{◌≡◌, refl, ap, ap₂, sym, ◌∙◌}
use mathlib.Core.Bool.{true, or-true}
use mathlib.Core.List.{List, [], ◌∷◌, map}
use Rattle.keyed.specs.Keyed.{insert_all}
use Rattle.packed.specs.Assignment.{AssignedSegment, id_of, ConsumerAssignment}
use Rattle.packed.proofs.EqualLaws.{segment-refl}
use Rattle.packed_delta.specs.Change.{has_same, without, delta_between}
use Rattle.packed_delta.specs.Join.{Proper, strike, apply}
use Rattle.packed_delta.proofs.DeltaLaws.{delta-law}

-- nothing is left where the other row has all
without_all : (gs hs : List AssignedSegment) → ((g : AssignedSegment) → has_same gs g ≡ true → has_same hs g ≡ true) → without gs hs ≡ []
unfolding without has_same
without_all [] hs f = refl
without_all (g ∷ gs) hs f =
    let here : has_same hs g ≡ true = f g (simp (segment-refl g)) in
    simp here (without_all gs hs (λ x e. f x (simp (e, or-true))))

pub without-itself : (gs : List AssignedSegment) → without gs gs ≡ []
without-itself gs = without_all gs gs (λ g e. e)

strike-none : (gs : List AssignedSegment) → strike [] gs ≡ gs
unfolding strike
strike-none [] = refl
strike-none (g ∷ gs) = ap (g ∷◌) (strike-none gs)

module _ (a b : ConsumerAssignment) where
  -- the same segments: nothing is lost, nothing is gained
  pub same-lost : a.segments ≡ b.segments → (delta_between a b).lost ≡ []
  unfolding delta_between
  same-lost e = ap (λ gs. map id_of (without a.segments gs)) (sym e) ∙ ap (map id_of) (without-itself a.segments)

  pub same-gained : a.segments ≡ b.segments → (delta_between a b).gained ≡ []
  unfolding delta_between
  same-gained e = ap (without b.segments) e ∙ without-itself b.segments

  -- and the other way around
  pub unchanged : Proper a → Proper b → (delta_between a b).lost ≡ [] → (delta_between a b).gained ≡ [] → a.segments ≡ b.segments
  unfolding apply
  unchanged r s l g =
      sym (ap₂ (λ gained lost. insert_all id_of gained (strike lost a.segments)) g l ∙ strike-none a.segments)
      ∙ ap (λ c. c.segments) (delta-law a b r s)
