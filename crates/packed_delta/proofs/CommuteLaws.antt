-- Two deltas that name no id in common may be joined in either order (02 k): the two joins differ at most in the
-- epoch, and so do the assignments that they make of any one. Beside it stands the law of bracketings (BracketLaws),
-- which keeps the order.
--
-- In order: the lost ids, which agree whatever the deltas name (`lost-commutes`); the gained records
-- (`gained-commutes`); an assignment's segments (`apply-commutes`).
-- Assumes nothing.
use Rattle.std.specs.Prelude.{Option, Some, None}
use Prim.Native.Nat.{ℕ}
use mathlib.Core.Path.{◌≡◌, refl, sym, ◌∙◌}
use mathlib.Core.Bool.{false, ◌||◌, ◌&&◌, false≢true}
use Rattle.keyed.specs.Keyed.{self, or_else, is_some, find}
use Rattle.keyed.proofs.KeyedLaws.{key-of-find, extensional}
use Rattle.packed.specs.Assignment.{id_of, ConsumerAssignment}
use Rattle.packed_delta.specs.Delta.{AssignmentDelta}
use Rattle.packed_delta.specs.Join.{ProperDelta, apply, Apart, join}
use Rattle.packed_delta.proofs.DeltaLaws.{merged, find-lost, find-gained, join-proper}

-- ---- the lost ids

-- an id that both lose is the same id, whichever is asked first
either-lost : (k : ℕ) (dl el : Option ℕ) → ((i : ℕ) → dl ≡ Some i → i ≡ k) → ((i : ℕ) → el ≡ Some i → i ≡ k)
    → or_else el dl ≡ or_else dl el
either-lost k None None f g = refl
either-lost k None (Some j) f g = refl
either-lost k (Some i) None f g = refl
either-lost k (Some i) (Some j) f g = let p : i ≡ k = f i refl in let q : j ≡ k = g j refl in cc

-- whatever the two name
pub lost-commutes : (d e : AssignmentDelta) → ProperDelta d → ProperDelta e → (join d e).lost ≡ (join e d).lost
lost-commutes d e r s =
    extensional self _ _ (join-proper d e r).0 (join-proper e d s).0 (λ k.
    find-lost k d e
    ∙ either-lost k (find self k d.lost) (find self k e.lost)
    (key-of-find self k d.lost) (key-of-find self k e.lost)
    ∙ sym (find-lost k e d))

-- ---- the gained records

-- an id that one of the two names at most, by what it finds lost and gained in each
either-gained : {A : Type 0} (dl : Option ℕ) (dg : Option A) (el : Option ℕ) (eg : Option A)
    → ((is_some dl || is_some dg) && (is_some el || is_some eg)) ≡ false → merged eg el dg ≡ merged dg dl eg
either-gained None None None None h = refl
either-gained None None (Some j) None h = refl
either-gained None None el (Some y) h = refl
either-gained None (Some x) None None h = refl
either-gained (Some i) None None None h = refl
either-gained (Some i) (Some x) None None h = refl
either-gained None (Some x) None (Some y) h = absurd (false≢true (sym h))
either-gained None (Some x) (Some j) eg h = absurd (false≢true (sym h))
either-gained (Some i) dg None (Some y) h = absurd (false≢true (sym h))
either-gained (Some i) dg (Some j) eg h = absurd (false≢true (sym h))

module _ (d e : AssignmentDelta) (r : ProperDelta d) (s : ProperDelta e) (h : Apart d e) where
  pub gained-commutes : (join d e).gained ≡ (join e d).gained
  gained-commutes =
      extensional id_of _ _ (join-proper d e r).1 (join-proper e d s).1 (λ k.
      find-gained k d e r
      ∙ either-gained (find self k d.lost) (find id_of k d.gained)
      (find self k e.lost) (find id_of k e.gained) (h k)
      ∙ sym (find-gained k e d s))

  -- ---- an assignment's segments

  -- of any assignment
  pub apply-commutes : (a : ConsumerAssignment) → (apply (join d e) a).segments ≡ (apply (join e d) a).segments
  unfolding apply
  apply-commutes a = cc (lost-commutes d e r s, gained-commutes)
