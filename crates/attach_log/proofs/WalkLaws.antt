-- Laws of deltas one behind another.
--
-- In order: what the delta that was read at a place says (`lost-count`, `gained-count`, `long`, `fits`, `few`); the end
-- of the bytes (`not-nil`, `nil_end`); a walk over deltas (`Walk`: `walk_start`, `walk-bad`, `walk-next`, `walk_end`).
-- Assumes nothing.
use Prim.Native.Nat.{ℕ, zero, suc, ◌+◌, ◌-◌, ◌*◌, ◌≤◌, ◌<◌}
use native.Mathlib.Nat.{not-suc-le-zero}
use native.Mathlib.Omega.{arith}
use mathlib.Core.Path.{◌≡◌, refl, sym, ap, ◌∙◌}
use mathlib.Core.Bool.{Bool, true, false, ◌&&◌, ◌||◌}
use mathlib.Core.List.{List}
use lib.ListN.{length, drop, length-drop}
use lib.Seq.{drop-drop}
use borrow.Author.Tests.{eq-eqb, ne_eqb}
use Rattle.packed.specs.Assignment.{AssignedSegment, decode_segments}
use Rattle.packed.proofs.AssignmentLaws.{length-segments_of}
use Rattle.packed_delta.specs.Delta.{decode_delta, starts_delta}
use Rattle.packed_delta.proofs.RoundLaws.{length-ids_of, Front}
use Rattle.packed_delta.proofs.ShortLaws.{size-records}
use Rattle.attach_entries.specs.Log.{is_nil, behind, are_at_most, are_deltas}

-- ---- the delta that was read

module _ {l : List ℕ} {m n z : ℕ} (f : Front l m n z) where
  pub lost-count : length (decode_delta l).lost ≡ m
  lost-count = ap length f.lost-is ∙ length-ids_of m (drop 12 l)

  pub gained-count : length (decode_delta l).gained ≡ n
  gained-count = ap length f.gained-is ∙ length-segments_of n (drop (12 + 8 * m) l)

  pub long : 12 ≤ z
  long = omega (arith, f.ends)

  pub fits : z ≤ length l
  fits = omega (arith, f.ends, f.records.fits)

  -- there are fewer entries than bytes
  pub few : m + n ≤ length l
  few =
      let gs : List AssignedSegment = decode_segments n (drop (12 + 8 * m) l) in
      omega (arith, f.records.fits, size-records gs, length-segments_of n (drop (12 + 8 * m) l))

-- ---- deltas one behind another

pub not-nil : (s : List ℕ) (p : ℕ) → p < length s → is_nil (drop p s) ≡ false
not-nil s p h =
    let k : length (drop p s) ≡ length s - p = length-drop p s in
    ne_eqb (length (drop p s)) 0 (λ e. omega arith)

pub nil_end : (s : List ℕ) (p : ℕ) → length s ≤ p → is_nil (drop p s) ≡ true
nil_end s p h =
    let k : length (drop p s) ≡ length s - p = length-drop p s in
    let e : length (drop p s) ≡ 0 = omega arith in
    eq-eqb (length (drop p s)) 0 e

at-most-step : (f : ℕ) (l : List ℕ) → 0 < f → are_at_most f l ≡ (is_nil l || (starts_delta l && are_at_most (f - 1) (behind l)))
unfolding are_at_most
at-most-step zero l h = absurd (not-suc-le-zero h)
at-most-step (suc f) l h =
    let e : f ≡ suc f - 1 = omega arith in
    ap (λ (k : ℕ). is_nil l || (starts_delta l && are_at_most k (behind l))) e

-- at the place p the bytes that are left decide; there are never more deltas than bytes
pub record Walk (s : List ℕ) (p : ℕ) : Type 0 where
  pub most : ℕ
  pub bound : p ≤ length s
  pub enough : length s ≤ p + most
  pub decides : are_deltas s ≡ are_at_most most (drop p s)

pub walk_start : (s : List ℕ) → Walk s 0
unfolding are_deltas
walk_start s = record { most = length s; bound = omega arith; enough = omega arith; decides = refl }

module _ (s : List ℕ) (p : ℕ) (w : Walk s p) where
  pub walk_end : length s ≤ p → true ≡ are_deltas s
  unfolding are_at_most
  walk_end h = sym (w.decides ∙ go w.most)
    where
      go : (f : ℕ) → are_at_most f (drop p s) ≡ true
      go zero = nil_end s p h
      go (suc f) = simp (nil_end s p h)

  module _ (h : p < length s) where
    walk_here : are_deltas s ≡ (starts_delta (drop p s) && are_at_most (w.most - 1) (behind (drop p s)))
    walk_here =
        w.decides
        ∙ at-most-step w.most (drop p s) (omega (arith, w.enough))
        ∙ ap (λ (t : Bool). t || (starts_delta (drop p s) && are_at_most (w.most - 1) (behind (drop p s)))) (not-nil s p h)

    pub walk-bad : starts_delta (drop p s) ≡ false → false ≡ are_deltas s
    walk-bad e = sym (walk_here ∙ simp e)

    pub walk-next : (m n z : ℕ) → Front (drop p s) m n z → Walk s (p + z)
    walk-next m n z f =
        let k : length (drop p s) ≡ length s - p = length-drop p s in
        record {
          most = w.most - 1;
          bound = omega (arith, fits f);
          enough = omega (arith, long f, w.enough);
          decides =
              walk_here
              ∙ ap (λ (t : Bool). t && are_at_most (w.most - 1) (behind (drop p s))) f.starts
              ∙ ap (λ (y : ℕ). are_at_most (w.most - 1) (drop y (drop p s))) (sym f.size_is)
              ∙ ap (are_at_most (w.most - 1)) (drop-drop z p s);
        }
