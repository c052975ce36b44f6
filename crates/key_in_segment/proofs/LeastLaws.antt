-- Laws of the least value of a test, and that src/ finds it.
--
-- In order: there is only one (`least-one`); the least value of its range that a segment takes is the least of all
-- (`least-taken`); the least of either of two tests (`least-either`), of two ranges (`common-none`, `common-some`,
-- `least-common`), of a range and a row (`least-row`); a segment without buckets and with (`least-whole`,
-- `least-bucketed`); a row range by range (`lesser-none`, `row-turn`).
-- Assumes nothing.
use Rattle.std.specs.Prelude.{Option, Some, None}
use Prim.Native.Nat.{ℕ, zero, suc, ◌+◌, ◌-◌, ◌≤◌, ◌<◌, min, max}
use native.Mathlib.Decide.{dec_le}
use native.Mathlib.Omega.{arith}
use mathlib.Core.Path.{◌≡◌, refl, sym, ap, ◌∙◌, subst}
use mathlib.Core.Bool.{Bool, true, false, cond, ◌&&◌, ◌||◌, true≢false, and-false, or-true, or-false, and-or_distrib_left}
use mathlib.Core.List.{List, [], ◌∷◌}
use lib.Dec.{leb}
use borrow.Author.Tests.{le-leb, lt-leb, leb-true, leb-false}
use Rattle.slice.specs.BoolLaws.{both_true}
use Rattle.topic_types.specs.declared.KeyRange.{KeyRange}
use Rattle.ranges.specs.Meaning.{Within}
use Rattle.ranges_calls.specs.Calls.{holds}
use Rattle.packed.specs.Assignment.{AssignedSegment}
use Rattle.key_lookup.specs.Lookup.{any_holds, in_buckets, takes}
use Rattle.key_in_segment.specs.Least.{first_passing, least_taken, LeastValue, LeastOf}
use Rattle.key_in_segment.specs.Ends.{lesser_of, least_common, least_in}

-- ---- there is only one

pub least-one : (p : ℕ → Bool) (x y : Option ℕ) → LeastOf p x → LeastOf p y → x ≡ y
least-one p (Some a) (Some b) v w =
    let h : a ≤ b = v.least b w.passes in
    let k : b ≤ a = w.least a v.passes in
    let e : a ≡ b = omega arith in
    ap Some e
least-one p (Some a) None v w = absurd (true≢false (sym v.passes ∙ w a))
least-one p None (Some b) v w = absurd (true≢false (sym w.passes ∙ v b))
least-one p None None v w = refl

-- ---- the first of a row of values

module _ (p : ℕ → Bool) where
  -- the first of them, v, passes or not
  first_by : (v : ℕ) (rest : Option ℕ) → ((u : ℕ) → u < v → p u ≡ false) → (p v ≡ false → LeastOf p rest) → (t : Bool) → p v ≡ t
      → LeastOf p (cond t (Some v) rest)
  first_by v rest below other false e = other e
  first_by v rest below other true e = record { passes = e; least = λ u k. go u k (dec_le v u) }
    where
      go : (u : ℕ) → p u ≡ true → Dec (v ≤ u) → v ≤ u
      go u k (yes h) = h
      go u k (no h) = absurd (true≢false (sym k ∙ below u (omega arith)))

  -- below v + 1: below v, or v
  below_next : (v : ℕ) → ((u : ℕ) → u < v → p u ≡ false) → p v ≡ false → (u : ℕ) → u < suc v → p u ≡ false
  below_next v below e u h = go (dec_le v u)
    where
      go : Dec (v ≤ u) → p u ≡ false
      go (yes k) = let q : u ≡ v = omega arith in ap p q ∙ e
      go (no k) = below u (omega arith)

  first-least : (n v : ℕ) → ((u : ℕ) → u < v → p u ≡ false) → ((u : ℕ) → v + n ≤ u → p u ≡ false) → LeastOf p (first_passing p n v)
  unfolding first_passing
  first-least zero v below above = λ u. go u (dec_le v u)
    where
      go : (u : ℕ) → Dec (v ≤ u) → p u ≡ false
      go u (yes h) = above u (omega arith)
      go u (no h) = below u (omega arith)
  first-least (suc n) v below above =
      first_by v (first_passing p n (suc v)) below
      (λ e. first-least n (suc v) (below_next v below e) (λ u h. above u (omega arith))) (p v) refl

-- what the segment takes lies in its range
pub least-taken : (g : AssignedSegment) → LeastOf (λ v. takes v g) (least_taken g)
unfolding least_taken takes
least-taken g =
    first-least (λ v. takes v g) (suc g.range.end - g.range.start) g.range.start
    (λ u h. rw (lt-leb g.range.start u h))
    (λ u h. let k : g.range.end < u = omega arith in rw (lt-leb u g.range.end k, and-false))

-- ---- the least of either of two tests

least-ext : (p q : ℕ → Bool) (x : Option ℕ) → ((u : ℕ) → p u ≡ q u) → LeastOf p x → LeastOf q x
least-ext p q (Some v) e w = record { passes = sym (e v) ∙ w.passes; least = λ u k. w.least u (e u ∙ k) }
least-ext p q None e w = λ u. sym (e u) ∙ w u

module _ (p q : ℕ → Bool) where
  abbrev either : ℕ → Bool
  either u = p u || q u

  either-least : (v a b : ℕ) → LeastValue p a → LeastValue q b → v ≤ a → v ≤ b → (u : ℕ) → either u ≡ true → v ≤ u
  either-least v a b x y ha hb u k = go (p u) refl
    where
      go : (t : Bool) → p u ≡ t → v ≤ u
      go true e = let j : a ≤ u = x.least u e in omega arith
      go false e = let j : b ≤ u = y.least u (sym (ap (λ (t : Bool). t || q u) e) ∙ k) in omega arith

  least-either : (x y : Option ℕ) → LeastOf p x → LeastOf q y → LeastOf either (lesser_of x y)
  least-either None y v w = least-ext q either y (λ u. sym (ap (λ (t : Bool). t || q u) (v u))) w
  least-either (Some a) None v w = least-ext p either (Some a) (λ u. sym (ap (λ (t : Bool). p u || t) (w u) ∙ or-false (p u))) v
  least-either (Some a) (Some b) v w = go (dec_le a b)
    where
      go : Dec (a ≤ b) → LeastValue either (min a b)
      go (yes h) =
          let e : a ≡ min a b = omega arith in
          subst (λ (n : ℕ). LeastValue either n) e
          (record { passes = ap (λ (t : Bool). t || q a) v.passes; least = either-least a a b v w (omega arith) h })
      go (no h) =
          let e : b ≡ min a b = omega arith in
          subst (λ (n : ℕ). LeastValue either n) e
          (record {
            passes = ap (λ (t : Bool). p b || t) w.passes ∙ or-true (p b);
            least = either-least b a b v w (omega arith) (omega arith);
          })

-- ---- ranges

pub holds-within : (u : ℕ) (r : KeyRange) → holds u r ≡ true → Within u r
holds-within u r e =
    let b = both_true (leb r.start u) _ e in
    record { low = leb-true r.start u b.0; high = leb-true u r.end b.1 }

pub within-holds : (u : ℕ) (r : KeyRange) → Within u r → holds u r ≡ true
within-holds u r w = rw (le-leb r.start u w.low, le-leb u r.end w.high)

-- by the higher start
module _ (a b : KeyRange) (v : ℕ) (e : v ≡ max a.start b.start) where
  pub common-none : min a.end b.end < v → None ≡ least_common a b
  unfolding least_common
  common-none h = rw (lt-leb (max a.start b.start) (min a.end b.end) (omega arith))

  pub common-some : v ≤ a.end → v ≤ b.end → Some v ≡ least_common a b
  unfolding least_common
  common-some h k = rw (le-leb (max a.start b.start) (min a.end b.end) (omega arith)) (ap Some e)

module _ (a b : KeyRange) where
  abbrev both : ℕ → Bool
  both u = holds u a && holds u b

  abbrev high : ℕ
  high = max a.start b.start

  abbrev low : ℕ
  low = min a.end b.end

  -- a value of both lies between the higher start and the lower end
  between : (u : ℕ) → both u ≡ true → (high ≤ u) × (u ≤ low)
  between u k =
      let d = both_true (holds u a) _ k in
      let i : Within u a = holds-within u a d.0 in
      let j : Within u b = holds-within u b d.1 in
      (omega arith, omega arith)

  least-common : LeastOf both (least_common a b)
  unfolding least_common
  least-common = go (leb high low) refl
    where
      go : (t : Bool) → leb high low ≡ t → LeastOf both (cond t (Some high) None)
      go true e =
          let h : high ≤ low = leb-true high low e in
          record {
            passes =
                rw (
                  within-holds high a (record { low = omega arith; high = omega arith }),
                  within-holds high b (record { low = omega arith; high = omega arith }),
                );
            least = λ u k. (between u k).0;
          }
      go false e = λ u. none u (both u) refl
        where
          none : (u : ℕ) (t : Bool) → both u ≡ t → both u ≡ false
          none u false f = f
          none u true f = absurd (omega (arith, leb-false high low e, (between u f).0, (between u f).1))

least-row : (r : KeyRange) (rs : List KeyRange) → LeastOf (λ u. holds u r && any_holds u rs) (least_in r rs)
unfolding least_in any_holds
least-row r [] = λ u. and-false (holds u r)
least-row r (b ∷ bs) =
    least-ext _ _ (lesser_of (least_common r b) (least_in r bs)) (λ u. sym (and-or_distrib_left (holds u r) (holds u b) (any_holds u bs)))
    (least-either (λ u. holds u r && holds u b) (λ u. holds u r && any_holds u bs) (least_common r b) (least_in r bs) (least-common r b)
    (least-row r bs))

-- ---- a segment

-- without buckets it takes the start of its range
pub start-taken : (g : AssignedSegment) → g.buckets ≡ [] → g.range.start ≤ g.range.end → takes g.range.start g ≡ true
unfolding takes in_buckets
start-taken g e h = rw (e, within-holds g.range.start g.range (record { low = omega arith; high = h }))

pub taken-within : (g : AssignedSegment) (v : ℕ) → takes v g ≡ true → Within v g.range
unfolding takes
taken-within g v e = holds-within v g.range (both_true (holds v g.range) _ e).0

pub least-whole : (g : AssignedSegment) → g.buckets ≡ [] → g.range.start ≤ g.range.end → Some g.range.start ≡ least_taken g
least-whole g e h =
    least-one (λ v. takes v g) (Some g.range.start) (least_taken g)
    (record { passes = start-taken g e h; least = λ u k. (taken-within g u k).low }) (least-taken g)

-- with buckets it takes what one of them has
in_some : (u : ℕ) (rs : List KeyRange) → (rs ≡ [] → ⊥) → any_holds u rs ≡ in_buckets u rs
unfolding in_buckets
in_some u [] z = absurd (z refl)
in_some u (r ∷ rs) z = refl

pub taken-bucketed : (g : AssignedSegment) → (g.buckets ≡ [] → ⊥) → (u : ℕ) → (holds u g.range && any_holds u g.buckets) ≡ takes u g
unfolding takes
taken-bucketed g z u = ap (λ (t : Bool). holds u g.range && t) (in_some u g.buckets z)

pub least-bucketed : (g : AssignedSegment) → (g.buckets ≡ [] → ⊥) → least_in g.range g.buckets ≡ least_taken g
least-bucketed g z =
    least-one (λ v. takes v g) (least_in g.range g.buckets) (least_taken g)
    (least-ext _ _ (least_in g.range g.buckets) (taken-bucketed g z) (least-row g.range g.buckets)) (least-taken g)

-- ---- one turn over a row: what was found so far, and what is left

pub lesser-none : (x : Option ℕ) → lesser_of x None ≡ x
lesser-none (Some a) = refl
lesser-none None = refl

lesser-assoc : (x y z : Option ℕ) → lesser_of x (lesser_of y z) ≡ lesser_of (lesser_of x y) z
lesser-assoc None y z = refl
lesser-assoc (Some a) None z = refl
lesser-assoc (Some a) (Some b) None = refl
lesser-assoc (Some a) (Some b) (Some d) = let e : min a (min b d) ≡ min (min a b) d = omega arith in ap Some e

-- a range more
pub row-turn : (r b : KeyRange) (rs : List KeyRange) (best next : Option ℕ) → next ≡ lesser_of best (least_common r b)
    → lesser_of best (least_in r (b ∷ rs)) ≡ lesser_of next (least_in r rs)
unfolding least_in
row-turn r b rs best next e =
    lesser-assoc best (least_common r b) (least_in r rs) ∙ ap (λ (x : Option ℕ). lesser_of x (least_in r rs)) (sym e)
