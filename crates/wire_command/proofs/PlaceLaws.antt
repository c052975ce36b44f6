-- Laws of the places of a field's parts: `places_of`, field after field.
--
-- In order: no field (`places-nil`), a broken one (`places-broken`), a field and the rest (`places-step`); the same at a place of a slice
-- (`places_from`); the places lie inside the message and are those of the parts (`places-inside`, `places-are-parts`); what a walk has found (`Held`),
-- and its cases.
-- Assumes nothing.
use Rattle.std.specs.Prelude.{Option, Some, None}
use Prim.Native.Nat.{ℕ, zero, suc, ◌+◌, ◌-◌, ◌≤◌, ◌<◌}
use native.Mathlib.Omega.{arith}
use mathlib.Core.Path.{◌≡◌, refl, sym, ap, ◌∙◌}
use mathlib.Core.Bool.{Bool, true, false, cond}
use mathlib.Core.List.{List, [], ◌∷◌, map}
use lib.ListN.{length, take, drop, length-drop}
use lib.Seq.{drop-drop}
use lib.Dec.{eqb, ltb}
use borrow.Author.Tests.{ltb-true, ltb-false, eq-eqb, ne_eqb}
use Rattle.slice.proofs.PartLaws.{rest}
use Rattle.wire_values.specs.declared.Front.{Front}
use Rattle.wire_values.specs.declared.Front.TheVariants as front
use Rattle.wire_values.specs.Places.{front_of}
use Rattle.wire_values.proofs.FrontLaws.{parts_from, FrontAt, front_at, parts-end}
use Rattle.wire_command.specs.declared.Found.{Found}
use Rattle.wire_command.specs.Places.{Place, size_of, places_by, places_after, places_of, part_at, PlacesAreParts}
use Rattle.wire_command.specs.Steps.{found_after, found_in}

-- ---- a field and the rest

pub places-nil : (n at : ℕ) (l : List ℕ) → length l ≤ 0 → places_after n at 0 l ≡ []
places-nil n at [] h = refl
places-nil n at (b ∷ l) h = absurd (let z : ⊥ = omega arith in z)

pub places-broken : (n at : ℕ) (l : List ℕ) → front_of l ≡ None → places_after n at 0 l ≡ []
places-broken n at [] e = refl
places-broken n at (b ∷ l) e = rw e

places-skip : (n at k : ℕ) (l : List ℕ) → places_after n at k l ≡ places_after n (at + k) 0 (drop k l)
places-skip n at zero l = let e : at + zero ≡ at = omega arith in rw e
places-skip n at (suc k) [] = refl
places-skip n at (suc k) (b ∷ l) = let e : suc at + k ≡ at + suc k = omega arith in places-skip n (suc at) k l ∙ rw e

pub places-step : (n at : ℕ) (l : List ℕ) → 0 < length l → (q : Option Front) → front_of l ≡ q → (size : ℕ) → size_of q ≡ size → 1 ≤ size
    → places_after n at 0 l ≡ places_by n at q (places_after n (at + size) 0 (drop size l))
places-step n at [] h q e size z g = absurd (let z : ⊥ = omega arith in z)
places-step n at (b ∷ l) h q e (suc m) z g =
    let a : suc at + m ≡ at + suc m = omega arith in
    let d : suc m - 1 ≡ m = omega arith in
    rw (e, z, d) (ap (places_by n at q) (places-skip n (suc at) m l ∙ rw a))
places-step n at (b ∷ l) h q e zero z g = absurd (let z : ⊥ = omega arith in z)

-- ---- at a place of a slice

abbrev pub places_from : ℕ → List ℕ → ℕ → List Place
places_from n s at = places_after n at 0 (drop at s)

pub places-end : (n : ℕ) (s : List ℕ) (at : ℕ) → length s ≤ at → places_from n s at ≡ []
places-end n s at h = places-nil n at (drop at s) (omega (arith, length-drop at s))

module _ (n : ℕ) (s : List ℕ) (at : ℕ) (h : at < length s) (q : Option Front) (e : front_of (take (length s - at) (drop at s)) ≡ q) where
  front-here : front_of (drop at s) ≡ q
  front-here = ap front_of (sym (rest s at)) ∙ e

  pub places-at : (size : ℕ) → size_of q ≡ size → 1 ≤ size → places_from n s at ≡ places_by n at q (places_from n s (at + size))
  places-at size z g =
      places-step n at (drop at s) (omega (arith, length-drop at s)) q front-here size z g ∙ rw (drop-drop size at s)

-- ---- the places are those of the parts

-- each place lies inside the message
abbrev pub AllInside : List ℕ → List Place → Type 0
AllInside s [] = Unit {0}
AllInside s (p ∷ ps) = (p.start + p.length ≤ length s) × AllInside s ps

-- from a place on: inside, and the parts' bytes
record Are (n : ℕ) (s : List ℕ) (at : ℕ) (ps : List Place) : Type 0 where
  inside : AllInside s ps
  parts : map (part_at s) ps ≡ parts_from n s at

module _ (n : ℕ) (s : List ℕ) where
  by_front : (at : ℕ) → at < length s → (q : Option Front) → front_of (take (length s - at) (drop at s)) ≡ q → FrontAt s at q
      → ((to : ℕ) → at < to → Are n s to (places_from n s to)) → Are n s at (places_from n s at)
  by_front at h (Some (front.Number f v size)) e d on =
      let a = on (at + size) (omega (arith, d.ahead)) in
      rw (places-at n s at h (Some (front.Number f v size)) e size refl d.ahead) (record { inside = a.inside; parts = a.parts ∙ sym (d.parts n) })
  by_front at h (Some (front.Fixed size)) e d on =
      let a = on (at + size) (omega (arith, d.ahead)) in
      rw (places-at n s at h (Some (front.Fixed size)) e size refl d.ahead) (record { inside = a.inside; parts = a.parts ∙ sym (d.parts n) })
  by_front at h (Some (front.Part f start len)) e d on =
      let b : at + (start + len) ≡ at + start + len = omega arith in
      let a = on (at + start + len) (omega (arith, d.ahead)) in
      rw (places-at n s at h (Some (front.Part f start len)) e (start + len) refl (omega (arith, d.ahead)), b) (go (eqb f n) a (d.parts n))
    where
      go : (t : Bool) → Are n s (at + start + len) (places_from n s (at + start + len))
          → parts_from n s at ≡ cond t (take len (drop (at + start) s) ∷ parts_from n s (at + start + len)) (parts_from n s (at + start + len))
          → Are n s at
          (cond t (record { start = at + start; length = len } ∷ places_from n s (at + start + len)) (places_from n s (at + start + len)))
      go true a g =
          record {
            inside = (d.inside, a.inside);
            parts = ap (λ (l : List (List ℕ)). take len (drop (at + start) s) ∷ l) a.parts ∙ sym g;
          }
      go false a g = record { inside = a.inside; parts = a.parts ∙ sym g }
  by_front at h None e d on =
      rw (places-broken n at (drop at s) (ap front_of (sym (rest s at)) ∙ e)) (record { inside = tt; parts = sym (d.parts n) })

  are-end : (at : ℕ) → length s ≤ at → Are n s at (places_from n s at)
  are-end at h = rw (places-end n s at h) (record { inside = tt; parts = sym (parts-end n s at h) })

  are_at : (at : ℕ) → ((to : ℕ) → at < to → at < length s → Are n s to (places_from n s to)) → Are n s at (places_from n s at)
  are_at at on = go (ltb at (length s)) refl
    where
      go : (t : Bool) → ltb at (length s) ≡ t → Are n s at (places_from n s at)
      go true e =
          let l = ltb-true at (length s) e in
          by_front at l (front_of (take (length s - at) (drop at s))) refl (front_at s at l _ refl) (λ to g. on to g l)
      go false e = are-end at (ltb-false at (length s) e)

  -- by the bytes that are left
  are-from : (k at : ℕ) → length s - at ≤ k → Are n s at (places_from n s at)
  are-from zero at h = are-end at (omega arith)
  are-from (suc k) at h = are_at at (λ to g l. are-from k to (omega arith))

  pub places-inside : AllInside s (places_of n s)
  unfolding places_of
  places-inside = (are-from (length s) 0 (omega arith)).inside

pub places-are-parts : PlacesAreParts
unfolding places_of
places-are-parts n s = (are-from n s (length s) 0 (omega arith)).parts

-- ---- what a walk has found

abbrev pub found : ℕ → ℕ → ℕ → Found
found count start len = record { count = count; start = start; length = len }

-- the parts before the place `at` are counted, and the last of them is known
pub record Held (n : ℕ) (s : List ℕ) (at count start len : ℕ) : Type 0 where
  pub few : count ≤ at
  pub is : found_in (places_of n s) ≡ found_after (found count start len) (places_from n s at)

pub held_start : (n : ℕ) (s : List ℕ) → Held n s 0 0 0 0
unfolding found_in places_of
held_start n s = record { few = omega arith; is = refl }

module _ {n : ℕ} {s : List ℕ} {at count start len : ℕ} (i : Held n s at count start len) where
  pub held-end : length s ≤ at → found count start len ≡ found_in (places_of n s)
  held-end h = sym (i.is ∙ ap (found_after (found count start len)) (places-end n s at h))

  module _ (h : at < length s) (q : Option Front) (e : front_of (take (length s - at) (drop at s)) ≡ q) where
    -- a field of another kind
    pub held_on : (size : ℕ) → size_of q ≡ size → 1 ≤ size
        → places_by n at q (places_from n s (at + size)) ≡ places_from n s (at + size)
        → Held n s (at + size) count start len
    held_on size z g d =
        record {
          few = omega (arith, i.few);
          is = i.is ∙ ap (found_after (found count start len)) (places-at n s at h q e size z g ∙ d);
        }

  pub held-broken : front_of (take (length s - at) (drop at s)) ≡ None → found count start len ≡ found_in (places_of n s)
  held-broken e =
      sym
      (i.is ∙ ap (found_after (found count start len)) (places-broken n at (drop at s) (ap front_of (sym (rest s at)) ∙ e)))

  module _ (h : at < length s) (f from size : ℕ) (e : front_of (take (length s - at) (drop at s)) ≡ Some (front.Part f from size)) (g : 1 ≤ from) where
    to : at + (from + size) ≡ at + from + size
    to = omega arith

    stepped : places_from n s at
        ≡ cond (eqb f n) (record { start = at + from; length = size } ∷ places_from n s (at + from + size)) (places_from n s (at + from + size))
    stepped = places-at n s at h (Some (front.Part f from size)) e (from + size) refl (omega (arith, g)) ∙ rw to

    pub held-part : f ≡ n → Held n s (at + from + size) (count + 1) (at + from) size
    held-part d =
        record {
          few = omega (arith, i.few, g);
          is = i.is ∙ ap (found_after (found count start len)) (rw (eq-eqb f n d) at stepped);
        }

    pub held-other : (f ≡ n → ⊥) → Held n s (at + from + size) count start len
    held-other d =
        record {
          few = omega (arith, i.few, g);
          is = i.is ∙ ap (found_after (found count start len)) (rw (ne_eqb f n d) at stepped);
        }
