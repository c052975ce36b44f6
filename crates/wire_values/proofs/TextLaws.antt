-- Laws of where the parts of a field stand: `places_from`, `text_place`, `PlaceIs`.
--
-- In order: the walk's step at a front (`places-at`; `place_same`, `place_other`) and its end (`places-end`); the places lie in the message
-- and hold the parts of the row of fields (`placed`), so with no part there is no place (`places-none`), and at the last place stands the
-- last part (`text-there`); the place so far in a walk by `NextPart` (`Sought`), and its cases.
-- Assumes nothing.
use Rattle.std.specs.Prelude.{Option, Some, None}
use Prim.Native.Nat.{ℕ, zero, suc, ◌+◌, ◌-◌, ◌≤◌, ◌<◌}
use native.Mathlib.Decide.{dec_le}
use native.Mathlib.Omega.{arith}
use mathlib.Core.Path.{◌≡◌, refl, sym, ap, ap₂, subst, ◌∙◌}
use mathlib.Core.Bool.{Bool, true, false, cond}
use mathlib.Core.List.{List, [], ◌∷◌, map}
use lib.ListN.{length, take, drop, length-drop, drop_of_length-le}
use lib.Seq.{drop-drop}
use lib.Dec.{eqb}
use borrow.Author.Tests.{eq-eqb, ne_eqb}
use Rattle.slice.proofs.PartLaws.{rest}
use Rattle.wire.specs.Fields.{fields_of}
use Rattle.wire_values.specs.declared.Front.{Front}
use Rattle.wire_values.specs.declared.Front.TheVariants as front
use Rattle.wire_values.specs.declared.Span.{Span}
use Rattle.wire_values.specs.Values.{parts_of, last_part_after, last_part}
use Rattle.wire_values.specs.Places.{front_of, span, front_size, places_by, places_after, places_from, last_place, text_place, PartIs, PlaceIs, NextPart}
use Rattle.wire_values.proofs.FrontLaws.{parts_from, FrontAt, front_at, parts-end}

-- ---- the walk

skip : (n at k : ℕ) (l : List ℕ) → places_after n at k l ≡ places_after n (at + k) 0 (drop k l)
skip n at zero l = let e : at + 0 ≡ at = omega arith in rw e
skip n at (suc k) [] = refl
skip n at (suc k) (b ∷ l) = let e : at + suc k ≡ at + 1 + k = omega arith in rw e (skip n (at + 1) k l)

-- what follows a first field of `size` bytes, as the definition says it and as a part of the list
behind : (n at : ℕ) (b : ℕ) (l : List ℕ) (size : ℕ) → 1 ≤ size
    → places_after n (at + 1) (size - 1) l ≡ places_after n (at + size) 0 (drop size (b ∷ l))
behind n at b l zero h = absurd (let z : ⊥ = omega arith in z)
behind n at b l (suc k) h =
    let e : suc k - 1 ≡ k = omega arith in
    let f : at + suc k ≡ at + 1 + k = omega arith in
    rw (e, f) (skip n (at + 1) k l)

-- a front is broken, or has a length
data Sized : Option Front → Type 0 where
  whole : {q : Option Front} → 1 ≤ front_size q → Sized q
  broken : Sized None

module _ (n at : ℕ) where
  by_front : (b : ℕ) (l : List ℕ) (q : Option Front) → Sized q
      → places_by n at q (places_after n (at + 1) (front_size q - 1) l)
      ≡ places_by n at q (places_after n (at + front_size q) 0 (drop (front_size q) (b ∷ l)))
  by_front b l q (whole h) = ap (places_by n at q) (behind n at b l (front_size q) h)
  by_front b l None broken = refl

  list-step : (l : List ℕ) (q : Option Front) → 0 < length l → front_of l ≡ q → Sized q
      → places_after n at 0 l ≡ places_by n at q (places_after n (at + front_size q) 0 (drop (front_size q) l))
  list-step [] q h e z = absurd (let x : ⊥ = omega arith in x)
  list-step (b ∷ l) q h e z = rw e (by_front b l q z)

module _ (s : List ℕ) (at : ℕ) (h : at < length s) where
  sized : (q : Option Front) → FrontAt s at q → Sized q
  sized (Some (front.Number f v size)) a = whole a.ahead
  sized (Some (front.Part f start len)) a = whole {q = Some (front.Part f start len)} (omega (arith, a.ahead))
  sized (Some (front.Fixed size)) a = whole a.ahead
  sized None a = broken

  -- at the front of `&s[at..]`
  pub places-at : (n : ℕ) (q : Option Front) → front_of (take (length s - at) (drop at s)) ≡ q
      → places_from n s at ≡ places_by n at q (places_from n s (at + front_size q))
  unfolding places_from
  places-at n q e =
      rw (drop-drop (front_size q) at s) at
      (list-step n at (drop at s) q (omega (arith, length-drop at s)) (ap front_of (sym (rest s at)) ∙ e) (sized q (front_at s at h q e)))

-- a part of the field itself, or of another
module _ (n : ℕ) (s : List ℕ) (at f start len : ℕ)
    (p : places_from n s at ≡ places_by n at (Some (front.Part f start len)) (places_from n s (at + (start + len)))) where
  pub place_same : f ≡ n → places_from n s at ≡ span (at + start) len ∷ places_from n s (at + start + len)
  place_same e = let g : at + start + len ≡ at + (start + len) = omega arith in p ∙ rw (eq-eqb f n e, g)

  pub place_other : (f ≡ n → ⊥) → places_from n s at ≡ places_from n s (at + start + len)
  place_other e = let g : at + start + len ≡ at + (start + len) = omega arith in p ∙ rw (ne_eqb f n e, g)

pub places-end : (n : ℕ) (s : List ℕ) (at : ℕ) → length s ≤ at → places_from n s at ≡ []
unfolding places_from
places-end n s at h = rw (drop_of_length-le s {i = at} h)

-- ---- what stands there

abbrev pub part_at : List ℕ → Span → List ℕ
part_at s p = take p.length (drop p.start s)

abbrev pub AllInside : List ℕ → List Span → Type 0
AllInside s [] = Unit {0}
AllInside s (p ∷ ps) = (p.start + p.length ≤ length s) × AllInside s ps

-- places, and the parts that they hold
pub record Places (s : List ℕ) (places : List Span) (parts : List (List ℕ)) : Type 0 where
  pub inside : AllInside s places
  pub hold : map (part_at s) places ≡ parts

module _ (n : ℕ) (s : List ℕ) where
  abbrev Placed : ℕ → Type 0
  Placed at = Places s (places_from n s at) (parts_from n s at)

  -- of the rows that the walk leaves, from those behind the field
  moved : {ps qs : List Span} {l m : List (List ℕ)} → ps ≡ qs → l ≡ m → Places s qs m → Places s ps l
  moved {ps} {qs} {l} {m} e f p = subst (λ x. Places s x l) (sym e) (subst (λ x. Places s qs x) (sym f) p)

  one_more : (t : Bool) (p : Span) {ps : List Span} {l : List (List ℕ)} → p.start + p.length ≤ length s → Places s ps l
      → Places s (cond t (p ∷ ps) ps) (cond t (part_at s p ∷ l) l)
  one_more true p h q = record { inside = (h, q.inside); hold = ap (λ x. part_at s p ∷ x) q.hold }
  one_more false p h q = q

  placed_end : (at : ℕ) → length s ≤ at → Placed at
  placed_end at h = moved (places-end n s at h) (parts-end n s at h) (record { inside = tt; hold = refl })

  module _ (at : ℕ) (h : at < length s) where
    by_parts : (q : Option Front) → front_of (take (length s - at) (drop at s)) ≡ q → FrontAt s at q
        → ((next : ℕ) → at < next → Placed next) → Placed at
    by_parts (Some (front.Number f v size)) e a later =
        moved (places-at s at h n _ e) (a.parts n) (later (at + size) (omega (arith, a.ahead)))
    by_parts (Some (front.Part f start len)) e a later =
        let g : at + start + len ≡ at + (start + len) = omega arith in
        moved (places-at s at h n _ e) (rw g at (a.parts n))
        (one_more (eqb f n) (span (at + start) len) a.inside (later (at + (start + len)) (omega (arith, a.ahead))))
    by_parts (Some (front.Fixed size)) e a later =
        moved (places-at s at h n _ e) (a.parts n) (later (at + size) (omega (arith, a.ahead)))
    by_parts None e a later = moved (places-at s at h n _ e) (a.parts n) (record { inside = tt; hold = refl })

  placed-within : (k at : ℕ) → length s ≤ at + k → Placed at
  placed-within zero at h = placed_end at (omega arith)
  placed-within (suc k) at h = go (λ next b. placed-within k next (omega arith)) (dec_le (suc at) (length s))
    where
      go : ((next : ℕ) → at < next → Placed next) → Dec (suc at ≤ length s) → Placed at
      go later (yes p) =
          let q = front_of (take (length s - at) (drop at s)) in by_parts at p q refl (front_at s at p q refl) later
      go later (no p) = placed_end at (omega arith)

  pub placed : (at : ℕ) → Placed at
  placed at = placed-within (length s) at (omega arith)

  pub places-none : (at : ℕ) → parts_from n s at ≡ [] → places_from n s at ≡ []
  places-none at e = go (places_from n s at) ((placed at).hold ∙ e)
    where
      go : (ps : List Span) → map (part_at s) ps ≡ [] → ps ≡ []
      go [] f = refl
      go (p ∷ ps) f = cc

-- ---- the last

module _ (s : List ℕ) (start len : ℕ) where
  from_place : (p : Span) (ps : List Span) (text : List ℕ) → AllInside s (p ∷ ps) → PlaceIs s (last_place (Some p) ps) start len
      → last_part_after (part_at s p) (map (part_at s) ps) ≡ text → PartIs s text start len
  from_place p [] text i q e =
      record { inside = omega (arith, i.0, q.0, q.1); is-text = ap₂ (λ a b. take b (drop a s)) q.0 q.1 ∙ e }
  from_place p (r ∷ ps) text i q e = from_place r ps text i.1 q e

  from_places : (ps : List Span) → AllInside s ps → PlaceIs s (last_place None ps) start len → PartIs s (last_part (map (part_at s) ps)) start len
  from_places [] i q = q
  from_places (p ∷ ps) i q = from_place p ps _ i q refl

-- at the last place stands the last part, and where there is no place an empty part
pub text-there : (n : ℕ) (s : List ℕ) (start len : ℕ) → PlaceIs s (text_place n s) start len
    → PartIs s (last_part (parts_of n (fields_of s))) start len
text-there n s start len q =
    let p = placed n s 0 in
    subst (λ ps. PartIs s (last_part ps) start len) p.hold (from_places s start len (places_from n s 0) p.inside q)

-- ---- a walk by `NextPart`

-- start and length are those of the last place before `at`
pub record Sought (n : ℕ) (s : List ℕ) (at start len : ℕ) : Type 0 where
  pub so_far : Option Span
  pub there : PlaceIs s so_far start len
  pub is : text_place n s ≡ last_place so_far (places_from n s at)

pub sought-start : (n : ℕ) (s : List ℕ) → Sought n s 0 0 0
sought-start n s = record { so_far = None; there = record { inside = omega arith; is-text = refl }; is = refl }

module _ {n : ℕ} {s : List ℕ} {at start len : ℕ} (h : Sought n s at start len) where
  pub sought-next : (start' len' next : ℕ) → NextPart n s at (Some (start', len', next)) → Sought n s next start' len'
  sought-next start' len' next q =
      record { so_far = Some (span start' len'); there = (refl, refl); is = h.is ∙ ap (last_place h.so_far) q.4 }

  pub sought-done : NextPart n s at None → PlaceIs s (text_place n s) start len
  sought-done q =
      subst (λ x. PlaceIs s x start len) (sym (h.is ∙ ap (last_place h.so_far) (places-none n s at q))) h.there
