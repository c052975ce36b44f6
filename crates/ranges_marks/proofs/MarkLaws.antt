-- Laws of one range marked word by word.
--
-- In order: a word of the marks changed (`marked-here`, `marked-elsewhere`); what is known in each turn (`Turn`): at the start, where a place
-- is set already (`turn-found`), with one more word (`turn-next`), at the end (`turn_end`).
-- Assumes nothing.
use mathlib.Core.Logic.{◌≢◌}
use mathlib.Core.Path.{◌≡◌, refl, sym, ap, ◌∙◌}
use Prim.Native.Nat.{ℕ, ◌+◌, ◌-◌, ◌*◌, ◌/◌, ◌%◌, ◌≤◌, ◌<◌, min}
use native.Mathlib.Omega.{arith}
use native.Mathlib.Nat.{lt_of_le_of_lt}
use mathlib.Core.Bool.{Bool, true, false, ◌&&◌, ◌||◌, true≢false, false≢true}
use mathlib.Core.List.{List}
use lib.Dec.{eqb, ltb}
use lib.ListN.{length, get_or, set, length-set}
use lib.Seq.{get_or-set_same, get_or-set_other}
use lib.Bits.{bit_and, bit_or, and_le_r}
use borrow.Author.Tests.{eqb-true, eqb-false, ltb-true, ltb-false}
use Rattle.topic_types.specs.declared.KeyRange.{KeyRange}
use Rattle.ranges_marks.specs.Bits.{bit, ones}
use Rattle.ranges_marks.specs.Marks.{marked, Marking}
use Rattle.ranges_marks.proofs.BitLaws.{bit-or, bit-and, bit-zero, bits_none, ones_below, ones-within, ones_above, ones_small}

-- ---- tests
either : {P : Type 0} (t : Bool) → (t ≡ true → P) → (t ≡ false → P) → P
either true f g = f refl
either false f g = g refl

-- a is b, or it is not; a lies below b, or it does not
pub same_or : {P : Type 0} (a b : ℕ) → (a ≡ b → P) → (a ≢ b → P) → P
same_or a b f g = either (eqb a b) (λ e. f (eqb-true a b e)) (λ e. g (eqb-false a b e))

pub below_or : {P : Type 0} (a b : ℕ) → (a < b → P) → (b ≤ a → P) → P
below_or a b f g = either (ltb a b) (λ e. f (ltb-true a b e)) (λ e. g (ltb-false a b e))

or-false : (t : Bool) → t || false ≡ t
or-false true = refl
or-false false = refl

or-true : (t : Bool) → t || true ≡ true
or-true true = refl
or-true false = refl

and-true : (t : Bool) → t && true ≡ t
and-true true = refl
and-true false = refl

and-false : (t : Bool) → t && false ≡ false
and-false true = refl
and-false false = refl

-- ---- a word changed
module _ (m : List ℕ) (i w v : ℕ) where
  pub marked-here : i < length m → v / 64 ≡ i → marked (set m i w) v ≡ bit w (v % 64)
  unfolding marked
  marked-here h e = ap (λ (n : ℕ). bit (get_or (set m i w) n 0) (v % 64)) e ∙ ap (λ (x : ℕ). bit x (v % 64)) (get_or-set_same m i w 0 h)

  pub marked-elsewhere : v / 64 ≢ i → marked (set m i w) v ≡ marked m v
  unfolding marked
  marked-elsewhere d = ap (λ (x : ℕ). bit x (v % 64)) (get_or-set_other m i (v / 64) w 0 d)

marked-is : (m : List ℕ) (i v : ℕ) → v / 64 ≡ i → marked m v ≡ bit (get_or m i 0) (v % 64)
unfolding marked
marked-is m i v e = ap (λ (n : ℕ). bit (get_or m n 0) (v % 64)) e

-- ---- the turns
-- the values from start up to at were not marked in m₀ and are in m; the others are as they were
pub record Turn (m₀ : List ℕ) (start stop : ℕ) (m : List ℕ) (at : ℕ) : Type 0 where
  pub long : length m ≡ 1024
  pub from : start ≤ at
  pub few : stop ≤ 65536
  pub reach : start < stop → at ≤ stop
  pub free : (v : ℕ) → start ≤ v → v < at → marked m₀ v ≡ false
  pub wrote : (v : ℕ) → start ≤ v → v < at → marked m v ≡ true
  pub below : (v : ℕ) → v < start → marked m v ≡ marked m₀ v
  pub above : (v : ℕ) → at ≤ v → marked m v ≡ marked m₀ v

pub turn-start : (m : List ℕ) (start stop : ℕ) → length m ≡ 1024 → stop ≤ 65536 → Turn m start stop m start
turn-start m start stop l h = record {
  long = l;
  from = omega arith;
  few = h;
  reach = λ x. omega arith;
  free = λ v x y. absurd (omega arith);
  wrote = λ v x y. absurd (omega arith);
  below = λ v x. refl;
  above = λ v x. refl;
}

module _ {m₀ : List ℕ} {start stop : ℕ} {m : List ℕ} {at : ℕ} (R : Turn m₀ start stop m at) where
  -- the places of the word at hand
  module _ (h : at < stop) (count : ℕ) (e : count ≡ min (64 - at % 64) (stop - at)) where
    abbrev i : ℕ
    i = at / 64

    abbrev places : ℕ
    places = ones (at % 64) count

    abbrev word : ℕ
    word = get_or m i 0

    pub counted : (0 < count) × (at % 64 + count ≤ 64) × (at + count ≤ stop)
    counted = (omega arith, omega arith, omega arith)

    -- a value of the word is among the places, or not
    place-within : (v : ℕ) → at ≤ v → v < at + count → (v / 64 ≡ i) × (bit places (v % 64) ≡ true)
    place-within v a b =
        let c = counted in
        (omega arith, ones-within (at % 64) count (v % 64) (omega arith) (omega arith))

    place-below : (v : ℕ) → v / 64 ≡ i → v < at → bit places (v % 64) ≡ false
    place-below v s a = ones_below (at % 64) count (v % 64) (omega arith)

    place-above : (v : ℕ) → v / 64 ≡ i → at + count ≤ v → bit places (v % 64) ≡ false
    place-above v s a = ones_above (at % 64) count (v % 64) (omega arith)

    -- a value of the word that is not among the places is marked as before
    kept : (v : ℕ) → (v / 64 ≡ i → bit places (v % 64) ≡ false) → marked (set m i (bit_or word places)) v ≡ marked m v
    kept v off = same_or (v / 64) i
        (λ s. marked-here m i (bit_or word places) v (omega (arith, R.long, R.few)) s ∙ bit-or word places (v % 64)
        ∙ ap (λ (t : Bool). bit word (v % 64) || t) (off s) ∙ or-false (bit word (v % 64)) ∙ sym (marked-is m i v s))
        (λ d. marked-elsewhere m i (bit_or word places) v d)

    module _ (clear : bit_and word places ≡ 0) where
      was_free : (v : ℕ) → at ≤ v → v < at + count → marked m₀ v ≡ false
      was_free v a b =
          let p = place-within v a b in
          sym (R.above v a) ∙ marked-is m i v p.0 ∙ sym (and-true (bit word (v % 64))) ∙ ap (λ (t : Bool). bit word (v % 64) && t) (sym p.1)
          ∙ sym (bit-and word places (v % 64)) ∙ ap (λ (n : ℕ). bit n (v % 64)) clear ∙ bit-zero (v % 64)

      now-marked : (v : ℕ) → at ≤ v → v < at + count → marked (set m i (bit_or word places)) v ≡ true
      now-marked v a b =
          let p = place-within v a b in
          marked-here m i (bit_or word places) v (omega (arith, R.long, R.few)) p.0 ∙ bit-or word places (v % 64)
          ∙ ap (λ (t : Bool). bit word (v % 64) || t) p.1 ∙ or-true (bit word (v % 64))

      pub turn-next : Turn m₀ start stop (set m i (bit_or word places)) (at + count)
      turn-next =
          let c = counted in
          record {
            long = simp length-set R.long;
            from = omega (arith, R.from);
            few = R.few;
            reach = λ x. omega arith;
            free = λ v x y. below_or v at (λ b. R.free v x b) (λ a. was_free v a y);
            wrote = λ v x y. below_or v at (λ b. kept v (λ s. place-below v s b) ∙ R.wrote v x b) (λ a. now-marked v a y);
            below = λ v x. kept v (λ s. place-below v s (omega (arith, R.from))) ∙ R.below v x;
            above = λ v x. kept v (λ s. place-above v s x) ∙ R.above v (omega arith);
          }

    -- where a place is set already, its value was marked
    module _ (hit : bit_and word places ≢ 0) where
      pub turn-found : (((v : ℕ) → start ≤ v → v < stop → marked m₀ v ≡ false) → ⊥)
      turn-found none =
          let c = counted in
          hit (bits_none 64 (bit_and word places) (lt_of_le_of_lt (and_le_r word places) (ones_small (at % 64) count c.1)) (λ j l.
          bit-and word places j ∙ below_or j (at % 64)
          (λ b. ap (λ (t : Bool). bit word j && t) (ones_below (at % 64) count j b) ∙ and-false (bit word j))
          (λ a. below_or j (at % 64 + count)
          (λ b. let v = i * 64 + j in
          let s : v / 64 ≡ i = omega arith in
          let z : v % 64 ≡ j = omega arith in
          let f : marked m v ≡ false = R.above v (omega arith) ∙ none v (omega (arith, R.from)) (omega arith) in
          let g : bit word j ≡ false = ap (λ (n : ℕ). bit word n) (sym z) ∙ sym (marked-is m i v s) ∙ f in
          ap (λ (t : Bool). t && bit places j) g)
          (λ o. ap (λ (t : Bool). bit word j && t) (ones_above (at % 64) count j o) ∙ and-false (bit word j)))))

-- ---- the whole range
module _ {m₀ m : List ℕ} {r : KeyRange} {at : ℕ} (R : Turn m₀ (r.start % 65536) (r.end % 65536 + 1) m at) (l : length m₀ ≡ 1024) where
  pub marking-found : (((v : ℕ) → r.start % 65536 ≤ v → v < r.end % 65536 + 1 → marked m₀ v ≡ false) → ⊥) → Marking m₀ r true m
  marking-found f = record {
    long = R.long ∙ sym l;
    found = λ g e none. let p = g.in_order in let q = g.small in f (λ v a b. none v (record { low = omega arith; high = omega arith }));
    free = λ g e. absurd (true≢false e);
    wrote = λ g e. absurd (true≢false e);
    below = λ g e. absurd (true≢false e);
    above = λ g e. absurd (true≢false e);
  }

  pub marking-free : r.end % 65536 + 1 ≤ at → Marking m₀ r false m
  marking-free h = record {
    long = R.long ∙ sym l;
    found = λ g e. absurd (false≢true e);
    free = λ g e v w. let p = g.in_order in let q = g.small in R.free v (omega (arith, w.low)) (omega (arith, w.high));
    wrote = λ g e v w. let p = g.in_order in let q = g.small in R.wrote v (omega (arith, w.low)) (omega (arith, w.high));
    below = λ g e v a. let p = g.in_order in let q = g.small in R.below v (omega arith);
    above = λ g e v a. let p = g.in_order in let q = g.small in R.above v (omega (arith, R.reach (omega arith)));
  }
