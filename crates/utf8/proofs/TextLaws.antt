-- Laws of a text that is read sequence by sequence.
--
-- In order: a text is its first sequence and the rest (`text-step`); the end of a slice (`text-end`); at the place `at`
-- of a slice: no sequence (`sequence-stops`), a sequence (`sequence-passes`), a byte of the first row (`ascii-passes`,
-- `ascii-next`); bytes that may be passed over (`passes_none`, `passes-more`); bytes of the first row alone (`ascii-one`,
-- `ascii-join`, `ascii-text`, `ascii-turn`).
-- Assumes nothing.
use Prim.Native.Nat.{ℕ, zero, suc, ◌+◌, ◌-◌, ◌≤◌, ◌<◌}
use native.Mathlib.Decide.{dec_le}
use native.Mathlib.Omega.{arith}
use mathlib.Core.Path.{◌≡◌, refl, sym, ◌∙◌}
use mathlib.Core.Bool.{Bool, true, false, cond, ◌&&◌}
use mathlib.Core.List.{List, [], ◌∷◌}
use lib.ListN.{length, get_or, drop, length-drop, drop_of_length-le}
use lib.Seq.{drop-drop}
use lib.Dec.{eqb, ltb}
use borrow.Author.Tests.{eq-eqb, ne_eqb, ltb-true}
use Rattle.slice.specs.BoolLaws.{both_true}
use Rattle.utf8.specs.Table.{sequence_of, text_after, is_utf8}
use Rattle.utf8.specs.Passes.{Passes, Ascii}
use Rattle.utf8.proofs.RowLaws.{first-row, sequence-le}

text-skip : (n : ℕ) (l : List ℕ) → text_after n l ≡ text_after 0 (drop n l)
unfolding text_after
text-skip zero l = refl
text-skip (suc n) [] = refl
text-skip (suc n) (b ∷ l) = text-skip n l

-- a first sequence of n bytes, as the definition says it and as a part of the list
text-first : (b : ℕ) (l : List ℕ) (n : ℕ)
    → cond (eqb n 0) false (text_after (n - 1) l) ≡ cond (eqb n 0) false (text_after 0 (drop n (b ∷ l)))
text-first b l zero = refl
text-first b l (suc n) = let e : suc n - 1 ≡ n = omega arith in rw (e, text-skip n l)

pub text-step : (l : List ℕ) → 0 < length l → is_utf8 l ≡ cond (eqb (sequence_of l) 0) false (is_utf8 (drop (sequence_of l) l))
unfolding is_utf8 text_after
text-step [] h = absurd (let z : ⊥ = omega arith in z)
text-step (b ∷ l) h = text-first b l (sequence_of (b ∷ l))

pub text-end : (s : List ℕ) (at : ℕ) → length s ≤ at → is_utf8 (drop at s) ≡ true
unfolding is_utf8 text_after
text-end s at h = rw (drop_of_length-le s h)

-- ---- the sequence of n bytes at a place

module _ (s : List ℕ) (at n : ℕ) (h : at < length s) (e : n ≡ sequence_of (drop at s)) where
  sequence-step : is_utf8 (drop at s) ≡ cond (eqb n 0) false (is_utf8 (drop (at + n) s))
  sequence-step = text-step (drop at s) (omega (arith, length-drop at s)) ∙ rw (← e, drop-drop n at s)

  pub sequence-inside : at + n ≤ length s
  sequence-inside = omega (arith, length-drop at s, e, sequence-le (drop at s))

  pub sequence-stops : n ≡ 0 → is_utf8 (drop at s) ≡ false
  sequence-stops z = sequence-step ∙ rw (eq-eqb n 0 z)

  pub sequence-passes : (n ≡ 0 → ⊥) → is_utf8 (drop at s) ≡ is_utf8 (drop (at + n) s)
  sequence-passes z = sequence-step ∙ rw (ne_eqb n 0 z)

-- a byte of the first row; the same i places behind at
pub ascii-passes : (s : List ℕ) (at : ℕ) → at < length s → get_or s at 0 ≤ 127 → is_utf8 (drop at s) ≡ is_utf8 (drop (at + 1) s)
ascii-passes s at h b = sequence-passes s at 1 h (sym (first-row s at h b)) (λ z. absurd (omega arith))

pub ascii-next : (s : List ℕ) (at i : ℕ) → at + i < length s → get_or s (at + i) 0 ≤ 127
    → is_utf8 (drop (at + i) s) ≡ is_utf8 (drop (at + (i + 1)) s)
ascii-next s at i h b = let e : at + i + 1 ≡ at + (i + 1) = omega arith in ascii-passes s (at + i) h b ∙ rw e

-- ---- bytes that may be passed over

module _ (s : List ℕ) (from : ℕ) where
  pub passes_none : from ≤ length s → Passes s from from
  passes_none h = record { onward = omega arith; inside = h; same = refl }

  -- k more behind those
  pub passes-more : (at k : ℕ) → Passes s from at → at + k ≤ length s → is_utf8 (drop at s) ≡ is_utf8 (drop (at + k) s)
      → Passes s from (at + k)
  passes-more at k p h e = record { onward = omega (arith, p.onward); inside = h; same = p.same ∙ e }

-- ---- bytes of the first row alone

module _ (s : List ℕ) where
  pub ascii-none : (at : ℕ) → Ascii s at at
  ascii-none at i h k = absurd (let z : ⊥ = omega arith in z)

  -- one more, and those up to a place with those from an earlier one on
  pub ascii-one : (from to : ℕ) → Ascii s from to → get_or s to 0 ≤ 127 → Ascii s from (to + 1)
  ascii-one from to p b i h k = go (dec_le (suc i) to)
    where
      go : Dec (suc i ≤ to) → get_or s i 0 ≤ 127
      go (yes l) = p i h l
      go (no l) = let e : i ≡ to = omega arith in rw e b

  pub ascii-join : (from mid at to : ℕ) → at ≤ mid → Ascii s from mid → Ascii s at to → Ascii s from to
  ascii-join from mid at to m p q i h k = go (dec_le (suc i) mid)
    where
      go : Dec (suc i ≤ mid) → get_or s i 0 ≤ 127
      go (yes l) = p i h l
      go (no l) = q i (omega arith) k

  ascii-from : Ascii s 0 (length s) → (d at : ℕ) → at + d ≡ length s → is_utf8 (drop at s) ≡ true
  ascii-from p zero at e = text-end s at (omega arith)
  ascii-from p (suc d) at e = ascii-passes s at (omega arith) (p at (omega arith) (omega arith)) ∙ ascii-from p d (at + 1) (omega arith)

  pub ascii-text : Ascii s 0 (length s) → is_utf8 s ≡ true
  ascii-text p = ascii-from p (length s) 0 (omega arith)

  -- the bytes of a block up to i, and one more
  pub ascii-start : (at : ℕ) → Ascii s at (at + 0)
  ascii-start at i h k = absurd (let z : ⊥ = omega arith in z)

  pub ascii-turn : (at i : ℕ) (ascii : Bool) → (ascii ≡ true → Ascii s at (at + i)) → (r : Bool) → r ≡ (ascii && ltb (get_or s (at + i) 0) 128) → r ≡ true
      → Ascii s at (at + (i + 1))
  ascii-turn at i ascii h r e f =
      let k : (ascii ≡ true) × (ltb (get_or s (at + i) 0) 128 ≡ true) = both_true ascii (ltb (get_or s (at + i) 0) 128) (sym e ∙ f) in
      let b : get_or s (at + i) 0 ≤ 127 = omega (arith, ltb-true (get_or s (at + i) 0) 128 k.1) in
      let z : at + i + 1 ≡ at + (i + 1) = omega arith in
      rw z at (ascii-one at (at + i) (h k.0) b)
