-- Laws of products in 64 bits, of lengths added up and of the record lent, over plain lists and numbers.
--
-- In order: products (`product-fits` to `factor-large`); the lengths of a row (`order-first`, `lengths-first`,
-- `ranges-next`, `ranges-all`, `lengths_none`); what a record holds (`holds-bad`, `holds-longer`, `holds-range`,
-- `holds-buckets`); the answers of `charge` (`refused-malformed` to `charged`), and what a charge says
-- (`charges`).
-- Assumes nothing.
use Rattle.std.specs.Prelude.{Option, Some, None, Ok, Err}
use Rattle.std.specs.Option.{SomeIff}
use Rattle.std.specs.Result.{result_ok}
use Rattle.std.proofs.lemmas.Option.{some_pair_parts}
use Prim.Native.Nat.{ℕ, zero, suc, ◌+◌, ◌-◌, ◌*◌, ◌/◌, ◌%◌, ◌^◌, ◌≤◌, ◌<◌}
use native.Mathlib.Nat.{mul-zero, mul-le-mul_left, mul-one, not-suc-le-zero}
use native.Mathlib.Omega.{arith}
use mathlib.Core.Path.{◌≡◌, refl, sym, ap, ◌∙◌, subst}
use mathlib.Core.Bool.{Bool, true, false, not, ◌&&◌, or-true}
use mathlib.Core.List.{List, ◌∷◌}
use lib.ListN.{length, drop}
use lib.Dec.{leb, eqb}
use borrow.Author.Tests.{le-leb, lt-leb, leb-true, eq-eqb, ne_eqb, eqb-true}
use Rattle.slice.specs.BoolLaws.{both_true}
use Rattle.slice.proofs.TestLaws.{cond-first, cond-second}
use Rattle.topic_types.specs.declared.KeyRange.{KeyRange}
use Rattle.refusal.specs.declared.Refusal.TheVariants.{MalformedInput, ChargeTooLarge}
use Rattle.ranges_calls.specs.Calls.{values_in}
use Rattle.slice_int.specs.Be.{be_at}
use Rattle.packed.specs.Assignment.{decode_range, decode_ranges, decode_segment, size_segment, is_in_order, all_in_order, ok_buckets, ok_segment}
use Rattle.packed.specs.Answers.{record_valid, record_read}
use Rattle.packed.proofs.AssignmentLaws.{ranges-at, ranges-none, size-least, segment-at, Seen, seen_size, RecordIs}
use Rattle.charge.specs.Charge.{divisor, is_segment, lengths_of, held_in, values_held, cost_of, too_large, charge_of, holds_of, product_of}

-- ---- products

module _ (n : ℕ) where
  pub product-fits : n < 2 ^ 64 → Some n ≡ product_of n
  unfolding product_of
  product-fits h = simp (lt-leb (2 ^ 64) n h)

  pub product-large : 2 ^ 64 ≤ n → None ≡ product_of n
  unfolding product_of
  product-large h = simp (le-leb (2 ^ 64) n h)

  -- what an answer says
  pub product_is : (m : ℕ) → Some m ≡ product_of n → m ≡ n
  unfolding product_of
  product_is m e =
      let f = (cond-second (leb (2 ^ 64) n) _ _ _ (λ q. let o : ◌≡◌ {A = ℕ} 0 1 = cc in omega arith) (sym e)).1 in
      cc

  pub product-not : None ≡ product_of n → 2 ^ 64 ≤ n
  unfolding product_of
  product-not e = leb-true (2 ^ 64) n (cond-first (leb (2 ^ 64) n) _ _ _ (λ q. let o : ◌≡◌ {A = ℕ} 0 1 = cc in omega arith) (sym e)).0

-- what a checked sum or product answers
pub checked-fits : (n : ℕ) (o : Option ℕ) (m : ℕ) → o ≡ Some m → SomeIff o (n < 2 ^ 64) n → (n < 2 ^ 64) × (m ≡ n)
checked-fits n o m e h = subst (λ (p : Option ℕ). SomeIff p (n < 2 ^ 64) n) e h

pub checked-large : (n : ℕ) (o : Option ℕ) → o ≡ None → SomeIff o (n < 2 ^ 64) n → 2 ^ 64 ≤ n
checked-large n o e h =
    let k : n < 2 ^ 64 → ⊥ = subst (λ (p : Option ℕ). SomeIff p (n < 2 ^ 64) n) e h in omega (arith, k)

pub product-checked : (n : ℕ) (o : Option ℕ) → SomeIff o (n < 2 ^ 64) n → o ≡ product_of n
product-checked n None h = product-large n (omega (arith, h))
product-checked n (Some m) h = ap Some h.1 ∙ product-fits n h.0

-- a factor 0
pub product-none : (a b : ℕ) → b ≡ 0 → Some 0 ≡ product_of (a * b)
product-none a b e = product-fits 0 (omega arith) ∙ ap product_of (sym (mul-zero a) ∙ ap (λ (x : ℕ). a * x) (sym e))

-- a factor that is not 0 keeps a product large
pub factor-large : (a b : ℕ) → 2 ^ 64 ≤ a → (b ≡ 0 → ⊥) → 2 ^ 64 ≤ a * b
factor-large a b h k = let p : 1 ≤ b = omega (arith, k) in omega (arith, mul-le-mul_left a p, mul-one a)

-- ---- lengths

-- the first of ranges that are not reversed, and the others
pub order-first : (r : KeyRange) (rs : List KeyRange) → all_in_order (r ∷ rs) ≡ true → (r.start ≤ r.end) × (all_in_order rs ≡ true)
unfolding all_in_order
order-first r rs e = let b = both_true (is_in_order r) _ e in (leb-true _ _ b.0, b.1)

pub lengths-first : (r : KeyRange) (rs : List KeyRange) → lengths_of (r ∷ rs) ≡ values_in r + lengths_of rs
unfolding lengths_of
lengths-first r rs = refl

-- the i-th of n, and those behind it
pub ranges-next : (s : List ℕ) (at n i : ℕ) (r : KeyRange) → i < n → r ≡ decode_range (drop (at + 4 * i) s)
    → decode_ranges (n - i) (drop (at + 4 * i) s) ≡ r ∷ decode_ranges (n - (i + 1)) (drop (at + 4 * (i + 1)) s)
ranges-next s at n i r h e =
    let p : at + 4 * i + 4 ≡ at + 4 * (i + 1) = omega arith in
    let q : n - i - 1 ≡ n - (i + 1) = omega arith in
    ranges-at s (at + 4 * i) (n - i) r (omega arith) e
    ∙ ap (λ (k : ℕ). r ∷ decode_ranges k (drop (at + 4 * i + 4) s)) q
    ∙ ap (λ (k : ℕ). r ∷ decode_ranges (n - (i + 1)) (drop k s)) p

pub ranges-all : (s : List ℕ) (at n : ℕ) → decode_ranges n (drop at s) ≡ decode_ranges (n - 0) (drop (at + 4 * 0) s)
ranges-all s at n =
    let p : at ≡ at + 4 * 0 = omega arith in
    let q : n ≡ n - 0 = omega arith in
    ap (λ (k : ℕ). decode_ranges n (drop k s)) p ∙ ap (λ (k : ℕ). decode_ranges k (drop (at + 4 * 0) s)) q

pub lengths_none : (n : ℕ) (l : List ℕ) → n ≤ 0 → lengths_of (decode_ranges n l) ≡ 0
unfolding lengths_of
lengths_none n l h = ap lengths_of (ranges-none n l h)

-- ---- the record lent

-- a row that is not empty
held-some : (r : KeyRange) (n : ℕ) (l : List ℕ) → 0 < n → held_in r (decode_ranges n l) ≡ lengths_of (decode_ranges n l)
unfolding decode_ranges held_in
held-some r zero l h = absurd (not-suc-le-zero h)
held-some r (suc n) l h = refl

held_none : (r : KeyRange) (n : ℕ) (l : List ℕ) → n ≡ 0 → held_in r (decode_ranges n l) ≡ values_in r
unfolding held_in
held_none r n l h = ap (held_in r) (ranges-none n l (omega arith))

not-read : (l : List ℕ) → None ≡ record_read l 0 (length l) → record_valid l 0 (length l) ≡ true → ⊥
unfolding record_read
not-read l e g =
    let f : None ≡ Some ((decode_segment l).segment_id, size_segment (decode_segment l)) = e ∙ rw g in
    let z : ◌≡◌ {A = ℕ} 0 1 = cc in omega arith

module _ (l : List ℕ) where
  holds_not : is_segment l ≡ false → None ≡ holds_of l
  unfolding holds_of
  holds_not e = rw e

  read-valid : size_segment (decode_segment l) ≡ length l → ok_segment (decode_segment l) ≡ true → record_valid l 0 (length l) ≡ true
  unfolding record_valid
  read-valid q k =
      let m : leb (0 + size_segment (decode_segment l)) (length l) ≡ true = le-leb (0 + size_segment (decode_segment l)) (length l) (omega arith) in
      simp (m, k)

  -- no valid record stands at the front
  pub holds-bad : None ≡ record_read l 0 (length l) → None ≡ holds_of l
  unfolding is_segment
  holds-bad e = holds_not (go (eqb (size_segment (decode_segment l)) (length l)) (ok_segment (decode_segment l)) refl refl)
    where
      go : (t u : Bool) → eqb (size_segment (decode_segment l)) (length l) ≡ t → ok_segment (decode_segment l) ≡ u → t && u ≡ false
      go true true h k = absurd (not-read l e (read-valid (eqb-true _ _ h) k))
      go true false h k = refl
      go false u h k = refl

  module _ (i z : ℕ) (g : RecordIs l 0 (length l) i z) where
    -- bytes are left over
    pub holds-longer : (z ≡ length l → ⊥) → None ≡ holds_of l
    unfolding is_segment
    holds-longer h =
        let k : size_segment (decode_segment l) ≡ length l → ⊥ = λ e. h (g.size_is ∙ e) in
        holds_not (simp (ne_eqb (size_segment (decode_segment l)) (length l) k))

    module _ (e : z ≡ length l) where
      pub long-enough : 14 ≤ length l
      long-enough = omega (arith, size-least (decode_segment l), g.size_is)

      segment-valid : is_segment l ≡ true
      unfolding is_segment
      segment-valid =
          let k : size_segment (decode_segment l) ≡ length l = sym g.size_is ∙ e in
          let o : ok_segment (decode_segment l) ≡ true = g.ok in
          simp (eq-eqb (size_segment (decode_segment l)) (length l) k, o)

      holds-values : (v : ℕ) → v ≡ values_held (decode_segment l) → Some v ≡ holds_of l
      unfolding holds_of
      holds-values v h = simp (segment-valid, h)

      module _ (n : ℕ) (f : n ≡ be_at 2 l 12) where
        seen : Seen l 0 (be_at 8 l 0) (decode_range (drop 8 l)) n
        seen = record { id-is = refl; range-is = refl; count-is = f }

        pub all-inside : 14 + 4 * n ≤ length l
        all-inside = omega (arith, seen_size l 0 _ _ n seen, g.size_is)

        segment-is : decode_segment l ≡ record { segment_id = be_at 8 l 0; range = decode_range (drop 8 l); buckets = decode_ranges n (drop 14 l) }
        segment-is = segment-at l 0 (be_at 8 l 0) (decode_range (drop 8 l)) n refl refl f

        orders : is_in_order (decode_range (drop 8 l)) && ok_buckets (decode_ranges n (drop 14 l)) ≡ true
        unfolding ok_segment
        orders = sym (ap ok_segment segment-is) ∙ g.ok

        pub range-in-order : (decode_range (drop 8 l)).start ≤ (decode_range (drop 8 l)).end
        range-in-order = leb-true _ _ (both_true (is_in_order (decode_range (drop 8 l))) _ orders).0

        pub buckets-in-order : all_in_order (decode_ranges n (drop 14 l)) ≡ true
        unfolding ok_buckets
        buckets-in-order =
            (both_true (all_in_order (decode_ranges n (drop 14 l))) _ (both_true (is_in_order (decode_range (drop 8 l))) _ orders).1).0

        held-is : values_held (decode_segment l) ≡ held_in (decode_range (drop 8 l)) (decode_ranges n (drop 14 l))
        unfolding values_held
        held-is = ap values_held segment-is

        -- no buckets: the range's values
        pub holds-range : (v : ℕ) → n ≡ 0 → v ≡ values_in (decode_range (drop 8 l)) → Some v ≡ holds_of l
        holds-range v h k = holds-values v (k ∙ sym (held_none (decode_range (drop 8 l)) n (drop 14 l) h) ∙ sym held-is)

        pub holds-buckets : (v : ℕ) → (n ≡ 0 → ⊥) → v ≡ lengths_of (decode_ranges n (drop 14 l)) → Some v ≡ holds_of l
        holds-buckets v h k =
            let p : 0 < n = omega (arith, h) in
            holds-values v (k ∙ sym (held-some (decode_range (drop 8 l)) n (drop 14 l) p) ∙ sym held-is)

-- ---- the answers of `charge`

pub record Held (l : List ℕ) (v : ℕ) : Type 0 where
  pub valid : is_segment l ≡ true
  pub values-are : v ≡ values_held (decode_segment l)

pub held : (l : List ℕ) (v : ℕ) → Some v ≡ holds_of l → Held l v
unfolding holds_of
held l v e =
    let p = cond-first (is_segment l) _ _ _ (λ q. let o : ◌≡◌ {A = ℕ} 0 1 = cc in omega arith) (sym e) in
    let f = p.1 in
    record { valid = p.0; values-are = cc }

not-held : (l : List ℕ) → None ≡ holds_of l → is_segment l ≡ false
unfolding holds_of
not-held l e = (cond-second (is_segment l) _ _ _ (λ q. let o : ◌≡◌ {A = ℕ} 0 1 = cc in omega arith) (sym e)).0

module _ (l : List ℕ) (s r m : ℕ) where
  pub refused-malformed : None ≡ holds_of l → Err MalformedInput ≡ charge_of l s r m
  unfolding charge_of
  refused-malformed e = simp (not-held l e)

  module _ (v : ℕ) (h : Held l v) where
    cost-is : cost_of l s r ≡ v * s * r
    unfolding cost_of
    cost-is = ap (λ (x : ℕ). x * s * r) (sym h.values-are)

    pub refused-remainder : divisor ≤ m → Err ChargeTooLarge ≡ charge_of l s r m
    unfolding charge_of too_large
    refused-remainder k = simp (h.valid, le-leb divisor m k, or-true)

    pub refused-sum : 2 ^ 64 ≤ v * s * r + m → Err ChargeTooLarge ≡ charge_of l s r m
    unfolding charge_of too_large
    refused-sum k = simp (h.valid, cost-is, le-leb (2 ^ 64) (v * s * r + m) k)

    pub charged : m < divisor → (n : ℕ) → n ≡ v * s * r → n + m < 2 ^ 64
        → Ok ((n + m) / divisor, (n + m) % divisor) ≡ charge_of l s r m
    unfolding charge_of too_large
    charged j n e k =
        let q : cost_of l s r ≡ n = cost-is ∙ sym e in
        simp (h.valid, q, lt-leb divisor m j, lt-leb (2 ^ 64) (n + m) k)

-- what a charge says
pub record Charges (l : List ℕ) (s r m charge next : ℕ) : Type 0 where
  pub charge-is : charge ≡ (cost_of l s r + m) / divisor
  pub next-is : next ≡ (cost_of l s r + m) % divisor

pub charges : (l : List ℕ) (s r m x y : ℕ) → Ok (x, y) ≡ charge_of l s r m → Charges l s r m x y
unfolding charge_of
charges l s r m x y e = go (not (is_segment l)) (too_large (cost_of l s r) m) refl refl
  where
    go : (t u : Bool) → not (is_segment l) ≡ t → too_large (cost_of l s r) m ≡ u → Charges l s r m x y
    go true u h k = let f : Ok (x, y) ≡ Err MalformedInput = e ∙ rw h in let z : ◌≡◌ {A = ℕ} 0 1 = cc in absurd (omega arith)
    go false true h k = let f : Ok (x, y) ≡ Err ChargeTooLarge = e ∙ rw (h, k) in let z : ◌≡◌ {A = ℕ} 0 1 = cc in absurd (omega arith)
    go false false h k =
        let f : Ok (x, y) ≡ Ok ((cost_of l s r + m) / divisor, (cost_of l s r + m) % divisor) = e ∙ rw (h, k) in
        let p = some_pair_parts x ((cost_of l s r + m) / divisor) y ((cost_of l s r + m) % divisor) (ap result_ok f) in
        record { charge-is = p.0; next-is = p.1 }
