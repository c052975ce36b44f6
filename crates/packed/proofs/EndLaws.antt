-- Laws of `records_end`, as `records_end` meets it.
--
-- In order: records take 14 bytes each at least (`size-floor`, `rest-short`); what a bad record decides (`rest-bad`); an id that is not above (`rest-stale`), and one
-- that is (`rest-fresh`); what is known before a record (`Walk`, `walk_start`, `walk-reversed` to `walk-clash`) and behind it (`Past`, `past`, `past_end` to `past_next`).
-- Assumes nothing.
use Prim.Native.Nat.{ℕ, zero, suc, ◌+◌, ◌-◌, ◌*◌, ◌≤◌, ◌<◌}
use native.Mathlib.Nat.{add-zero}
use native.Mathlib.Omega.{arith}
use mathlib.Core.Path.{◌≡◌, refl, sym, ap, ◌∙◌}
use mathlib.Core.Bool.{Bool, true, false, ◌&&◌, and-false}
use mathlib.Core.List.{List}
use lib.ListN.{drop}
use lib.Dec.{leb}
use borrow.Author.Tests.{le-leb, lt-leb}
use Rattle.topic_types.specs.KeyRanges.{key_range}
use Rattle.slice_int.specs.Be.{be_at}
use Rattle.ranges.specs.Overlap.{any_overlap}
use Rattle.packed.specs.Assignment.{num, decode_ranges, decode_segment, decode_segments, size_segment, size_segments, all_in_order, ok_buckets, ok_segment, ok_from}
use Rattle.packed.specs.Answers.{records_end}
use Rattle.packed.proofs.AssignmentLaws.{range_at, size-least, Seen, seen_size, seen-id, seen-ok, RecordIs, rest, size-turn, ok-turn, id-rises}

-- ---- records at a place

size-floor : (n : ℕ) (l : List ℕ) → 14 * n ≤ size_segments (decode_segments n l)
unfolding decode_segments size_segments
size-floor zero l = omega arith
size-floor (suc n) l =
    omega (arith, size-least (decode_segment l), size-floor n (drop (size_segment (decode_segment l)) l))

module _ (s : List ℕ) (end p n low : ℕ) where
  -- n records have no room
  pub rest-short : end < p + 14 * n → rest s end p n low ≡ false
  rest-short h =
      simp (lt-leb (p + size_segments (decode_segments n (drop p s))) end (omega (arith, size-floor n (drop p s))))

  module _ (h : 0 < n) where
    rest-bad : ok_segment (decode_segment (drop p s)) ≡ false → rest s end p n low ≡ false
    rest-bad f = simp (ok-turn s p n low end h (size_segment (decode_segment (drop p s))) refl, f, and-false)

    -- its size leaves no room for those behind it
    rest-long : (z : ℕ) → z ≡ size_segment (decode_segment (drop p s)) → end < p + z + 14 * (n - 1) → rest s end p n low ≡ false
    rest-long z e k =
        simp (lt-leb (p + size_segments (decode_segments n (drop p s))) end
        (omega (arith, size-turn s p n z h e, size-floor (n - 1) (drop (p + z) s))))

    module _ (i : ℕ) (e : i ≡ (decode_segment (drop p s)).segment_id) where
      rest-stale : i < low → rest s end p n low ≡ false
      rest-stale k =
          simp (ok-turn s p n low end h (size_segment (decode_segment (drop p s))) refl, ← e, lt-leb low i k, and-false)

      rest-fresh : low ≤ i → rest s end p n low ≡ rest s end p n 0
      rest-fresh k =
          simp (ok-turn s p n low end h (size_segment (decode_segment (drop p s))) refl, ok-turn s p n 0 end h (size_segment (decode_segment (drop p s))) refl, ← e, le-leb low i k, le-leb 0 i (omega arith))

id-at : (s : List ℕ) (p i : ℕ) → i ≡ be_at 8 s p → i ≡ (decode_segment (drop p s)).segment_id
unfolding decode_segment num be_at
id-at s p i e = e

-- ---- the answer

pub end_none : (s : List ℕ) (at n end : ℕ) → rest s end at n 0 ≡ false → 0 ≡ records_end s at n end
unfolding records_end
end_none s at n end e = simp e

-- before the record at the place p, with `left` to read: these decide the whole
pub record Walk (s : List ℕ) (at n end p stop id : ℕ) : Type 0 where
  pub left : ℕ
  pub some : 0 < left
  pub stop_is : stop ≡ p + 14 * left
  pub bound : stop ≤ end
  pub id-is : id ≡ be_at 8 s p
  pub sized : at + size_segments (decode_segments n (drop at s)) ≡ p + size_segments (decode_segments left (drop p s))
  pub decides : rest s end at n 0 ≡ rest s end p left 0

-- behind the record at the place from, which has the id
pub record Past (s : List ℕ) (at n end from id p stop : ℕ) : Type 0 where
  pub left : ℕ
  pub further : from < p
  pub stop_is : stop ≡ p + 14 * left
  pub bound : stop ≤ end
  pub sized : at + size_segments (decode_segments n (drop at s)) ≡ p + size_segments (decode_segments left (drop p s))
  pub decides : rest s end at n 0 ≡ rest s end p left (suc id)

pub walk_start : (s : List ℕ) (at n end stop id : ℕ) → 0 < n → stop ≡ at + 14 * n → stop ≤ end → id ≡ be_at 8 s at → Walk s at n end at stop id
walk_start s at n end stop id h e b i = record { left = n; some = h; stop_is = e; bound = b; id-is = i; sized = refl; decides = refl }

module _ {s : List ℕ} {at n end p stop id : ℕ} (W : Walk s at n end p stop id) {a b : ℕ}
    (ea : a ≡ be_at 2 s (p + 8)) (eb : b ≡ be_at 2 s (p + 10)) where
  module _ {k : ℕ} (ek : k ≡ be_at 2 s (p + 12)) where
    seen : Seen s p id (key_range a b) k
    seen =
        let f : p + 8 + 2 ≡ p + 10 = omega arith in
        record { id-is = W.id-is; range-is = range_at s (p + 8) a b ea (eb ∙ ap (be_at 2 s) (sym f)); count-is = ek }

    pub walk-long : end < stop + 4 * k → 0 ≡ records_end s at n end
    walk-long h =
        let z = seen_size s p id (key_range a b) k seen in
        end_none s at n end (W.decides ∙ rest-long s end p W.left 0 W.some (14 + 4 * k) (sym z) (omega (arith, W.stop_is, W.some)))

    pub walk-clash : {t : Bool} → t ≡ ok_buckets (decode_ranges k (drop (p + 14) s)) → t ≡ false → a ≤ b → 0 ≡ records_end s at n end
    walk-clash {t} e f h =
        end_none s at n end (W.decides ∙ rest-bad s end p W.left 0 W.some
        (seen-ok s p id (key_range a b) k seen ∙ simp (le-leb a b h, ← e, f)))

    -- a valid record with k buckets
    past : (p' stop' : ℕ) → a ≤ b → ok_buckets (decode_ranges k (drop (p + 14) s)) ≡ true → p' ≡ p + 14 + 4 * k → stop' ≡ stop + 4 * k → stop' ≤ end
        → Past s at n end p id p' stop'
    past p' stop' h o ep es r =
        let z = seen_size s p id (key_range a b) k seen in
        let q : p' ≡ p + (14 + 4 * k) = omega arith in
        let g : RecordIs s p end id (14 + 4 * k) = record {
          id-is = seen-id s p id (key_range a b) k seen;
          size_is = sym z;
          fits = omega (arith, z, W.stop_is, W.some);
          ok = seen-ok s p id (key_range a b) k seen ∙ simp (le-leb a b h, o);
        } in
        record {
          left = W.left - 1;
          further = omega arith;
          stop_is = omega (arith, W.stop_is, W.some);
          bound = r;
          sized =
              W.sized ∙ size-turn s p W.left (14 + 4 * k) W.some (sym z)
              ∙ ap (λ (m : ℕ). m + size_segments (decode_segments (W.left - 1) (drop m s))) (sym q);
          decides =
              W.decides ∙ id-rises s p W.left 0 end W.some id (14 + 4 * k) g (omega arith)
              ∙ ap (λ (m : ℕ). rest s end m (W.left - 1) (suc id)) (sym q);
        }

    pub past-bare : a ≤ b → k ≡ 0 → (p' stop' : ℕ) → p' ≡ p + 14 → stop' ≡ stop → Past s at n end p id p' stop'
    unfolding ok_buckets decode_ranges all_in_order any_overlap
    past-bare h z p' stop' ep es = past p' stop' h (rw z) (omega (arith, z)) (omega (arith, z)) (omega (arith, W.bound))

    pub past-buckets : a ≤ b → {t : Bool} → t ≡ ok_buckets (decode_ranges k (drop (p + 14) s)) → t ≡ true → stop + 4 * k ≤ end
        → (p' stop' : ℕ) → p' ≡ p + 14 + 4 * k → stop' ≡ stop + 4 * k → Past s at n end p id p' stop'
    past-buckets h e f r p' stop' ep es = past p' stop' h (sym e ∙ f) ep es (omega arith)

  pub walk-reversed : b < a → 0 ≡ records_end s at n end
  walk-reversed h =
      end_none s at n end (W.decides ∙ rest-bad s end p W.left 0 W.some
      (seen-ok s p id (key_range a b) (be_at 2 s (p + 12)) (seen refl) ∙ simp (lt-leb a b h)))

module _ {s : List ℕ} {at n end from id p stop : ℕ} (P : Past s at n end from id p stop) where
  pub past_end : p ≡ stop → p ≡ records_end s at n end
  unfolding records_end decode_segments size_segments ok_from
  past_end e =
      let z : P.left ≡ 0 = omega (arith, P.stop_is) in
      let a : at + size_segments (decode_segments n (drop at s)) ≡ p =
      P.sized ∙ ap (λ (m : ℕ). p + size_segments (decode_segments m (drop p s))) z ∙ add-zero p in
      let b : rest s end at n 0 ≡ true =
      P.decides ∙ ap (λ (m : ℕ). rest s end p m (suc id)) z ∙ simp (add-zero, le-leb p end (omega (arith, P.bound))) in
      let c : (leb p end && ok_from 0 (decode_segments n (drop at s))) ≡ true =
      ap (λ (m : ℕ). leb m end && ok_from 0 (decode_segments n (drop at s))) (sym a) ∙ b in
      simp (a, c)

  module _ (more : p ≡ stop → ⊥) where
    left-some : 0 < P.left
    left-some = go P.left P.stop_is
      where
        go : (m : ℕ) → stop ≡ p + 14 * m → 0 < m
        go zero e = absurd (more (omega arith))
        go (suc m) e = omega arith

    -- the next record's head is there
    pub past_room : p + 14 ≤ end
    past_room = omega (arith, left-some, P.stop_is, P.bound)

    module _ {next : ℕ} (e : next ≡ be_at 8 s p) where
      pub past-stale : next ≤ id → 0 ≡ records_end s at n end
      past-stale h =
          end_none s at n end (P.decides ∙ rest-stale s end p P.left (suc id) left-some next (id-at s p next e) (omega arith))

      pub past_next : id < next → Walk s at n end p stop next
      past_next h = record {
        left = P.left;
        some = left-some;
        stop_is = P.stop_is;
        bound = P.bound;
        id-is = e;
        sized = P.sized;
        decides = P.decides ∙ rest-fresh s end p P.left (suc id) left-some next (id-at s p next e) (omega arith);
      }
