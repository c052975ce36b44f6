-- Laws of `front_size`, `front_answer` and `whole_read`, as the readers of src/ meet them.
--
-- In order: `front_size` by the records at the front (`size_is`, `size-short` to `size-records`), and what it says of the bytes (`size_none`, `Sized`, `size-some`), so of
-- `starts_assignment` (`starts-told`), of `is_assignment` (`whole-not` to `whole-ends`) and of `front_answer` (`front-none`, `front-some`); `whole_read` by the answer of `read_front` (`whole-told`,
-- `whole-refused`).
-- Assumes nothing.
use Rattle.std.specs.Prelude.{cond, Some, None}
use Rattle.std.specs.Bool.{then_some}
use Rattle.std.proofs.lemmas.Option.{cond_some}
use Prim.Native.Nat.{ℕ, ◌+◌, ◌*◌, ◌≤◌, ◌<◌, min}
use native.Mathlib.Decide.{dec_le}
use native.Mathlib.Omega.{arith}
use mathlib.Core.Path.{◌≡◌, refl, sym, ap, ◌∙◌}
use mathlib.Core.Bool.{Bool, true, false, not}
use mathlib.Core.List.{List}
use lib.ListN.{length, drop}
use lib.Dec.{eqb}
use borrow.Author.Tests.{le-leb, lt-leb, leb-true, eq-eqb, ne_eqb}
use Rattle.slice.specs.BoolLaws.{both_true}
use Rattle.slice.proofs.TestLaws.{cond-second}
use Rattle.slice_int.specs.Be.{be_at}
use Rattle.packed.specs.Assignment.{slot_size, decode_segments, decode_assignment, size_segments, size_assignment, ok_from}
use Rattle.packed.specs.Assignment.{starts_assignment, is_assignment}
use Rattle.packed.specs.Answers.{records_end, front_size, front_answer, whole_read}
use Rattle.packed.proofs.AssignmentLaws.{length-segments_of, first-segments, starts}
use Rattle.packed.proofs.EndLaws.{rest-short, end_none}

-- ---- the size

size-refused : (s : List ℕ) → starts_assignment s ≡ false → 0 ≡ front_size s
unfolding front_size
size-refused s e = simp e

pub size-short : (s : List ℕ) → min (length s) slot_size < 10 → 0 ≡ front_size s
unfolding size_assignment
size-short s h =
    size-refused s (starts s ∙ simp (lt-leb (10 + size_segments (decode_assignment s).segments) (min (length s) slot_size) (omega arith)))

module _ (s : List ℕ) (end n : ℕ) (e : end ≡ min (length s) slot_size) (k : n ≡ be_at 2 s 8) where
  size_is : records_end s 10 n end ≡ front_size s
  unfolding records_end front_size size_assignment
  size_is =
      let f : decode_segments n (drop 10 s) ≡ (decode_assignment s).segments = sym (first-segments s n k) in
      simp (f, e, starts s)

  pub size_room : end < 10 + 14 * n → 0 ≡ front_size s
  size_room h = end_none s 10 n end (rest-short s end 10 n 0 h) ∙ size_is

  pub size-empty : n ≡ 0 → 10 ≤ end → 10 ≡ front_size s
  unfolding records_end decode_segments size_segments ok_from
  size-empty z h =
      let r : 10 ≡ records_end s 10 0 end = simp (le-leb 10 end h) in
      r ∙ ap (λ (m : ℕ). records_end s 10 m end) (sym z) ∙ size_is

  pub size-records : {r : ℕ} → r ≡ records_end s 10 n end → r ≡ front_size s
  size-records h = h ∙ size_is

-- what a size says
pub record Sized (s : List ℕ) (z : ℕ) : Type 0 where
  pub starts_is : starts_assignment s ≡ true
  pub size_is : size_assignment (decode_assignment s) ≡ z
  pub room : 10 ≤ length s

module _ (s : List ℕ) {z : ℕ} (e : z ≡ front_size s) where
  size_none : z ≡ 0 → starts_assignment s ≡ false
  unfolding front_size size_assignment
  size_none h = go (starts_assignment s) refl
    where
      go : (t : Bool) → starts_assignment s ≡ t → starts_assignment s ≡ false
      go true k = let f : z ≡ 10 + size_segments (decode_assignment s).segments = e ∙ rw k in absurd (omega arith)
      go false k = k

  pub size-some : (z ≡ 0 → ⊥) → Sized s z
  unfolding front_size starts_assignment size_assignment
  size-some h = go (starts_assignment s) refl
    where
      go : (t : Bool) → starts_assignment s ≡ t → Sized s z
      go true k =
          let f : z ≡ 10 + size_segments (decode_assignment s).segments = e ∙ rw k in
          let b = leb-true (10 + size_segments (decode_assignment s).segments) (length s) (both_true _ _ k).0 in
          record { starts_is = k; size_is = sym f; room = omega (arith, b) }
      go false k = absurd (h (e ∙ rw k))

  pub starts-told : not (eqb z 0) ≡ starts_assignment s
  starts-told = go (dec_le z 0)
    where
      go : Dec (z ≤ 0) → not (eqb z 0) ≡ starts_assignment s
      go (yes h) = let f : z ≡ 0 = omega arith in ap not (eq-eqb z 0 f) ∙ sym (size_none f)
      go (no h) =
          let f : z ≡ 0 → ⊥ = λ k. h (omega (arith, k)) in
          ap not (ne_eqb z 0 f) ∙ sym (size-some f).starts_is

  pub whole-not : z ≡ 0 → false ≡ is_assignment s
  unfolding is_assignment
  whole-not h = simp (size_none h)

  pub whole_is : (z ≡ 0 → ⊥) → eqb z (length s) ≡ is_assignment s
  unfolding is_assignment
  whole_is h = let f : Sized s z = size-some h in simp (f.starts_is, f.size_is)

  -- it ends where the bytes end
  pub whole-ends : z ≡ length s → 0 < z → is_assignment s ≡ true
  whole-ends h k = sym (whole_is (λ e. absurd (omega (arith, e)))) ∙ eq-eqb z (length s) h

  pub front-none : z ≡ 0 → None ≡ front_answer s
  unfolding front_answer
  front-none h = simp (size_none h)

  pub front-some : (z ≡ 0 → ⊥) → (n : ℕ) → n ≡ be_at 2 s 8 → Some (z, n) ≡ front_answer s
  unfolding front_answer
  front-some h n k =
      let f : Sized s z = size-some h in
      let c : length (decode_assignment s).segments ≡ n = ap length (first-segments s n k) ∙ length-segments_of n (drop 10 s) in
      simp (f.starts_is, f.size_is, c)

-- ---- the whole

-- what an answer of `read_front` says
record Front (s : List ℕ) (z n : ℕ) : Type 0 where
  starts_is : starts_assignment s ≡ true
  size_is : size_assignment (decode_assignment s) ≡ z
  count-is : length (decode_assignment s).segments ≡ n

front : (s : List ℕ) (z n : ℕ) → Some (z, n) ≡ front_answer s → Front s z n
unfolding front_answer
front s z n e =
    let p = cond_some (starts_assignment s) _ _ (sym e) in
    record { starts_is = p.0; size_is = ap (λ (q : ℕ × ℕ). q.0) p.1; count-is = ap (λ (q : ℕ × ℕ). q.1) p.1 }

module _ (s : List ℕ) (z n : ℕ) (e : Some (z, n) ≡ front_answer s) where
  -- whether nothing is left over
  pub whole-told : then_some {T = ℕ × ℕ} (eqb z (length s)) (z, n) ≡ whole_read s
  unfolding whole_read is_assignment
  whole-told = let f : Front s z n = front s z n e in go (eqb z (length s)) ∙ simp (f.starts_is, f.size_is, f.count-is)
    where
      go : (b : Bool) → then_some {T = ℕ × ℕ} b (z, n) ≡ cond b (Some (z, n)) None
      go true = refl
      go false = refl

pub whole-refused : (s : List ℕ) → None ≡ front_answer s → None ≡ whole_read s
unfolding front_answer whole_read is_assignment
whole-refused s e = simp (cond-second (starts_assignment s) _ _ _ (λ q. let o : ◌≡◌ {A = ℕ} 0 1 = cc in omega arith) (sym e)).0
