-- What is known in each turn of the readers of src/, and how their tests decide.
--
-- In order: the least id that may follow (`lowest`); a turn of reading ids (`Ids`: `ids-start`, `ids-stale`, `ids_next`, `ids-end`) and of
-- reading records (`Records`: `records-start`, `records-cut`, `records-stale`, `records-next`, `records-end`), and what the place behind
-- them says (`records-to`, `no-records`); the cases of `front_answer` (`front-short` to `front-valid`), and from them those of `delta_read`
-- (`delta-none`, `delta-told`).
-- Assumes nothing.
use Rattle.std.specs.Prelude.{Some, None}
use Rattle.std.specs.Bool.{then_some}
use Rattle.std.proofs.lemmas.Option.{cond_some}
use Prim.Native.Nat.{ℕ, suc, ◌+◌, ◌-◌, ◌*◌, ◌≤◌, ◌<◌}
use native.Mathlib.Nat.{add-zero}
use native.Mathlib.Omega.{arith}
use mathlib.Core.Path.{◌≡◌, refl, sym, ap, ◌∙◌}
use mathlib.Core.Bool.{Bool, true, false, not, ◌&&◌, and-false}
use mathlib.Core.List.{List}
use lib.ListN.{length, drop}
use lib.Dec.{leb, eqb}
use borrow.Author.Tests.{not-true, not-false, le-leb, lt-leb, leb-true, eq-eqb, ne_eqb, eqb-true}
use Rattle.slice.specs.BoolLaws.{both_true}
use Rattle.slice.proofs.TestLaws.{cond-second}
use Rattle.slice_int.specs.Be.{be_at}
use Rattle.packed.specs.Assignment.{size_segments, num, decode_segments, ok_from}
use Rattle.packed.specs.Answers.{record_read}
use Rattle.packed.proofs.AssignmentLaws.{length-segments_of, RecordIs, rest, size-turn, record-malformed, id-low, id-rises, Rest}
use Rattle.packed_delta.specs.Delta.{AssignmentDelta, decode_ids, decode_delta, size_delta, ids_from, ok_delta, starts_delta, is_delta}
use Rattle.packed_delta.specs.Answers.{records_to, front_answer, delta_read}
use Rattle.packed_delta.proofs.RoundLaws.{ids-none, ids_at, length-ids_of, by-counts, size_is, ok-is, front-answer, not-front, is_front}

-- ---- the least id that may follow: any at first, then those above the one before

abbrev pub lowest : Bool → ℕ → ℕ
lowest true prev = 0
lowest false prev = suc prev

module _ (first : Bool) (prev i : ℕ) where
  pub lowest-first : not first ≡ false → lowest first prev ≤ i
  lowest-first e = let k : lowest first prev ≡ 0 = ap (λ (b : Bool). lowest b prev) (not-false first e) in omega arith

  module _ (e : not first ≡ true) where
    lowest-is : lowest first prev ≡ suc prev
    lowest-is = ap (λ (b : Bool). lowest b prev) (not-true first e)

    pub lowest-above : prev < i → lowest first prev ≤ i
    lowest-above h = omega (arith, lowest-is)

    pub lowest-stale : i ≤ prev → i < lowest first prev
    lowest-stale h = omega (arith, lowest-is)

-- ---- ids

-- at the place p, with `left` ids of n to read: these decide the whole
pub record Ids (s : List ℕ) (at n p left : ℕ) (first : Bool) (prev : ℕ) : Type 0 where
  pub place : p + 8 * left ≡ at + 8 * n
  pub decides : ids_from 0 (decode_ids n (drop at s)) ≡ ids_from (lowest first prev) (decode_ids left (drop p s))

pub ids-start : (s : List ℕ) (at n : ℕ) → Ids s at n at n true 0
ids-start s at n = record { place = refl; decides = refl }

module _ {s : List ℕ} {at n p left : ℕ} {first : Bool} {prev : ℕ} (I : Ids s at n p left first prev) where
  module _ {i : ℕ} (h : 0 < left) (e : i ≡ be_at 8 s p) where
    here : ids_from 0 (decode_ids n (drop at s)) ≡ (leb (lowest first prev) i && ids_from (suc i) (decode_ids (left - 1) (drop (p + 8) s)))
    unfolding ids_from num be_at
    here =
        I.decides
        ∙ ap (ids_from (lowest first prev)) (ids_at s p left h)
        ∙ ap (λ (k : ℕ). leb (lowest first prev) k && ids_from (suc k) (decode_ids (left - 1) (drop (p + 8) s))) (sym e)

    pub ids-stale : i < lowest first prev → false ≡ ids_from 0 (decode_ids n (drop at s))
    ids-stale k = sym (here ∙ simp (lt-leb (lowest first prev) i k))

    pub ids_next : lowest first prev ≤ i → Ids s at n (p + 8) (left - 1) false i
    ids_next k = let b = I.place in record { place = omega arith; decides = here ∙ simp (le-leb (lowest first prev) i k) }

  pub ids-end : left ≤ 0 → true ≡ ids_from 0 (decode_ids n (drop at s))
  unfolding ids_from
  ids-end h = sym (I.decides ∙ ap (ids_from (lowest first prev)) (ids-none left (drop p s) h))

-- ---- records up to a place

-- at the place p, with `left` records of n to read: these decide the whole, and end where all end
pub record Records (s : List ℕ) (at n p left : ℕ) (first : Bool) (prev : ℕ) : Type 0 where
  pub bound : p ≤ length s
  pub decides : rest s (length s) at n 0 ≡ rest s (length s) p left (lowest first prev)
  pub sums : at + size_segments (decode_segments n (drop at s)) ≡ p + size_segments (decode_segments left (drop p s))

pub records-start : (s : List ℕ) (at n : ℕ) → at ≤ length s → Records s at n at n true 0
records-start s at n h = record { bound = h; decides = refl; sums = refl }

module _ {s : List ℕ} {at n p left : ℕ} {first : Bool} {prev : ℕ} (I : Records s at n p left first prev) where
  refused : rest s (length s) p left (lowest first prev) ≡ false → None ≡ records_to s at n
  unfolding records_to
  refused e = let f : rest s (length s) at n 0 ≡ false = I.decides ∙ e in simp f

  -- no valid record stands there
  pub records-cut : 0 < left → None ≡ record_read s p (length s) → None ≡ records_to s at n
  records-cut h e = refused (record-malformed s p left (lowest first prev) (length s) h e)

  module _ {i z : ℕ} (h : 0 < left) (g : RecordIs s p (length s) i z) where
    pub records-stale : i < lowest first prev → None ≡ records_to s at n
    records-stale k = refused (id-low s p left (lowest first prev) (length s) h i z g k)

    pub records-next : lowest first prev ≤ i → Records s at n (p + z) (left - 1) false i
    records-next k =
        record {
          bound = omega (arith, g.fits, g.size_is);
          decides = I.decides ∙ id-rises s p left (lowest first prev) (length s) h i z g k;
          sums = I.sums ∙ size-turn s p left z h g.size_is;
        }

  all_read : left ≤ 0 → (rest s (length s) at n 0 ≡ true) × (at + size_segments (decode_segments n (drop at s)) ≡ p)
  unfolding decode_segments size_segments ok_from
  all_read h =
      let e : left ≡ 0 = omega arith in (
        I.decides ∙ ap (λ (m : ℕ). rest s (length s) p m (lowest first prev)) e ∙ simp (add-zero, le-leb p (length s) I.bound),
        I.sums ∙ ap (λ (m : ℕ). p + size_segments (decode_segments m (drop p s))) e ∙ add-zero p,
      )

  pub records-end : left ≤ 0 → Some p ≡ records_to s at n
  unfolding records_to
  records-end h = let d = (all_read h).0 in ap Some (sym (all_read h).1) ∙ simp d

-- what the answer of `records_to` says
pub records-to : (s : List ℕ) (at n z : ℕ) → Some z ≡ records_to s at n → (Rest s at n) × (z ≡ at + size_segments (decode_segments n (drop at s)))
unfolding records_to
records-to s at n z e =
    let p = cond_some (rest s (length s) at n 0) _ _ (sym e) in
    let b = both_true (leb (at + size_segments (decode_segments n (drop at s))) (length s)) _ p.0 in
    (record { fits = leb-true _ _ b.0; ok = b.1 }, sym p.1)

pub no-records : (s : List ℕ) (at n : ℕ) → None ≡ records_to s at n → rest s (length s) at n 0 ≡ false
unfolding records_to
no-records s at n e = (cond-second (rest s (length s) at n 0) _ _ _ (λ q. let o : ◌≡◌ {A = ℕ} 0 1 = cc in omega arith) (sym e)).0

-- ---- the cases of `front_answer`

front-refused : (s : List ℕ) → starts_delta s ≡ false → None ≡ front_answer s
unfolding front_answer
front-refused s e = simp e

-- it has to be longer than it is
front-longer : (s : List ℕ) → length s < size_delta (decode_delta s) → None ≡ front_answer s
unfolding starts_delta
front-longer s h = front-refused s (simp (lt-leb (size_delta (decode_delta s)) (length s) h))

pub front-short : (s : List ℕ) → length s < 12 → None ≡ front_answer s
unfolding size_delta
front-short s h = front-longer s (omega arith)

-- the counts that were read
pub record Counts (s : List ℕ) (m n : ℕ) : Type 0 where
  pub lost-is : m ≡ be_at 2 s 8
  pub gained-is : n ≡ be_at 2 s 10

module _ {s : List ℕ} {m n : ℕ} (x : Counts s m n) where
  lost-count : m ≡ num 2 (drop 8 s)
  unfolding num be_at
  lost-count = x.lost-is

  gained-count : n ≡ num 2 (drop 10 s)
  unfolding num be_at
  gained-count = x.gained-is

  -- the lost ids alone are too many
  pub front_cut : length s < 12 + 8 * m → None ≡ front_answer s
  front_cut h = front-longer s (omega (arith, size_is s m n lost-count gained-count))

  -- the records end with the bytes or before, the lost ids pass their test b, and the records are valid
  abbrev within : Bool → Bool
  within b =
      leb (12 + 8 * m + size_segments (decode_segments n (drop (12 + 8 * m) s))) (length s) && (b && ok_from 0 (decode_segments n (drop (12 + 8 * m) s)))

  starts_is : starts_delta s ≡ within (ids_from 0 (decode_ids m (drop 12 s)))
  unfolding starts_delta
  starts_is =
      let z : ℕ = 12 + 8 * m + size_segments (decode_segments n (drop (12 + 8 * m) s)) in
      ap (λ (k : ℕ). leb k (length s) && ok_delta (decode_delta s)) (size_is s m n lost-count gained-count)
      ∙ ap (λ (t : Bool). leb z (length s) && t) (ok-is s m n lost-count gained-count)

  pub front-falls : false ≡ ids_from 0 (decode_ids m (drop 12 s)) → None ≡ front_answer s
  front-falls e = front-refused s (starts_is ∙ simp (← e, and-false))

  pub front-bad : None ≡ records_to s (12 + 8 * m) n → None ≡ front_answer s
  front-bad e = front-refused s (starts_is ∙ go (ids_from 0 (decode_ids m (drop 12 s))))
    where
      go : (t : Bool) → within t ≡ false
      go true = no-records s (12 + 8 * m) n e
      go false = and-false (leb (12 + 8 * m + size_segments (decode_segments n (drop (12 + 8 * m) s))) (length s))

  pub front-valid : true ≡ ids_from 0 (decode_ids m (drop 12 s)) → (z : ℕ) → Some z ≡ records_to s (12 + 8 * m) n
      → Some (m, n, z) ≡ front_answer s
  unfolding front_answer
  front-valid e z f =
      let g = records-to s (12 + 8 * m) n z f in
      let k : starts_delta s ≡ true =
      starts_is
      ∙ simp (le-leb (12 + 8 * m + size_segments (decode_segments n (drop (12 + 8 * m) s))) (length s) g.0.fits, ← e, g.0.ok) in
      let y : size_delta (decode_delta s) ≡ z = size_is s m n lost-count gained-count ∙ sym g.1 in
      let d = by-counts s m n lost-count gained-count in
      let a : length (decode_delta s).lost ≡ m = ap (λ (v : AssignmentDelta). length v.lost) d ∙ length-ids_of m (drop 12 s) in
      let b : length (decode_delta s).gained ≡ n = ap (λ (v : AssignmentDelta). length v.gained) d ∙ length-segments_of n (drop (12 + 8 * m) s) in
      simp (k, y, a, b)

-- ---- the cases of `delta_read`, from the delta at the front

module _ (s : List ℕ) where
  pub delta-none : None ≡ front_answer s → None ≡ delta_read s
  unfolding delta_read
  delta-none e = go (is_delta s) refl
    where
      go : (t : Bool) → is_delta s ≡ t → None ≡ delta_read s
      go false h = simp h
      go true h =
          let k : ◌≡◌ {A = Bool} true false = sym (is_front s h).0 ∙ not-front s e in
          let q : ◌≡◌ {A = ℕ} 0 1 = cc in
          absurd (omega arith)

  module _ (m n z : ℕ) (e : Some (m, n, z) ≡ front_answer s) where
    -- bytes are left over
    delta-more : (z ≡ length s → ⊥) → None ≡ delta_read s
    unfolding delta_read is_delta
    delta-more h =
        let f = front-answer s m n z e in
        let k : is_delta s ≡ false =
        simp (ne_eqb (size_delta (decode_delta s)) (length s) (λ q. h (f.size_is ∙ q))) in
        simp k

    delta-all : z ≡ length s → Some (m, n) ≡ delta_read s
    unfolding delta_read is_delta starts_delta
    delta-all h =
        let f = front-answer s m n z e in
        let o : ok_delta (decode_delta s) ≡ true = (both_true (leb (size_delta (decode_delta s)) (length s)) _ f.starts).1 in
        let k : is_delta s ≡ true = simp (eq-eqb (size_delta (decode_delta s)) (length s) (sym f.size_is ∙ h), o) in
        let a : length (decode_delta s).lost ≡ m = ap length f.lost-is ∙ length-ids_of m (drop 12 s) in
        let b : length (decode_delta s).gained ≡ n = ap length f.gained-is ∙ length-segments_of n (drop (12 + 8 * m) s) in
        simp (k, a, b)

    pub delta-told : then_some {T = ℕ × ℕ} (eqb z (length s)) (m, n) ≡ delta_read s
    delta-told = go (eqb z (length s)) refl
      where
        go : (t : Bool) → eqb z (length s) ≡ t → then_some {T = ℕ × ℕ} t (m, n) ≡ delta_read s
        go true h = delta-all (eqb-true _ _ h)
        go false h = delta-more (λ q. let k : ◌≡◌ {A = Bool} true false = sym (eq-eqb z (length s) q) ∙ h in let o : ◌≡◌ {A = ℕ} 0 1 = cc in omega arith)
