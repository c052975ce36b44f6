-- Packed deltas and bytes correspond.
--
-- In order: ids at a place (`ids-none`, `ids_at`) and how many there are; the fields fit their widths (`FitIds`, `FitDelta`); how long an
-- encoding is; what is encoded is read back, whatever follows it (`read-ids`, `read-delta`), and is a delta (`is-encode`); what is read
-- fits (`fit-ids`, `fit-delta`); the parts of a delta by its counts (`by-counts`, `size_is`, `ok-is`); what a walk over a delta at the
-- front needs (`Front`), from `starts_delta` (`front`) and from the answer of `read_front` (`front-answer`, `not-front`); the same of one that
-- is lent alone (`Walkable`), from `is_delta` (`walkable`) and from the answer of `read_delta` (`walk-read`, `not-delta`); a delta is the
-- encoding of what it is read as (`write-delta`).
-- Assumes nothing.
use Rattle.std.specs.Prelude.{Some, None}
use Rattle.std.proofs.lemmas.Option.{cond_some}
use Prim.Native.Nat.{ℕ, zero, suc, ◌+◌, ◌-◌, ◌*◌, ◌^◌, ◌≤◌, ◌<◌}
use native.Mathlib.Nat.{add-zero}
use native.Mathlib.Omega.{arith}
use mathlib.Core.Path.{◌≡◌, refl, sym, ap, ◌∙◌}
use mathlib.Core.Bool.{true, false, ◌&&◌}
use mathlib.Core.List.{List, [], ◌∷◌, ◌++◌, append_assoc, append-nil}
use lib.ListN.{length, take, drop, length-append, length-take, length-drop, take-append-drop}
use lib.Seq.{drop-drop, drop_at, take_all}
use lib.Dec.{leb, eqb}
use borrow.Author.Tests.{le-leb, leb-true, eq-eqb, eqb-true}
use Rattle.slice.specs.BoolLaws.{both_true}
use Rattle.slice.proofs.TestLaws.{cond-second}
use Rattle.slice.proofs.PartLaws.{Bytes, Bytes-take, Bytes-drop}
use Rattle.slice_int.specs.Be.{be, bytes_of}
use Rattle.slice_int.proofs.BeLaws.{length-bytes_of, be-below, be-front, drop-front, bytes_of-front}
use Rattle.slice_int.proofs.RowLaws.{Row, row-none, row_at, length-row}
use Rattle.packed.specs.Assignment.{encode_segments, size_segments, num, decode_segments, ok_from}
use Rattle.packed.proofs.AssignmentLaws.{length-segments_of, Rest}
use Rattle.packed.proofs.RoundLaws.{FitSegments, length-encode_segments, read-segments, write-segments, fit-segments}
use Rattle.packed_delta.specs.Delta.{AssignmentDelta, encode_ids, encode_delta, size_delta}
use Rattle.packed_delta.specs.Delta.{decode_ids, delta_with, decode_delta, ids_from, ok_delta, starts_delta, is_delta}
use Rattle.packed_delta.specs.Answers.{front_answer, delta_read}

-- ---- ids at a place

ids-row : Row (λ l. 8) (num 8) decode_ids
unfolding decode_ids
ids-row = record { none = λ l. refl; more = λ n l. refl }

pub ids-none : (n : ℕ) (l : List ℕ) → n ≤ 0 → decode_ids n l ≡ []
ids-none = row-none ids-row

pub ids_at : (s : List ℕ) (p n : ℕ) → 0 < n → decode_ids n (drop p s) ≡ num 8 (drop p s) ∷ decode_ids (n - 1) (drop (p + 8) s)
ids_at s p n h = row_at ids-row s p n (num 8 (drop p s)) 8 h refl refl

pub length-ids_of : (n : ℕ) (l : List ℕ) → length (decode_ids n l) ≡ n
length-ids_of = length-row ids-row

-- ---- the fields fit their widths

abbrev pub FitIds : List ℕ → Type 0
FitIds [] = Unit {0}
FitIds (id ∷ ids) = (id < 256 ^ 8) × FitIds ids

pub record FitDelta (d : AssignmentDelta) : Type 0 where
  pub epoch : d.layout_epoch < 256 ^ 8
  pub lost-count : length d.lost < 256 ^ 2
  pub gained-count : length d.gained < 256 ^ 2
  pub lost : FitIds d.lost
  pub gained : FitSegments d.gained

-- ---- lengths

pub length-encode_ids : (ids : List ℕ) → length (encode_ids ids) ≡ 8 * length ids
unfolding encode_ids
length-encode_ids [] = refl
length-encode_ids (id ∷ ids) =
    length-append (bytes_of 8 id) (encode_ids ids) ∙ omega (arith, length-bytes_of 8 id, length-encode_ids ids)

pub length-encode_delta : (d : AssignmentDelta) → length (encode_delta d) ≡ size_delta d
unfolding encode_delta size_delta
length-encode_delta d = simp (length-append, length-bytes_of, length-encode_ids, length-encode_segments) (omega arith)

-- ---- encoded, then read

pub read-ids : (ids r : List ℕ) → FitIds ids → decode_ids (length ids) (encode_ids ids ++ r) ≡ ids
unfolding decode_ids num encode_ids
read-ids [] r f = refl
read-ids (id ∷ ids) r f =
    let t : List ℕ = encode_ids ids ++ r in
    ap (λ (m : List ℕ). num 8 m ∷ decode_ids (length ids) (drop 8 m)) (append_assoc (bytes_of 8 id) (encode_ids ids) r)
    ∙ ap (λ (v : ℕ). v ∷ decode_ids (length ids) (drop 8 (bytes_of 8 id ++ t))) (be-front 8 id t f.0)
    ∙ ap (λ (m : List ℕ). id ∷ decode_ids (length ids) m) (drop-front 8 id t)
    ∙ ap (λ (q : List ℕ). id ∷ q) (read-ids ids r f.1)

pub read-delta : (d : AssignmentDelta) (r : List ℕ) → FitDelta d → decode_delta (encode_delta d ++ r) ≡ d
unfolding decode_delta num encode_delta
read-delta d r f =
    let m : ℕ = length d.lost in
    let n : ℕ = length d.gained in
    let g : List ℕ = encode_segments d.gained ++ r in
    let t : List ℕ = encode_ids d.lost ++ g in
    let v : List ℕ = bytes_of 2 n ++ t in
    let u : List ℕ = bytes_of 2 m ++ v in
    let w : List ℕ = bytes_of 8 d.layout_epoch ++ u in
    let e : encode_delta d ++ r ≡ w = simp append_assoc in
    let d8 : drop 8 w ≡ u = drop-front 8 d.layout_epoch u in
    let d10 : drop 10 w ≡ v = sym (drop-drop 2 8 w) ∙ ap (drop 2) d8 ∙ drop-front 2 m v in
    let d12 : drop 12 w ≡ t = sym (drop-drop 2 10 w) ∙ ap (drop 2) d10 ∙ drop-front 2 n t in
    let dg : drop (12 + 8 * m) w ≡ g =
    sym (drop-drop (8 * m) 12 w) ∙ ap (drop (8 * m)) d12 ∙ drop_at (encode_ids d.lost) g (8 * m) (length-encode_ids d.lost) in
    let ee : be (take 8 w) ≡ d.layout_epoch = be-front 8 d.layout_epoch u f.epoch in
    let em : be (take 2 u) ≡ m = be-front 2 m v f.lost-count in
    let en : be (take 2 v) ≡ n = be-front 2 n t f.gained-count in
    let k : decode_delta w ≡ record { layout_epoch = d.layout_epoch; lost = d.lost; gained = d.gained } =
    cc (d8, d10, d12, dg, em, en, ee, read-ids d.lost g f.lost, read-segments d.gained r f.gained) in
    ap decode_delta e ∙ k

pub is-encode : (d : AssignmentDelta) → FitDelta d → ok_delta d ≡ true → is_delta (encode_delta d) ≡ true
unfolding is_delta
is-encode d f o =
    let e : decode_delta (encode_delta d) ≡ d = ap decode_delta (sym (append-nil (encode_delta d))) ∙ read-delta d [] f in
    simp (e, o, eq-eqb (size_delta d) (length (encode_delta d)) (sym (length-encode_delta d)))

-- ---- what is read fits

-- a number that is read is below the bound of its width
below : (w : ℕ) (l : List ℕ) → Bytes l → num w l < 256 ^ w
unfolding num
below w l b = be-below w (take w l) (rw length-take (omega arith)) (Bytes-take w l b)

pub fit-ids : (n : ℕ) (l : List ℕ) → Bytes l → FitIds (decode_ids n l)
unfolding decode_ids
fit-ids zero l b = tt
fit-ids (suc n) l b = (below 8 l b, fit-ids n (drop 8 l) (Bytes-drop 8 l b))

pub fit-delta : (l : List ℕ) → Bytes l → FitDelta (decode_delta l)
unfolding decode_delta
fit-delta l b =
    let m : ℕ = num 2 (drop 8 l) in
    record {
      epoch = below 8 l b;
      lost-count = rw length-ids_of (below 2 (drop 8 l) (Bytes-drop 8 l b));
      gained-count = rw length-segments_of (below 2 (drop 10 l) (Bytes-drop 10 l b));
      lost = fit-ids m (drop 12 l) (Bytes-drop 12 l b);
      gained = fit-segments (num 2 (drop 10 l)) (drop (12 + 8 * m) l) (Bytes-drop (12 + 8 * m) l b);
    }

-- ---- the parts of a delta, by its counts

module _ (l : List ℕ) (m n : ℕ) (em : m ≡ num 2 (drop 8 l)) (en : n ≡ num 2 (drop 10 l)) where
  pub by-counts : decode_delta l ≡ delta_with m n l
  unfolding decode_delta
  by-counts = cc (em, en)

  pub size_is : size_delta (decode_delta l) ≡ 12 + 8 * m + size_segments (decode_segments n (drop (12 + 8 * m) l))
  unfolding size_delta
  size_is =
      ap size_delta by-counts
      ∙ ap (λ (k : ℕ). 12 + 8 * k + size_segments (decode_segments n (drop (12 + 8 * m) l))) (length-ids_of m (drop 12 l))

  pub ok-is : ok_delta (decode_delta l) ≡ (ids_from 0 (decode_ids m (drop 12 l)) && ok_from 0 (decode_segments n (drop (12 + 8 * m) l)))
  unfolding ok_delta
  ok-is = ap ok_delta by-counts

-- ---- a walk over a delta of z bytes at the front, which loses m ids and gains n records

pub record Front (l : List ℕ) (m n z : ℕ) : Type 0 where
  pub starts : starts_delta l ≡ true
  pub size_is : z ≡ size_delta (decode_delta l)
  pub lost-is : (decode_delta l).lost ≡ decode_ids m (drop 12 l)
  pub ids-rise : ids_from 0 (decode_ids m (drop 12 l)) ≡ true
  pub gained-is : (decode_delta l).gained ≡ decode_segments n (drop (12 + 8 * m) l)
  pub records : Rest l (12 + 8 * m) n
  -- the records end where the delta ends
  pub ends : 12 + 8 * m + size_segments (decode_segments n (drop (12 + 8 * m) l)) ≡ z

pub front : (l : List ℕ) (m n z : ℕ) → m ≡ num 2 (drop 8 l) → n ≡ num 2 (drop 10 l) → z ≡ size_delta (decode_delta l) → starts_delta l ≡ true
    → Front l m n z
unfolding starts_delta
front l m n z em en ez e =
    let a = both_true (leb (size_delta (decode_delta l)) (length l)) _ e in
    let o = both_true (ids_from 0 (decode_ids m (drop 12 l))) _ (sym (ok-is l m n em en) ∙ a.1) in
    let k : size_delta (decode_delta l) ≤ length l = leb-true _ _ a.0 in
    record {
      starts = e;
      size_is = ez;
      lost-is = ap (λ (d : AssignmentDelta). d.lost) (by-counts l m n em en);
      ids-rise = o.0;
      gained-is = ap (λ (d : AssignmentDelta). d.gained) (by-counts l m n em en);
      records = record { fits = omega (arith, size_is l m n em en); ok = o.1 };
      ends = sym (size_is l m n em en) ∙ sym ez;
    }

-- what the answer of `read_front` says
pub front-answer : (l : List ℕ) (m n z : ℕ) → Some (m, n, z) ≡ front_answer l → Front l m n z
unfolding front_answer decode_delta
front-answer l m n z e =
    let p = cond_some (starts_delta l) _ _ (sym e) in
    let a : m ≡ length (decode_delta l).lost = sym (ap (λ (q : ℕ × ℕ × ℕ). q.0) p.1) in
    let b : n ≡ length (decode_delta l).gained = sym (ap (λ (q : ℕ × ℕ × ℕ). q.1) p.1) in
    let k : z ≡ size_delta (decode_delta l) = sym (ap (λ (q : ℕ × ℕ × ℕ). q.2) p.1) in
    front l m n z (a ∙ length-ids_of _ _) (b ∙ length-segments_of _ _) k p.0

pub not-front : (l : List ℕ) → None ≡ front_answer l → starts_delta l ≡ false
unfolding front_answer
not-front l e = (cond-second (starts_delta l) _ _ _ (λ q. let o : ◌≡◌ {A = ℕ} 0 1 = cc in omega arith) (sym e)).0

-- ---- a walk over a delta that is lent alone

pub record Walkable (l : List ℕ) (m n : ℕ) : Type 0 where
  pub is-delta : is_delta l ≡ true
  pub ids-fit : 12 + 8 * m ≤ length l
  pub lost-is : (decode_delta l).lost ≡ decode_ids m (drop 12 l)
  pub ids-rise : ids_from 0 (decode_ids m (drop 12 l)) ≡ true
  pub gained-is : (decode_delta l).gained ≡ decode_segments n (drop (12 + 8 * m) l)
  pub records : Rest l (12 + 8 * m) n
  -- the records end where the delta ends
  pub ends : 12 + 8 * m + size_segments (decode_segments n (drop (12 + 8 * m) l)) ≡ length l

-- it is one at the front that ends where the bytes end
pub is_front : (l : List ℕ) → is_delta l ≡ true → (starts_delta l ≡ true) × (size_delta (decode_delta l) ≡ length l)
unfolding is_delta starts_delta
is_front l e =
    let a = both_true (eqb (size_delta (decode_delta l)) (length l)) _ e in
    let z : size_delta (decode_delta l) ≡ length l = eqb-true _ _ a.0 in
    let b : leb (size_delta (decode_delta l)) (length l) ≡ true = le-leb (size_delta (decode_delta l)) (length l) (omega arith) in
    (simp (b, a.1), z)

pub walkable : (l : List ℕ) (m n : ℕ) → m ≡ num 2 (drop 8 l) → n ≡ num 2 (drop 10 l) → is_delta l ≡ true → Walkable l m n
walkable l m n em en e =
    let a = is_front l e in
    let f : Front l m n (length l) = front l m n (length l) em en (sym a.1) a.0 in
    record {
      is-delta = e;
      ids-fit = omega (arith, f.ends);
      lost-is = f.lost-is;
      ids-rise = f.ids-rise;
      gained-is = f.gained-is;
      records = f.records;
      ends = f.ends;
    }

-- what the answer of `read_delta` says
pub walk-read : (l : List ℕ) (m n : ℕ) → Some (m, n) ≡ delta_read l → Walkable l m n
unfolding delta_read decode_delta
walk-read l m n e =
    let p = cond_some (is_delta l) _ _ (sym e) in
    let a : m ≡ length (decode_delta l).lost = sym (ap (λ (q : ℕ × ℕ). q.0) p.1) in
    let b : n ≡ length (decode_delta l).gained = sym (ap (λ (q : ℕ × ℕ). q.1) p.1) in
    walkable l m n (a ∙ length-ids_of _ _) (b ∙ length-segments_of _ _) p.0

pub not-delta : (l : List ℕ) → None ≡ delta_read l → is_delta l ≡ false
unfolding delta_read
not-delta l e = (cond-second (is_delta l) _ _ _ (λ q. let o : ◌≡◌ {A = ℕ} 0 1 = cc in omega arith) (sym e)).0

-- ---- read, then encoded

-- the number at a place written again, and what follows it
write-num : (w at : ℕ) (l : List ℕ) → at + w ≤ length l → Bytes l → bytes_of w (num w (drop at l)) ++ drop (at + w) l ≡ drop at l
unfolding num
write-num w at l h b =
    ap (λ (q : List ℕ). q ++ drop (at + w) l) (bytes_of-front w (drop at l) (rw length-drop (omega arith)) (Bytes-drop at l b))
    ∙ ap (λ (q : List ℕ). take w (drop at l) ++ q) (sym (drop-drop w at l))
    ∙ take-append-drop w (drop at l)

write-ids : (n at : ℕ) (l : List ℕ) → at + 8 * n ≤ length l → Bytes l → encode_ids (decode_ids n (drop at l)) ++ drop (at + 8 * n) l ≡ drop at l
unfolding encode_ids decode_ids
write-ids zero at l h b = ap (λ (k : ℕ). drop k l) (add-zero at)
write-ids (suc n) at l h b =
    let i : List ℕ = bytes_of 8 (num 8 (drop at l)) in
    let e : at + 8 * suc n ≡ at + 8 + 8 * n = omega arith in
    append_assoc i (encode_ids (decode_ids n (drop 8 (drop at l)))) (drop (at + 8 * suc n) l)
    ∙ ap (λ (k : ℕ). i ++ (encode_ids (decode_ids n (drop 8 (drop at l))) ++ drop k l)) e
    ∙ ap (λ (q : List ℕ). i ++ (encode_ids (decode_ids n q) ++ drop (at + 8 + 8 * n) l)) (drop-drop 8 at l)
    ∙ ap (λ (q : List ℕ). i ++ q) (write-ids n (at + 8) l (omega arith) b)
    ∙ write-num 8 at l (omega arith) b

-- a delta is the encoding of what it is read as
pub write-delta : (l : List ℕ) → Bytes l → is_delta l ≡ true → encode_delta (decode_delta l) ≡ l
unfolding encode_delta decode_delta
write-delta l b h =
    let m : ℕ = num 2 (drop 8 l) in
    let n : ℕ = num 2 (drop 10 l) in
    let p : ℕ = 12 + 8 * m in
    let x : Walkable l m n = walkable l m n refl refl h in
    let z : ℕ = size_segments (decode_segments n (drop p l)) in
    let e : p + z ≡ length l = x.ends in
    let q : length (drop p l) ≡ z = length-drop p l ∙ omega arith in
    let g : encode_segments (decode_segments n (drop p l)) ≡ drop p l =
    write-segments n (drop p l) (omega arith) (Bytes-drop p l b) ∙ take_all z (drop p l) (omega arith) in
    let i : encode_ids (decode_ids m (drop 12 l)) ++ drop p l ≡ drop 12 l = write-ids m 12 l (omega arith) b in
    let c10 : bytes_of 2 n ++ drop 12 l ≡ drop 10 l = write-num 2 10 l (omega arith) b in
    let c8 : bytes_of 2 m ++ drop 10 l ≡ drop 8 l = write-num 2 8 l (omega arith) b in
    let c0 : bytes_of 8 (num 8 l) ++ drop 8 l ≡ l = write-num 8 0 l (omega arith) b in
    cc (g, i, c10, c8, c0, length-ids_of m (drop 12 l), length-segments_of n (drop p l))
