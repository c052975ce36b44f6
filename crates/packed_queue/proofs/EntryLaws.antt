-- Entries and bytes correspond.
--
-- In order: lists that can be packed (`Packable`); how long entries are (`length-encode_entry` to `size-most`), and one more (`encode_snoc`); an entry that was written
-- is read back, whatever follows it (`entry-end` to `starts-entry`); so are entries in a row (`Row`: `row-none` to `row-start`), and one of their lists (`row-sheet`).
-- Assumes nothing.
use Prim.Native.Nat.{ℕ, zero, suc, ◌+◌, ◌-◌, ◌*◌, ◌≤◌, ◌<◌}
use native.Mathlib.Nat.{suc-mul}
use native.Mathlib.Omega.{arith}
use mathlib.Core.Path.{◌≡◌, refl, sym, ap, ap₂, ◌∙◌}
use mathlib.Core.Bool.{true, ◌&&◌}
use mathlib.Core.List.{List, [], ◌∷◌, ◌++◌, append_assoc, append-nil}
use lib.ListN.{length, take, drop, get_or, length-append}
use lib.Seq.{take_at, drop_at, drop-append-add, take-append-add}
use borrow.Author.Tests.{le-leb, leb-true, eq-eqb}
use Rattle.slice.specs.BoolLaws.{both_true}
use Rattle.slice_int.specs.Be.{bytes_of}
use Rattle.slice_int.proofs.BeLaws.{length-bytes_of, be-front, drop-front}
use Rattle.packed.specs.Assignment.{ConsumerAssignment, slot_size, num, encode_assignment, size_assignment, decode_assignment, ok_assignment, starts_assignment, is_assignment}
use Rattle.packed.proofs.RoundLaws.{FitAssignment, length-encode_assignment, read-assignment, starts-encode}
use Rattle.keyed.proofs.EachLaws.{Each, each_take}
use Rattle.packed_queue.specs.Entries.{encode_entry, encode_entries, size_entry, size_entries, sheet_in, entry_end, decode_entries, starts_entry, start_entries}

-- ---- lists that can be packed

pub record Packable (a : ConsumerAssignment) : Type 0 where
  pub fits : FitAssignment a
  pub ok : ok_assignment a ≡ true

pub size_ok : (a : ConsumerAssignment) → ok_assignment a ≡ true → size_assignment a ≤ 2048
unfolding ok_assignment
size_ok a o = leb-true _ _ (both_true _ _ o).0

pub packable-size : (a : ConsumerAssignment) → Packable a → size_assignment a ≤ 2048
packable-size a p = size_ok a p.ok

-- ---- lengths

pub length-encode_entry : (a : ConsumerAssignment) → length (encode_entry a) ≡ size_entry a
unfolding encode_entry
length-encode_entry a = length-append (bytes_of 2 (size_assignment a)) (encode_assignment a) ∙ ap₂ ◌+◌ (length-bytes_of 2 (size_assignment a)) (length-encode_assignment a)

pub length-encode_entries : (q : List ConsumerAssignment) → length (encode_entries q) ≡ size_entries q
unfolding encode_entries size_entries
length-encode_entries [] = refl
length-encode_entries (a ∷ q) = length-append (encode_entry a) (encode_entries q) ∙ ap₂ ◌+◌ (length-encode_entry a) (length-encode_entries q)

pub length-entries_of : (n : ℕ) (l : List ℕ) → length (decode_entries n l) ≡ n
unfolding decode_entries
length-entries_of zero l = refl
length-entries_of (suc n) l = ap suc (length-entries_of n (drop (entry_end l) l))

-- entries whose lists have at most so many bytes
pub size-most : (room : ℕ) (q : List ConsumerAssignment) → Each (λ a. size_assignment a ≤ room) q → size_entries q ≤ length q * (2 + room)
unfolding size_entries
size-most room [] h = omega arith
size-most room (a ∷ q) h = omega (arith, h.0, size-most room q h.1, suc-mul (length q) (2 + room))

pub encode_snoc : (q : List ConsumerAssignment) (a : ConsumerAssignment) → encode_entries (q ++ (a ∷ [])) ≡ encode_entries q ++ encode_entry a
unfolding encode_entries
encode_snoc [] a = append-nil (encode_entry a)
encode_snoc (b ∷ q) a = ap (encode_entry b ++◌) (encode_snoc q a) ∙ sym (append_assoc (encode_entry b) (encode_entries q) (encode_entry a))

-- ---- an entry at the front

module _ (a : ConsumerAssignment) (p : Packable a) (l : List ℕ) where
  short : size_assignment a < 65536
  short = omega (arith, packable-size a p)

  split : encode_entry a ++ l ≡ bytes_of 2 (size_assignment a) ++ (encode_assignment a ++ l)
  unfolding encode_entry
  split = append_assoc (bytes_of 2 (size_assignment a)) (encode_assignment a) l

  entry_length : num 2 (encode_entry a ++ l) ≡ size_assignment a
  unfolding num
  entry_length = ap (num 2) split ∙ be-front 2 (size_assignment a) (encode_assignment a ++ l) short

  behind : drop 2 (encode_entry a ++ l) ≡ encode_assignment a ++ l
  behind = ap (drop 2) split ∙ drop-front 2 (size_assignment a) (encode_assignment a ++ l)

  pub entry-end : entry_end (encode_entry a ++ l) ≡ size_entry a
  entry-end = ap (2 +◌) entry_length

  pub entry-sheet : sheet_in (encode_entry a ++ l) ≡ encode_assignment a
  unfolding sheet_in
  entry-sheet =
      ap (λ n. take n (drop 2 (encode_entry a ++ l))) entry_length ∙ ap (take (size_assignment a)) behind
      ∙ take_at (encode_assignment a) l (size_assignment a) (length-encode_assignment a)

  pub entry-list : decode_assignment (sheet_in (encode_entry a ++ l)) ≡ a
  entry-list = ap decode_assignment (entry-sheet ∙ sym (append-nil (encode_assignment a))) ∙ read-assignment a [] p.fits

  pub entry-rest : drop (entry_end (encode_entry a ++ l)) (encode_entry a ++ l) ≡ l
  entry-rest = ap (λ n. drop n (encode_entry a ++ l)) entry-end ∙ drop_at (encode_entry a) l (size_entry a) (length-encode_entry a)

  whole : is_assignment (encode_assignment a) ≡ true
  unfolding is_assignment
  whole =
      let e : encode_assignment a ++ [] ≡ encode_assignment a = append-nil (encode_assignment a) in
      let s : starts_assignment (encode_assignment a) ≡ true = ap starts_assignment (sym e) ∙ starts-encode a [] p.fits p.ok in
      let r : decode_assignment (encode_assignment a) ≡ a = ap decode_assignment (sym e) ∙ read-assignment a [] p.fits in
      simp (s, r, eq-eqb (size_assignment a) (length (encode_assignment a)) (sym (length-encode_assignment a)))

  pub starts-entry : starts_entry (encode_entry a ++ l) ≡ true
  unfolding starts_entry
  starts-entry =
      let k : size_entry a ≤ length (encode_entry a ++ l) = rw length-append (omega (arith, length-encode_entry a)) in
      simp (entry-end, le-leb (size_entry a) (length (encode_entry a ++ l)) k, entry-sheet, whole)

-- ---- entries in a row

-- the bytes l start with the entries of q
pub record Row (q : List ConsumerAssignment) (l : List ℕ) : Type 0 where
  pub rest : List ℕ
  pub is : l ≡ encode_entries q ++ rest
  pub packable : Each Packable q

pub row-none : (l : List ℕ) → Row [] l
unfolding encode_entries
row-none l = record { rest = l; is = refl; packable = tt }

front : (a : ConsumerAssignment) (q : List ConsumerAssignment) (r : List ℕ) → encode_entries (a ∷ q) ++ r ≡ encode_entry a ++ (encode_entries q ++ r)
unfolding encode_entries
front a q r = append_assoc (encode_entry a) (encode_entries q) r

encode-split : (m : ℕ) (q : List ConsumerAssignment) → encode_entries q ≡ encode_entries (take m q) ++ encode_entries (drop m q)
unfolding encode_entries
encode-split zero q = refl
encode-split (suc m) [] = refl
encode-split (suc m) (a ∷ q) =
    ap (encode_entry a ++◌) (encode-split m q) ∙ sym (append_assoc (encode_entry a) (encode_entries (take m q)) (encode_entries (drop m q)))

-- the first m of them
pub row-front : (q : List ConsumerAssignment) (l : List ℕ) → Row q l → (m : ℕ) → Row (take m q) l
row-front q l w m =
    record {
      rest = encode_entries (drop m q) ++ w.rest;
      is = w.is ∙ ap (◌++ w.rest) (encode-split m q) ∙ append_assoc (encode_entries (take m q)) (encode_entries (drop m q)) w.rest;
      packable = each_take Packable m q w.packable;
    }

-- they are read, or the first m of them
read-row : (m : ℕ) (q : List ConsumerAssignment) (r : List ℕ) → Each Packable q → m ≤ length q → decode_entries m (encode_entries q ++ r) ≡ take m q
unfolding decode_entries
read-row zero q r p h = refl
read-row (suc m) [] r p h = absurd (omega arith)
read-row (suc m) (a ∷ q) r p h =
    ap (decode_entries (suc m)) (front a q r)
    ∙ ap₂ ◌∷◌ (entry-list a p.0 (encode_entries q ++ r))
    (ap (decode_entries m) (entry-rest a p.0 (encode_entries q ++ r)) ∙ read-row m q r p.1 (omega arith))

start-row : (m : ℕ) (q : List ConsumerAssignment) (r : List ℕ) → Each Packable q → m ≤ length q → start_entries m (encode_entries q ++ r) ≡ true
unfolding start_entries
start-row zero q r p h = refl
start-row (suc m) [] r p h = absurd (omega arith)
start-row (suc m) (a ∷ q) r p h =
    ap (start_entries (suc m)) (front a q r)
    ∙ ap₂ ◌&&◌ (starts-entry a p.0 (encode_entries q ++ r))
    (ap (start_entries m) (entry-rest a p.0 (encode_entries q ++ r)) ∙ start-row m q r p.1 (omega arith))

-- a list, where its bytes begin: whatever follows it in the 2,048 bytes of the longest list
sheet-read : (a : ConsumerAssignment) (l : List ℕ) → Packable a → decode_assignment (take slot_size (encode_assignment a ++ l)) ≡ a
sheet-read a l p =
    let e : length (encode_assignment a) ≡ size_assignment a = length-encode_assignment a in
    let n : ℕ = slot_size - size_assignment a in
    let f : slot_size ≡ length (encode_assignment a) + n = omega (arith, packable-size a p) in
    ap (λ m. decode_assignment (take m (encode_assignment a ++ l))) f ∙ ap decode_assignment (take-append-add (encode_assignment a) l n)
    ∙ read-assignment a (take n l) p.fits

sheet-row : (i : ℕ) (q : List ConsumerAssignment) (r : List ℕ) (z : ConsumerAssignment) → Each Packable q → i < length q
    → decode_assignment (take slot_size (drop (size_entries (take i q) + 2) (encode_entries q ++ r))) ≡ get_or q i z
unfolding size_entries
sheet-row i [] r z p h = absurd (omega arith)
sheet-row zero (a ∷ q) r z p h =
    ap (λ x. decode_assignment (take slot_size (drop 2 x))) (front a q r) ∙ ap (λ x. decode_assignment (take slot_size x)) (behind a p.0 (encode_entries q ++ r))
    ∙ sheet-read a (encode_entries q ++ r) p.0
sheet-row (suc i) (a ∷ q) r z p h =
    let e : length (encode_entry a) ≡ size_entry a = length-encode_entry a in
    let m : ℕ = size_entries (take i q) + 2 in
    let f : size_entry a + size_entries (take i q) + 2 ≡ length (encode_entry a) + m = omega arith in
    ap (λ x. decode_assignment (take slot_size (drop (size_entry a + size_entries (take i q) + 2) x))) (front a q r)
    ∙ ap (λ k. decode_assignment (take slot_size (drop k (encode_entry a ++ (encode_entries q ++ r))))) f
    ∙ ap (λ x. decode_assignment (take slot_size x)) (drop-append-add (encode_entry a) (encode_entries q ++ r) m)
    ∙ sheet-row i q r z p.1 (omega arith)

pub row-sheet : (q : List ConsumerAssignment) (l : List ℕ) → Row q l → (i : ℕ) (z : ConsumerAssignment) → i < length q
    → decode_assignment (take slot_size (drop (size_entries (take i q) + 2) l)) ≡ get_or q i z
row-sheet q l w i z h =
    ap (λ x. decode_assignment (take slot_size (drop (size_entries (take i q) + 2) x))) w.is ∙ sheet-row i q w.rest z w.packable h

module _ (q : List ConsumerAssignment) (l : List ℕ) (w : Row q l) (m : ℕ) (h : m ≤ length q) where
  pub row_read : decode_entries m l ≡ take m q
  row_read = ap (decode_entries m) w.is ∙ read-row m q w.rest w.packable h

  pub row-start : start_entries m l ≡ true
  row-start = ap (start_entries m) w.is ∙ start-row m q w.rest w.packable h
