-- Entries where they lie, from place to place.
--
-- In order: the entry at a place, by its length (`entry-none` to `entry-not`); what its size says (`size_none`, `size-some`); a walk over entries, by what is left of
-- it (`Walk`: `walk_start` to `walk-done`), and what its answer says (`read-there`, `read-not`); where entries end (`ends-inside`), which is what their lists need
-- (`ends-by-size`); entries in two parts (`ends-split` to `entries-take`), and one of them (`start-at`).
-- Assumes nothing.
use Rattle.std.specs.Prelude.{Some, None}
use Prim.Native.Nat.{ℕ, zero, suc, ◌+◌, ◌-◌, ◌≤◌, ◌<◌}
use native.Mathlib.Nat.{add-sub_cancel_left}
use native.Mathlib.Omega.{arith}
use mathlib.Core.Path.{◌≡◌, refl, sym, ap, ap₂, ◌∙◌}
use mathlib.Core.Bool.{Bool, true, false, ◌&&◌}
use mathlib.Core.List.{List, ◌∷◌}
use lib.ListN.{length, take, drop, length-drop}
use lib.Seq.{drop-drop, length-take-le}
use lib.Dec.{leb}
use borrow.Author.Tests.{le-leb, lt-leb, leb-true, eqb-true}
use Rattle.slice.specs.BoolLaws.{both_true}
use Rattle.slice.proofs.TestLaws.{cond-first, cond-second}
use Rattle.slice_int.specs.Be.{be_at}
use Rattle.packed.specs.Assignment.{num, decode_assignment, size_assignment, starts_assignment, is_assignment}
use Rattle.packed_queue.specs.Entries.{size_entries, sheet_in, entry_end, decode_entries, entries_end, starts_entry, start_entries}
use Rattle.packed_queue.specs.Answers.{entry_size, entries_read}

-- ---- the entry at a place

module _ (s : List ℕ) (at : ℕ) (h : at ≤ length s) where
  left : length (drop at s) ≡ length s - at
  left = length-drop at s

  pub entry-none : length s - at < 2 → 0 ≡ entry_size (drop at s)
  unfolding entry_size starts_entry
  entry-none k =
      let e : leb (entry_end (drop at s)) (length (drop at s)) ≡ false =
      lt-leb (entry_end (drop at s)) (length (drop at s)) (omega (arith, left)) in
      simp e

  module _ (len : ℕ) (e : len ≡ be_at 2 s at) where
    place-length : len ≡ num 2 (drop at s)
    unfolding num be_at
    place-length = e

    pub entry-cut : at + 2 ≤ length s → length s - (at + 2) < len → 0 ≡ entry_size (drop at s)
    unfolding entry_size starts_entry
    entry-cut r k =
        let g : leb (entry_end (drop at s)) (length (drop at s)) ≡ false =
        lt-leb (entry_end (drop at s)) (length (drop at s)) (omega (arith, left, place-length)) in
        simp g

    module _ (r : at + 2 + len ≤ length s) where
      sheet : take (at + 2 + len - (at + 2)) (drop (at + 2) s) ≡ sheet_in (drop at s)
      unfolding sheet_in
      sheet =
          ap (λ n. take n (drop (at + 2) s)) (add-sub_cancel_left (at + 2) len ∙ place-length)
          ∙ ap (take (num 2 (drop at s))) (sym (drop-drop 2 at s))

      fits : leb (entry_end (drop at s)) (length (drop at s)) ≡ true
      fits = le-leb (entry_end (drop at s)) (length (drop at s)) (omega (arith, left, place-length))

      module _ {t : Bool} (f : t ≡ is_assignment (take (at + 2 + len - (at + 2)) (drop (at + 2) s))) where
        pub entry-told : t ≡ true → 2 + len ≡ entry_size (drop at s)
        unfolding entry_size starts_entry
        entry-told k =
            let g : is_assignment (sheet_in (drop at s)) ≡ true = ap is_assignment (sym sheet) ∙ sym f ∙ k in
            ap (2 +◌) place-length ∙ sym (simp (fits, g))

        pub entry-not : t ≡ false → 0 ≡ entry_size (drop at s)
        unfolding entry_size starts_entry
        entry-not k =
            let g : is_assignment (sheet_in (drop at s)) ≡ false = ap is_assignment (sym sheet) ∙ sym f ∙ k in sym (simp (fits, g))

-- ---- what an entry's size says

pub size_none : (l : List ℕ) → entry_size l ≡ 0 → starts_entry l ≡ false
unfolding entry_size
size_none l e = go (starts_entry l) refl
  where
    go : (t : Bool) → starts_entry l ≡ t → starts_entry l ≡ false
    go false h = h
    go true h = let f : entry_end l ≡ 0 = sym (rw h refl) ∙ e in absurd (omega arith)

pub size-some : (l : List ℕ) → (entry_size l ≡ 0 → ⊥) → (starts_entry l ≡ true) × (entry_size l ≡ entry_end l)
unfolding entry_size
size-some l e = go (starts_entry l) refl
  where
    go : (t : Bool) → starts_entry l ≡ t → (starts_entry l ≡ true) × (entry_size l ≡ entry_end l)
    go true h = (h, rw h refl)
    go false h = absurd (e (rw h refl))

pub entry-inside : (l : List ℕ) → starts_entry l ≡ true → entry_end l ≤ length l
unfolding starts_entry
entry-inside l e = leb-true _ _ (both_true (leb (entry_end l) (length l)) _ e).0

pub entry_whole : (l : List ℕ) → starts_entry l ≡ true → is_assignment (sheet_in l) ≡ true
unfolding starts_entry
entry_whole l e = (both_true (leb (entry_end l) (length l)) _ e).1

-- ---- a walk

step_start : (n : ℕ) (l : List ℕ) → 0 < n → start_entries n l ≡ (starts_entry l && start_entries (n - 1) (drop (entry_end l) l))
unfolding start_entries
step_start zero l h = absurd (omega arith)
step_start (suc n) l h = let e : suc n - 1 ≡ n = omega arith in rw e refl

step_end : (n : ℕ) (l : List ℕ) → 0 < n → entries_end n l ≡ entry_end l + entries_end (n - 1) (drop (entry_end l) l)
unfolding entries_end
step_end zero l h = absurd (omega arith)
step_end (suc n) l h = let e : suc n - 1 ≡ n = omega arith in rw e refl

-- of n entries some are left from a place on, and they decide
pub record Walk (s : List ℕ) (n at left : ℕ) : Type 0 where
  pub inside : at ≤ length s
  pub starts : start_entries n s ≡ start_entries left (drop at s)
  pub ends : entries_end n s ≡ at + entries_end left (drop at s)

pub walk_start : (s : List ℕ) (n : ℕ) → Walk s n 0 n
walk_start s n = record { inside = omega arith; starts = refl; ends = omega arith }

module _ (s : List ℕ) (n at left : ℕ) (w : Walk s n at left) where
  module _ (h : 0 < left) where
    pub walk-bad : starts_entry (drop at s) ≡ false → None ≡ entries_read n s
    unfolding entries_read
    walk-bad e = sym (simp (w.starts, step_start left (drop at s) h, e))

    pub walk-on : starts_entry (drop at s) ≡ true → Walk s n (at + entry_end (drop at s)) (left - 1)
    walk-on e =
        let d = entry_end (drop at s) in
        let b : drop d (drop at s) ≡ drop (at + d) s = drop-drop d at s in
        record {
          inside = omega (arith, entry-inside (drop at s) e, length-drop at s, w.inside);
          starts = w.starts ∙ step_start left (drop at s) h ∙ simp (e, b);
          ends = w.ends ∙ ap (at +◌) (step_end left (drop at s) h ∙ ap (λ l. d + entries_end (left - 1) l) b) ∙ omega arith;
        }

  module _ (h : left ≤ 0) where
    none : left ≡ 0
    none = omega arith

    walk_ends : at ≡ entries_end n s
    unfolding entries_end
    walk_ends = sym (w.ends ∙ ap (λ m. at + entries_end m (drop at s)) none ∙ omega arith)

    pub walk-done : Some at ≡ entries_read n s
    unfolding entries_read start_entries
    walk-done =
        let e : start_entries n s ≡ true = w.starts ∙ ap (λ m. start_entries m (drop at s)) none in
        ap Some walk_ends ∙ sym (simp e)

-- ---- what the answer of `read_entries` says

pub read-there : (n : ℕ) (l : List ℕ) (size : ℕ) → Some size ≡ entries_read n l → (start_entries n l ≡ true) × (size ≡ entries_end n l)
unfolding entries_read
read-there n l size e =
    let p = cond-first (start_entries n l) _ _ _ (λ q. let o : ◌≡◌ {A = ℕ} 0 1 = cc in omega arith) (sym e) in
    let f = p.1 in
    (p.0, cc)

pub read-not : (n : ℕ) (l : List ℕ) → None ≡ entries_read n l → start_entries n l ≡ false
unfolding entries_read
read-not n l e = (cond-second (start_entries n l) _ _ _ (λ q. let o : ◌≡◌ {A = ℕ} 0 1 = cc in omega arith) (sym e)).0

-- ---- where entries end

pub ends-inside : (n : ℕ) (l : List ℕ) → start_entries n l ≡ true → entries_end n l ≤ length l
unfolding start_entries entries_end
ends-inside zero l e = omega arith
ends-inside (suc n) l e =
    let p = both_true (starts_entry l) _ e in
    omega (arith, entry-inside l p.0, ends-inside n (drop (entry_end l) l) p.1, length-drop (entry_end l) l)

-- a sheet that fills its length has that size
pub sheet-size : (l : List ℕ) → starts_entry l ≡ true → size_assignment (decode_assignment (sheet_in l)) ≡ num 2 l
unfolding sheet_in is_assignment
sheet-size l e =
    let f : length (sheet_in l) ≡ num 2 l =
    length-take-le (num 2 l) (drop 2 l) (omega (arith, entry-inside l e, length-drop 2 l)) in
    eqb-true _ _ (both_true (starts_assignment (sheet_in l)) _ (entry_whole l e)).1 ∙ f

pub ends-by-size : (n : ℕ) (l : List ℕ) → start_entries n l ≡ true → size_entries (decode_entries n l) ≡ entries_end n l
unfolding start_entries entries_end decode_entries size_entries
ends-by-size zero l e = refl
ends-by-size (suc n) l e =
    let p = both_true (starts_entry l) _ e in
    ap₂ ◌+◌ (ap (2 +◌) (sheet-size l p.0)) (ends-by-size n (drop (entry_end l) l) p.1)

-- ---- entries in two parts

pub ends-split : (k n : ℕ) (l : List ℕ) → entries_end (k + n) l ≡ entries_end k l + entries_end n (drop (entries_end k l) l)
unfolding entries_end
ends-split zero n l = let e : 0 + n ≡ n = omega arith in rw e (omega arith)
ends-split (suc k) n l =
    let e : suc k + n ≡ suc (k + n) = omega arith in
    let m = drop (entry_end l) l in
    rw e
    (ap (entry_end l +◌) (ends-split k n m ∙ ap (λ x. entries_end k m + entries_end n x) (drop-drop (entries_end k m) (entry_end l) l)) ∙ omega arith)

pub start-split : (k n : ℕ) (l : List ℕ) → start_entries (k + n) l ≡ true → (start_entries k l ≡ true) × (start_entries n (drop (entries_end k l) l) ≡ true)
unfolding start_entries entries_end
start-split zero n l h = let e : 0 + n ≡ n = omega arith in (refl, ap (λ m. start_entries m l) (sym e) ∙ h)
start-split (suc k) n l h =
    let e : suc k + n ≡ suc (k + n) = omega arith in
    let m = drop (entry_end l) l in
    let p = both_true (starts_entry l) (start_entries (k + n) m) (ap (λ x. start_entries x l) (sym e) ∙ h) in
    let q = start-split k n m p.1 in
    (simp (p.0, q.0), ap (start_entries n) (sym (drop-drop (entries_end k m) (entry_end l) l)) ∙ q.1)

-- the first of them
pub entries-take : (m n : ℕ) (l : List ℕ) → m ≤ n → take m (decode_entries n l) ≡ decode_entries m l
unfolding decode_entries
entries-take zero n l h = refl
entries-take (suc m) zero l h = absurd (omega arith)
entries-take (suc m) (suc n) l h = ap (decode_assignment (sheet_in l) ∷◌) (entries-take m n (drop (entry_end l) l) (omega arith))

-- ---- one of them

pub start-at : (n k : ℕ) (l : List ℕ) → start_entries n l ≡ true → k < n → starts_entry (drop (entries_end k l) l) ≡ true
unfolding start_entries
start-at n k l h i =
    let e : n ≡ k + suc (n - k - 1) = omega arith in
    (both_true _ _ (start-split k (suc (n - k - 1)) l (ap (λ x. start_entries x l) (sym e) ∙ h)).1).0
