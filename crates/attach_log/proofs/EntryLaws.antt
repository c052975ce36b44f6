-- Laws of the entries of a part.
--
-- In order: filling bits (`clear-set`, `clear-further`, `clear_none`); the entry at a place among others (`has-at`).
-- Assumes nothing.
use Prim.Native.Nat.{ℕ, zero, suc, ◌+◌, ◌-◌, ◌*◌, ◌%◌, ◌^◌, ◌≤◌, ◌<◌}
use native.Mathlib.Nat.{not-suc-le-zero}
use native.Mathlib.Omega.{arith}
use mathlib.Core.Path.{◌≡◌, refl, sym, ap, ◌∙◌}
use mathlib.Core.Bool.{Bool, true, false, ◌&&◌}
use mathlib.Core.List.{List, ◌∷◌}
use lib.ListN.{length, drop, get_or}
use lib.Seq.{drop-drop}
use lib.Dec.{eqb}
use borrow.Author.Tests.{eq-eqb, ne_eqb}
use Rattle.slice_int.specs.Be.{be_at}
use Rattle.attach_entries.specs.declared.Entry.{Entry}
use Rattle.attach_entries.specs.Log.{entry_of, entries_in, clear_in}
use Rattle.attach_entries.specs.Follows.{same_entry, has_entry}
use Rattle.attach_entries.proofs.PassLaws.{has-found, has-further}
use Rattle.attach_rows.proofs.EntryLaws.{entry-number}

-- ---- filling bits

clear_step : (n : ℕ) (l : List ℕ) → 0 < n → clear_in n l ≡ (eqb (be_at 9 l 0 % 2 ^ 7) 0 && clear_in (n - 1) (drop 9 l))
unfolding clear_in
clear_step zero l h = absurd (not-suc-le-zero h)
clear_step (suc n) l h =
    let e : n ≡ suc n - 1 = omega arith in
    ap (λ (k : ℕ). eqb (be_at 9 l 0 % 2 ^ 7) 0 && clear_in k (drop 9 l)) e

module _ (s : List ℕ) (p n : ℕ) (h : p + 9 ≤ length s) (k : 0 < n) (b : ℕ) (e : b ≡ get_or s (p + 8) 0) where
  low_bits : be_at 9 (drop p s) 0 % 2 ^ 7 ≡ b % 128
  low_bits = omega (arith, entry-number s p h)

  pub clear-set : (b % 128 ≡ 0 → ⊥) → clear_in n (drop p s) ≡ false
  clear-set g = clear_step n (drop p s) k ∙ simp (low_bits, ne_eqb (b % 128) 0 g)

  pub clear-further : b % 128 ≡ 0 → clear_in n (drop p s) ≡ clear_in (n - 1) (drop (p + 9) s)
  clear-further g = clear_step n (drop p s) k ∙ simp (low_bits, eq-eqb (b % 128) 0 g, drop-drop 9 p s)

pub clear_none : (n : ℕ) (l : List ℕ) → n ≤ 0 → clear_in n l ≡ true
unfolding clear_in
clear_none n l h = let e : n ≡ 0 = omega arith in ap (λ (k : ℕ). clear_in k l) e

-- ---- an entry at its place

-- the entry at a place is one of them
pub has-at : (e : Entry) (i n : ℕ) (l : List ℕ) → i < n → same_entry (entry_of (drop (9 * i) l)) e ≡ true
    → has_entry e (entries_in n l) ≡ true
unfolding entries_in
has-at e i zero l h k = absurd (not-suc-le-zero h)
has-at e zero (suc n) l h k = has-found e (entry_of l) (entries_in n (drop 9 l)) k
has-at e (suc i) (suc n) l h k =
    let f : 9 * suc i ≡ 9 + 9 * i = omega arith in
    let j : same_entry (entry_of (drop (9 * i) (drop 9 l))) e ≡ true =
    ap (λ (t : List ℕ). same_entry (entry_of t) e) (drop-drop (9 * i) 9 l)
    ∙ ap (λ (m : ℕ). same_entry (entry_of (drop m l)) e) (sym f) ∙ k in
    go (same_entry (entry_of l) e) refl (has-at e i n (drop 9 l) (omega arith) j)
  where
    go : (t : Bool) → same_entry (entry_of l) e ≡ t → has_entry e (entries_in n (drop 9 l)) ≡ true
        → has_entry e (entry_of l ∷ entries_in n (drop 9 l)) ≡ true
    go true q r = has-found e (entry_of l) (entries_in n (drop 9 l)) q
    go false q r = has-further e (entry_of l) (entries_in n (drop 9 l)) q ∙ r
