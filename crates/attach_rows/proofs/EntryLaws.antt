-- Laws of entries read where they lie.
--
-- In order: entries at a place (`entries-row`, `drop-entries`); an
-- entry by its numbers (`entry-number`, `entry-low`, `entry-high`); two entries compared (`same-detaches` to
-- `attach-detach`).
-- Assumes nothing.
use Prim.Native.Nat.{ℕ, zero, suc, ◌+◌, ◌-◌, ◌*◌, ◌/◌, ◌%◌, ◌^◌, ◌≤◌, ◌<◌}
use native.Mathlib.Nat.{not-suc-le-zero}
use native.Mathlib.Omega.{arith}
use mathlib.Core.Path.{◌≡◌, refl, sym, ap, ◌∙◌}
use mathlib.Core.Bool.{false}
use mathlib.Core.List.{List}
use lib.ListN.{length, drop, get_or}
use lib.Seq.{drop-drop}
use lib.Dec.{eqb}
use Rattle.slice_int.specs.Be.{be_at}
use Rattle.slice_int.proofs.BeLaws.{be-at-one, be-at-add}
pub use Rattle.slice_int.proofs.RowLaws.{Row, row-none, row_at, length-row, take_row}
use Rattle.attach_entries.specs.declared.Entry.{Entry}
use Rattle.attach_entries.specs.declared.Entry.TheVariants.{Detach, Attach}
use Rattle.attach_entries.specs.Log.{entry_with, entry_of, entries_in}
use Rattle.attach_entries.specs.Follows.{same_entry}

-- ---- entries at a place

pub entries-row : Row (λ l. 9) entry_of entries_in
unfolding entries_in
entries-row = record { none = λ l. refl; more = λ n l. refl }

pub drop-entries : (k n : ℕ) (l : List ℕ) → k ≤ n → drop k (entries_in n l) ≡ entries_in (n - k) (drop (9 * k) l)
unfolding entries_in
drop-entries zero n l h = let e : n ≡ n - 0 = omega arith in ap (λ (m : ℕ). entries_in m l) e
drop-entries (suc k) zero l h = absurd (not-suc-le-zero h)
drop-entries (suc k) (suc n) l h =
    let e : n - k ≡ suc n - suc k = omega arith in
    let f : 9 + 9 * k ≡ 9 * suc k = omega arith in
    drop-entries k n (drop 9 l) (omega arith)
    ∙ ap (λ (t : List ℕ). entries_in (n - k) t) (drop-drop (9 * k) 9 l)
    ∙ ap (λ (m : ℕ). entries_in m (drop (9 + 9 * k) l)) e
    ∙ ap (λ (m : ℕ). entries_in (suc n - suc k) (drop m l)) f

-- ---- an entry by its numbers

module _ (s : List ℕ) (at : ℕ) (h : at + 9 ≤ length s) where
  pub entry-number : be_at 9 (drop at s) 0 ≡ be_at 8 s at * 256 + get_or s (at + 8) 0
  unfolding be_at
  entry-number =
      let e : be_at 9 s at ≡ be_at 8 s at * 256 ^ 1 + be_at 1 s (at + 8) = be-at-add 8 1 s at (omega arith) in
      e ∙ ap (λ (x : ℕ). be_at 8 s at * 256 + x) (be-at-one s (at + 8) (omega arith))

  module _ (high low : ℕ) (eh : high ≡ be_at 8 s at) (el : low ≡ get_or s (at + 8) 0) (fh : high < 2 ^ 64) (fl : low < 256) where
    number_is : be_at 9 (drop at s) 0 ≡ high * 256 + low
    number_is = entry-number ∙ cc

    id-is : be_at 9 (drop at s) 0 / 2 ^ 7 % 2 ^ 64 ≡ high % 9223372036854775808 * 2 + low / 128
    id-is = let e : be_at 9 (drop at s) 0 ≡ high * 256 + low = number_is in omega arith

    pub entry-low : high < 9223372036854775808 → Detach (high % 9223372036854775808 * 2 + low / 128) ≡ entry_of (drop at s)
    unfolding entry_of entry_with
    entry-low k =
        let e : be_at 9 (drop at s) 0 ≡ high * 256 + low = number_is in
        let b : be_at 9 (drop at s) 0 / 2 ^ 71 ≡ 0 = omega arith in
        ap Detach (sym id-is) ∙ ap (λ (x : ℕ). entry_with x (be_at 9 (drop at s) 0 / 2 ^ 7 % 2 ^ 64)) (sym b)

    pub entry-high : 9223372036854775808 ≤ high → Attach (high % 9223372036854775808 * 2 + low / 128) ≡ entry_of (drop at s)
    unfolding entry_of entry_with
    entry-high k =
        let e : be_at 9 (drop at s) 0 ≡ high * 256 + low = number_is in
        let b : be_at 9 (drop at s) 0 / 2 ^ 71 ≡ 1 = omega arith in
        ap Attach (sym id-is) ∙ ap (λ (x : ℕ). entry_with x (be_at 9 (drop at s) 0 / 2 ^ 7 % 2 ^ 64)) (sym b)

-- ---- two entries compared

module _ (x y : Entry) (i j : ℕ) where
  pub same-detaches : x ≡ Detach i → y ≡ Detach j → eqb i j ≡ same_entry x y
  unfolding same_entry
  same-detaches e f = sym (ap (λ (z : Entry). same_entry z y) e ∙ ap (same_entry (Detach i)) f)

  pub same-attaches : x ≡ Attach i → y ≡ Attach j → eqb i j ≡ same_entry x y
  unfolding same_entry
  same-attaches e f = sym (ap (λ (z : Entry). same_entry z y) e ∙ ap (same_entry (Attach i)) f)

  pub detach-attach : x ≡ Detach i → y ≡ Attach j → false ≡ same_entry x y
  unfolding same_entry
  detach-attach e f = sym (ap (λ (z : Entry). same_entry z y) e ∙ ap (same_entry (Detach i)) f)

  pub attach-detach : x ≡ Attach i → y ≡ Detach j → false ≡ same_entry x y
  unfolding same_entry
  attach-detach e f = sym (ap (λ (z : Entry). same_entry z y) e ∙ ap (same_entry (Attach i)) f)
