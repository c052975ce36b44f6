-- Laws of a row of ids with marks.
--
-- In order: the one place of a number in a rising row (`position`); one beyond its ends (`lacks-none`, `lacks-low`,
-- `lacks-high`, `mark-lacks`); its mark set, or none (`mark-hit`, `mark-miss`); an
-- entry of either kind (`mark-detach` to `mark-no-attach`); entry after entry (`Marking`: `marking-start`,
-- `marking-turn`, `marking-next`, `marking-all`, `marking-end`); all marks (`set-all`, `set-none`); a row whose ids are all marked
-- (`marked_all`).
-- Assumes nothing.
use Prim.Native.Nat.{ℕ, zero, suc, ◌+◌, ◌-◌, ◌*◌, ◌≤◌, ◌<◌}
use native.Mathlib.Nat.{not-suc-le-zero}
use native.Mathlib.Omega.{arith}
use mathlib.Core.Path.{◌≡◌, refl, sym, ap, ◌∙◌, subst}
use mathlib.Core.Bool.{Bool, true, false, ◌&&◌, ◌||◌, or-false}
use mathlib.Core.List.{List, [], ◌∷◌, map}
use lib.ListN.{length, take, drop, get_or, set, replicate}
use lib.Seq.{get_or-set_same, get_or-set_other}
use lib.Dec.{eqb, ltb}
use borrow.Author.Tests.{ltb-true, ltb-false, eqb-true, eq-eqb, ne_eqb}
use Rattle.intake_repeats.specs.Repeats.{rises_from, rises, below}
use Rattle.intake_repeats.proofs.RowLaws.{rises-cons, rises-low, below-past, below-not-past}
use Rattle.attach_entries.specs.declared.Entry.{Entry}
use Rattle.attach_entries.specs.declared.Entry.TheVariants.{Detach, Attach}
use Rattle.attach_entries.specs.Log.{entry_of, entries_in}
use Rattle.attach_entries.specs.Follows.{same_entry, has_entry, all_in}
use Rattle.attach_entries.proofs.PassLaws.{has-none, not-both}
use Rattle.attach_rows.specs.Rows.{entry_for, Lacks, Marks, all_set}
use Rattle.attach_rows.proofs.EntryLaws.{entries-row, row-none, row_at}

-- ---- the place of a number

rises-apart : (low : ℕ) (l : List ℕ) (i j : ℕ) → rises_from low l ≡ true → i < j → j < length l → get_or l i 0 < get_or l j 0
rises-apart low [] i j e h k = absurd (not-suc-le-zero k)
rises-apart low (y ∷ l) i zero e h k = absurd (not-suc-le-zero h)
rises-apart low (y ∷ l) zero (suc j) e h k = rises-low (suc y) l j (rises-cons low y l e).1 (omega arith)
rises-apart low (y ∷ l) (suc i) (suc j) e h k =
    rises-apart (suc y) l i j (rises-cons low y l e).1 (omega arith) (omega arith)

-- a number of the row stands behind those below it, and nowhere else
position : (x : ℕ) (l : List ℕ) (i : ℕ) → rises l ≡ true → i < length l → get_or l i 0 ≡ x → i ≡ below x l
position x l i e h f = go (ltb (below x l) i) refl (below-not-past x 0 l i e h (omega arith))
  where
    go : (t : Bool) → ltb (below x l) i ≡ t → below x l ≤ i → i ≡ below x l
    go true t k =
        let b = ltb-true (below x l) i t in
        let p = rises-apart 0 l (below x l) i e b h in
        let q = below-past x 0 l (below x l) e (omega arith) (omega (arith, p, f)) in
        absurd (omega (arith, q))
    go false t k = let b = ltb-false (below x l) i t in omega arith

-- ---- a number beyond the ends of a row

module _ (x : ℕ) (ids : List ℕ) where
  pub lacks-none : length ids ≡ 0 → Lacks x ids
  lacks-none e i h = absurd (omega arith)

  module _ (e : rises ids ≡ true) where
    pub lacks-low : x < get_or ids 0 0 → Lacks x ids
    lacks-low h zero l = ne_eqb x (get_or ids 0 0) (λ q. omega arith)
    lacks-low h (suc i) l =
        let p = rises-apart 0 ids 0 (suc i) e (omega arith) l in
        ne_eqb x (get_or ids (suc i) 0) (λ q. omega (arith, p))

    pub lacks-high : (n : ℕ) → n ≡ length ids → get_or ids (n - 1) 0 < x → Lacks x ids
    lacks-high n f h i l = go (ltb i (n - 1)) refl
      where
        go : (t : Bool) → ltb i (n - 1) ≡ t → eqb x (get_or ids i 0) ≡ false
        go true t =
            let p = rises-apart 0 ids i (n - 1) e (ltb-true i (n - 1) t) (omega arith) in
            ne_eqb x (get_or ids i 0) (λ q. omega (arith, p))
        go false t =
            let s : i ≡ n - 1 = omega (arith, ltb-false i (n - 1) t) in
            ne_eqb x (get_or ids i 0) (λ q. omega (arith, ap (λ (j : ℕ). get_or ids j 0) s))

  pub mark-lacks : (m : List Bool) → Lacks x ids → Marks (λ (i : ℕ). eqb x i) ids m m
  mark-lacks m k i l = rw (k i l)

-- ---- its mark

module _ (x : ℕ) (ids : List ℕ) (m : List Bool) (r : ℕ) (e : rises ids ≡ true) (f : r ≡ below x ids) where
  pub mark-hit : r < length ids → length ids ≤ length m → get_or ids r 0 ≡ x → Marks (λ (i : ℕ). eqb x i) ids m (set m r true)
  mark-hit h k g i l = go (eqb x (get_or ids i 0)) refl
    where
      go : (t : Bool) → eqb x (get_or ids i 0) ≡ t → get_or (set m r true) i false ≡ (eqb x (get_or ids i 0) || get_or m i false)
      go true t =
          let s : i ≡ r = position x ids i e l (sym (eqb-true x (get_or ids i 0) t)) ∙ sym f in
          rw (t, s) (get_or-set_same m r true false (omega arith))
      go false t =
          let d : r ≡ i → ⊥ = λ z. not-both (eq-eqb x (get_or ids i 0) (sym g ∙ ap (λ (j : ℕ). get_or ids j 0) z)) t in
          rw t (get_or-set_other m r i true false (λ z. d (sym z)))

  pub mark-miss : (r < length ids → get_or ids r 0 ≡ x → ⊥) → Marks (λ (i : ℕ). eqb x i) ids m m
  mark-miss n i l = go (eqb x (get_or ids i 0)) refl
    where
      go : (t : Bool) → eqb x (get_or ids i 0) ≡ t → get_or m i false ≡ (eqb x (get_or ids i 0) || get_or m i false)
      go true t =
          let g : get_or ids i 0 ≡ x = sym (eqb-true x (get_or ids i 0) t) in
          let s : i ≡ r = position x ids i e l g ∙ sym f in
          absurd (n (omega arith) (ap (λ (j : ℕ). get_or ids j 0) (sym s) ∙ g))
      go false t = rw t

-- ---- an entry of either kind

module _ (entry : Entry) (attach : Bool) (x : ℕ) (ids : List ℕ) (m : List Bool) where
  pub mark-detach : (after : List Bool) → entry ≡ Detach x → attach ≡ false → Marks (λ (i : ℕ). eqb x i) ids m after
      → Marks (λ (i : ℕ). same_entry entry (entry_for attach i)) ids m after
  unfolding same_entry
  mark-detach after e a k i l = rw (e, a) (k i l)

  pub mark-attach : (after : List Bool) → entry ≡ Attach x → attach ≡ true → Marks (λ (i : ℕ). eqb x i) ids m after
      → Marks (λ (i : ℕ). same_entry entry (entry_for attach i)) ids m after
  unfolding same_entry
  mark-attach after e a k i l = rw (e, a) (k i l)

  pub mark-no-detach : entry ≡ Detach x → attach ≡ true → Marks (λ (i : ℕ). same_entry entry (entry_for attach i)) ids m m
  unfolding same_entry
  mark-no-detach e a i l = rw (e, a)

  pub mark-no-attach : entry ≡ Attach x → attach ≡ false → Marks (λ (i : ℕ). same_entry entry (entry_for attach i)) ids m m
  unfolding same_entry
  mark-no-attach e a i l = rw (e, a)

-- ---- entry after entry

or_turn : (s h a : Bool) → ((s || h) || a) ≡ (h || (s || a))
or_turn true true a = refl
or_turn true false a = refl
or_turn false h a = refl

module _ (attach : Bool) (log : List ℕ) (at n : ℕ) (ids : List ℕ) (m : List Bool) where
  -- what is left of the entries, and the marks so far, say what all say
  abbrev pub Marking : (p left : ℕ) (now : List Bool) → Type 0
  Marking p left now = (i : ℕ) → i < length ids
      → (has_entry (entry_for attach (get_or ids i 0)) (entries_in n (drop at log)) || get_or m i false)
      ≡ (has_entry (entry_for attach (get_or ids i 0)) (entries_in left (drop p log)) || get_or now i false)

  pub marking-turn : (p left : ℕ) (now after : List Bool) (x : Entry) → Marking p left now → 0 < left → x ≡ entry_of (drop p log)
      → Marks (λ (i : ℕ). same_entry x (entry_for attach i)) ids now after → Marking (p + 9) (left - 1) after
  unfolding has_entry
  marking-turn p left now after x w h e k i l =
      let y : Entry = entry_for attach (get_or ids i 0) in
      let r : List Entry = entries_in (left - 1) (drop (p + 9) log) in
      w i l
      ∙ ap (λ (es : List Entry). has_entry y es || get_or now i false) (row_at entries-row log p left x 9 h e refl)
      ∙ or_turn (same_entry x y) (has_entry y r) (get_or now i false)
      ∙ ap (λ (t : Bool). has_entry y r || t) (sym (k i l))

  -- the i-th of them
  pub marking-next : (i : ℕ) (now after : List Bool) (x : Entry) → Marking (at + 9 * i) (n - i) now → i < n → x ≡ entry_of (drop (at + 9 * i) log)
      → Marks (λ (j : ℕ). same_entry x (entry_for attach j)) ids now after → Marking (at + 9 * (i + 1)) (n - (i + 1)) after
  marking-next i now after x w h e k =
      let p : at + 9 * i + 9 ≡ at + 9 * (i + 1) = omega arith in
      let q : n - i - 1 ≡ n - (i + 1) = omega arith in
      subst (λ (y : ℕ). Marking y (n - (i + 1)) after) p
      (subst (λ (y : ℕ). Marking (at + 9 * i + 9) y after) q (marking-turn (at + 9 * i) (n - i) now after x w (omega arith) e k))

  pub marking-all : Marking (at + 9 * 0) (n - 0) m
  marking-all i l =
      let p : at ≡ at + 9 * 0 = omega arith in
      let q : n ≡ n - 0 = omega arith in
      let y : Entry = entry_for attach (get_or ids i 0) in
      ap (λ (k : ℕ). has_entry y (entries_in n (drop k log)) || get_or m i false) p
      ∙ ap (λ (k : ℕ). has_entry y (entries_in k (drop (at + 9 * 0) log)) || get_or m i false) q

  pub marking-end : (p left : ℕ) (now : List Bool) → Marking p left now → left ≤ 0
      → Marks (λ (i : ℕ). has_entry (entry_for attach i) (entries_in n (drop at log))) ids m now
  marking-end p left now w h i l =
      let y : Entry = entry_for attach (get_or ids i 0) in
      sym (w i l
      ∙ ap (λ (es : List Entry). has_entry y es || get_or now i false) (row-none entries-row left (drop p log) h)
      ∙ ap (λ (t : Bool). t || get_or now i false) (has-none y))

-- ---- all marks

pub set-all : (m : List Bool) → ((k : ℕ) → k < length m → get_or m k false ≡ true) → all_set m ≡ true
unfolding all_set
set-all [] h = refl
set-all (x ∷ m) h = simp (h 0 (omega arith), set-all m (λ k l. h (suc k) (omega (arith, l))))

pub set-none : (m : List Bool) (k : ℕ) → k < length m → get_or m k false ≡ false → all_set m ≡ false
unfolding all_set
set-none [] k l e = absurd (omega (arith, l))
set-none (x ∷ m) zero l e = simp e
set-none (true ∷ m) (suc k) l e = set-none m k (omega (arith, l)) e
set-none (false ∷ m) (suc k) l e = refl

-- ---- a row whose ids are all marked

none-set : (n i : ℕ) → get_or (replicate n false) i false ≡ false
none-set zero i = refl
none-set (suc n) zero = refl
none-set (suc n) (suc i) = none-set n i

all-marked : (f : ℕ → Entry) (es : List Entry) (ids : List ℕ) (m : List Bool) → length ids ≤ length m
    → ((i : ℕ) → i < length ids → get_or m i false ≡ has_entry (f (get_or ids i 0)) es)
    → all_set (take (length ids) m) ≡ all_in (map f ids) es
unfolding all_set all_in
all-marked f es [] m h k = refl
all-marked f es (x ∷ ids) [] h k = absurd (not-suc-le-zero h)
all-marked f es (x ∷ ids) (b ∷ m) h k =
    let z : b ≡ has_entry (f x) es = k 0 (omega arith) in
    let r : all_set (take (length ids) m) ≡ all_in (map f ids) es =
    all-marked f es ids m (omega arith) (λ i l. k (suc i) (omega arith)) in
    ap (λ (t : Bool). t && all_set (take (length ids) m)) z ∙ ap (λ (t : Bool). has_entry (f x) es && t) r

pub marked_all : (f : ℕ → Entry) (es : List Entry) (ids : List ℕ) (n : ℕ) (m : List Bool) → length ids ≤ length m
    → Marks (λ (i : ℕ). has_entry (f i) es) ids (replicate n false) m → all_set (take (length ids) m) ≡ all_in (map f ids) es
marked_all f es ids n m h k =
    all-marked f es ids m h (λ i l. k i l
    ∙ ap (λ (t : Bool). has_entry (f (get_or ids i 0)) es || t) (none-set n i)
    ∙ or-false (has_entry (f (get_or ids i 0)) es))
