-- Laws of a part of a delta, ids or records, and of its entries.
--
-- In order: a part by its first id (`ids_step`, `size_step`, `ids-done`, `size-least-first`, `size-record`); ids that
-- rise (`lost-rise`, `gained-rise`); rows (`load-start`, `load-turn`, `load_full`); what is left of a part (`Left`:
-- `left-start`, `left_here`, `left-inside`, `left-entry`, `left-none`; by rows `row-sorted`, `row-missing`, `row-further`).
-- Assumes nothing.
use Prim.Native.Nat.{ℕ, zero, suc, ◌+◌, ◌-◌, ◌*◌, ◌≤◌, ◌<◌}
use native.Mathlib.Nat.{not-suc-le-zero}
use native.Mathlib.Omega.{arith}
use mathlib.Core.Path.{◌≡◌, refl, sym, ap, ◌∙◌, subst}
use mathlib.Core.Bool.{Bool, true, false, ◌&&◌, and_assoc}
use mathlib.Core.List.{List, [], ◌∷◌, ◌++◌, map}
use lib.ListN.{length, take, drop, set}
use lib.Seq.{drop-drop}
use lib.Dec.{leb}
use borrow.Author.Tests.{le-leb}
use Rattle.slice_int.specs.Be.{be_at}
use Rattle.packed.specs.Assignment.{AssignedSegment, num, id_of, decode_segment, decode_segments, size_segment, ok_from}
use Rattle.packed.proofs.AssignmentLaws.{size-least, segments-at, size-turn, ok-head, ok-tail}
use Rattle.packed_delta.specs.Delta.{decode_ids, ids_from}
use Rattle.packed_delta.proofs.RoundLaws.{ids_at, ids-none}
use Rattle.intake_repeats.specs.Repeats.{rises_from, rises}
use Rattle.intake_repeats.proofs.RowLaws.{rises-cons}
use Rattle.attach_entries.specs.declared.Entry.{Entry}
use Rattle.attach_entries.specs.Passes.{attach_of}
use Rattle.attach_entries.specs.Log.{entry_of, entries_in}
use Rattle.attach_entries.specs.Follows.{same_entry, has_entry, all_in}
use Rattle.attach_rows.specs.Rows.{entry_for}
use Rattle.attach_log.specs.declared.Loaded.{Loaded}
use Rattle.attach_log.specs.Steps.{ids_in, size_first, size_in, Loading, LoadedIs, part_in}
use Rattle.attach_log.proofs.EntryLaws.{has-at}

-- ---- a part by its first id

segments-none : (n : ℕ) (l : List ℕ) → n ≤ 0 → decode_segments n l ≡ []
unfolding decode_segments
segments-none n l h = let e : n ≡ 0 = omega arith in ap (λ (k : ℕ). decode_segments k l) e

pub size-least-first : (attach : Bool) (l : List ℕ) → 8 ≤ size_first attach l
size-least-first true l = omega (arith, size-least (decode_segment l))
size-least-first false l = omega arith

pub size-record : (attach : Bool) (l : List ℕ) → attach ≡ true → 14 ≤ size_first attach l
size-record attach l e = rw e (size-least (decode_segment l))

module _ (s : List ℕ) (p n : ℕ) (h : 0 < n) where
  ids_step : (attach : Bool) (i : ℕ) → i ≡ be_at 8 s p
      → ids_in attach n (drop p s) ≡ i ∷ ids_in attach (n - 1) (drop (p + size_first attach (drop p s)) s)
  unfolding num be_at decode_segment
  ids_step true i e =
      let z : ℕ = size_segment (decode_segment (drop p s)) in
      ap (map id_of) (segments-at s p n z h refl)
      ∙ ap (λ (k : ℕ). k ∷ map id_of (decode_segments (n - 1) (drop (p + z) s))) (sym e)
  ids_step false i e = ids_at s p n h ∙ ap (λ (k : ℕ). k ∷ decode_ids (n - 1) (drop (p + 8) s)) (sym e)

  size_step : (attach : Bool) → let z = size_first attach (drop p s) in
      p + size_in attach n (drop p s) ≡ p + z + size_in attach (n - 1) (drop (p + z) s)
  size_step true = size-turn s p n (size_segment (decode_segment (drop p s))) h refl
  size_step false = omega arith

ids-done : (attach : Bool) (n : ℕ) (l : List ℕ) → n ≤ 0 → ids_in attach n l ≡ []
ids-done true n l h = ap (map id_of) (segments-none n l h)
ids-done false n l h = ids-none n l h

-- ---- ids that rise

ids-rise : (low : ℕ) (ids : List ℕ) → rises_from low ids ≡ ids_from low ids
unfolding rises_from ids_from
ids-rise low [] = refl
ids-rise low (i ∷ ids) = ap (λ (t : Bool). leb low i && t) (ids-rise (suc i) ids)

records-rise : (low : ℕ) (gs : List AssignedSegment) → ok_from low gs ≡ true → rises_from low (map id_of gs) ≡ true
unfolding rises_from
records-rise low [] e = refl
records-rise low (g ∷ gs) e =
    simp (le-leb low g.segment_id (ok-head low g gs e), records-rise (suc g.segment_id) gs (ok-tail low g gs e))

pub lost-rise : (n : ℕ) (l : List ℕ) → ids_from 0 (decode_ids n l) ≡ true → rises (ids_in false n l) ≡ true
lost-rise n l e = ids-rise 0 (decode_ids n l) ∙ e

pub gained-rise : (n : ℕ) (l : List ℕ) → ok_from 0 (decode_segments n l) ≡ true → rises (ids_in true n l) ≡ true
gained-rise n l e = records-rise 0 (decode_segments n l) e

rises-weaken : (low : ℕ) (l : List ℕ) → rises_from low l ≡ true → rises l ≡ true
unfolding rises_from
rises-weaken low [] e = refl
rises-weaken low (x ∷ l) e = simp (le-leb 0 x (omega arith), (rises-cons low x l e).1)

rises-append : (low : ℕ) (a b : List ℕ) → rises_from low (a ++ b) ≡ true → (rises_from low a ≡ true) × (rises b ≡ true)
unfolding rises_from
rises-append low [] b e = (refl, rises-weaken low b e)
rises-append low (x ∷ a) b e =
    let p = rises-cons low x (a ++ b) e in
    let q = rises-append (suc x) a b p.1 in
    (simp (le-leb low x p.0, q.0), q.1)

-- the entries of records
pub attach-ids : (gs : List AssignedSegment) → map (entry_for true) (map id_of gs) ≡ map attach_of gs
attach-ids [] = refl
attach-ids (g ∷ gs) = ap (λ (t : List Entry). attach_of g ∷ t) (attach-ids gs)

-- ---- rows

take-set : (l : List ℕ) (k v : ℕ) (r : List ℕ) → k < length l → take (suc k) (set l k v) ++ r ≡ take k l ++ (v ∷ r)
take-set [] k v r h = absurd (not-suc-le-zero h)
take-set (y ∷ l) zero v r h = refl
take-set (y ∷ l) (suc k) v r h = ap (λ (t : List ℕ). y ∷ t) (take-set l k v r (omega arith))

module _ (attach : Bool) (s : List ℕ) (at n : ℕ) where
  pub load-start : (ids : List ℕ) → at + size_in attach n (drop at s) ≤ length s → Loading attach s at n at 0 ids
  load-start ids h =
      let e : n ≡ n - 0 = omega arith in
      record {
        few = omega arith;
        held = omega arith;
        inside = subst (λ (k : ℕ). at + size_in attach k (drop at s) ≤ length s) e h;
        whole = ap (λ (k : ℕ). ids_in attach k (drop at s)) e;
      }

  module _ (p count : ℕ) (ids : List ℕ) (L : Loading attach s at n p count ids) (h : count < n) where
    abbrev z : ℕ
    z = size_first attach (drop p s)

    -- the id or record at the place lies inside
    pub load_inside : p + size_first attach (drop p s) ≤ length s
    load_inside = omega (arith, L.inside, size_step s p (n - count) (omega arith) attach)

    pub load-turn : (v : ℕ) → v ≡ be_at 8 s p → count < length ids → (y : ℕ) → y ≡ z → (b : List ℕ) → b ≡ set ids count v → length b ≡ length ids
        → Loading attach s at n (p + y) (count + 1) b
    load-turn v e k y g b f o =
        let m : n - count - 1 ≡ n - (count + 1) = omega arith in
        let c : suc count ≡ count + 1 = omega arith in
        let R : List ℕ = ids_in attach (n - (count + 1)) (drop (p + z) s) in
        let i : p + z + size_in attach (n - count - 1) (drop (p + z) s) ≤ length s =
        omega (arith, L.inside, size_step s p (n - count) (omega arith) attach) in
        record {
          few = omega arith;
          held = omega arith;
          inside = rw g (subst (λ (j : ℕ). p + z + size_in attach j (drop (p + z) s) ≤ length s) m i);
          whole = rw g (L.whole
              ∙ ap (λ (l : List ℕ). take count ids ++ l) (ids_step s p (n - count) (omega arith) attach v e)
              ∙ ap (λ (j : ℕ). take count ids ++ (v ∷ ids_in attach j (drop (p + z) s))) m
              ∙ sym (take-set ids count v R k)
              ∙ ap (λ (j : ℕ). take j (set ids count v) ++ R) c
              ∙ ap (λ (l : List ℕ). take (count + 1) l ++ R) (sym f));
        }

-- ---- what is left of a part

all_append : (f : ℕ → Entry) (es : List Entry) (a b : List ℕ) → all_in (map f (a ++ b)) es ≡ (all_in (map f a) es && all_in (map f b) es)
unfolding all_in
all_append f es [] b = refl
all_append f es (x ∷ a) b =
    ap (λ (t : Bool). has_entry (f x) es && t) (all_append f es a b)
    ∙ sym (and_assoc (has_entry (f x) es) (all_in (map f a) es) (all_in (map f b) es))

module _ (attach : Bool) (s : List ℕ) (at n : ℕ) (log : List ℕ) (q m : ℕ) where
  -- the ids that are left, from the place p on, decide the whole
  pub record Left (p left : ℕ) : Type 0 where
    pub inside : p + size_in attach left (drop p s) ≤ length s
    pub sorted : rises (ids_in attach left (drop p s)) ≡ true
    pub decides : part_in attach s at n log q m ≡ part_in attach s p left log q m

  pub left-start : at + size_in attach n (drop at s) ≤ length s → rises (ids_in attach n (drop at s)) ≡ true → Left at n
  left-start h e = record { inside = h; sorted = e; decides = refl }

  module _ (p left : ℕ) (L : Left p left) where
    pub left-none : left ≤ 0 → true ≡ part_in attach s at n log q m
    unfolding all_in
    left-none h =
        sym (L.decides ∙ ap (λ (l : List ℕ). all_in (map (entry_for attach) l) (entries_in m (drop q log))) (ids-done attach left (drop p s) h))

    module _ (h : 0 < left) where
      pub left-inside : p + size_first attach (drop p s) ≤ length s
      left-inside = omega (arith, L.inside, size_step s p left h attach)

      -- the first id has its entry
      pub left-entry : (i : ℕ) → i ≡ be_at 8 s p → (k : ℕ) → k < m
          → same_entry (entry_of (drop (q + 9 * k) log)) (entry_for attach i) ≡ true
          → (y : ℕ) → y ≡ size_first attach (drop p s) → Left (p + y) (left - 1)
      unfolding all_in
      left-entry i e k l t y g =
          let z : ℕ = size_first attach (drop p s) in
          let es : List Entry = entries_in m (drop q log) in
          let R : List ℕ = ids_in attach (left - 1) (drop (p + z) s) in
          let c : ids_in attach left (drop p s) ≡ i ∷ R = ids_step s p left h attach i e in
          let f : has_entry (entry_for attach i) es ≡ true =
          has-at (entry_for attach i) k m (drop q log) l
          (ap (λ (d : List ℕ). same_entry (entry_of d) (entry_for attach i)) (drop-drop (9 * k) q log) ∙ t) in
          rw g (record {
            inside = omega (arith, L.inside, size_step s p left h attach);
            sorted = (rises-append 0 (i ∷ []) R (ap rises (sym c) ∙ L.sorted)).1;
            decides = L.decides
                ∙ ap (λ (d : List ℕ). all_in (map (entry_for attach) d) es) c
                ∙ ap (λ (d : Bool). d && all_in (map (entry_for attach) R) es) f;
          })

    -- row after row
    module _ (r : Loaded) (ids : List ℕ) (w : LoadedIs attach s p left r ids) where
      abbrev row : List ℕ
      row = take r.count ids

      split : part_in attach s at n log q m
          ≡ (all_in (map (entry_for attach) row) (entries_in m (drop q log)) && part_in attach s r.next (left - r.count) log q m)
      split =
          L.decides
          ∙ ap (λ (l : List ℕ). all_in (map (entry_for attach) l) (entries_in m (drop q log))) w.0.whole
          ∙ all_append (entry_for attach) (entries_in m (drop q log)) row _

      parts-rise : (rises (take r.count ids) ≡ true) × (rises (ids_in attach (left - r.count) (drop r.next s)) ≡ true)
      parts-rise = rises-append 0 row _ (ap rises (sym w.0.whole) ∙ L.sorted)

      pub row-sorted : rises (take r.count ids) ≡ true
      row-sorted = parts-rise.0

      pub row-missing : all_in (map (entry_for attach) (take r.count ids)) (entries_in m (drop q log)) ≡ false
          → false ≡ part_in attach s at n log q m
      row-missing e = sym (split ∙ ap (λ (t : Bool). t && part_in attach s r.next (left - r.count) log q m) e)

      pub row-further : all_in (map (entry_for attach) (take r.count ids)) (entries_in m (drop q log)) ≡ true
          → Left r.next (left - r.count)
      row-further e = record {
        inside = w.0.inside;
        sorted = parts-rise.1;
        decides = split ∙ ap (λ (t : Bool). t && part_in attach s r.next (left - r.count) log q m) e;
      }
