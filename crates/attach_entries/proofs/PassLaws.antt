-- A log follows the deltas exactly if it passes.
--
-- In order: an entry among others by the first of them (`has-found`, `has-further`, `has-none`); entries told apart
-- (`same-eq`, `same_refl`); an entry split off a list (`has_split`, `has-middle`, `has_other`, `has_more`); different
-- entries, all among as many, are a permutation of them (`Different`, `all-permutes`), and back (`permutes-all`); a
-- delta's entries are different (`detaches-differ`, `attaches-differ`); whole logs (`follows-passes`, `passes-follows`).
-- Assumes nothing.
use Prim.Native.Nat.{ℕ, suc, ◌+◌, ◌≤◌, ◌<◌}
use native.Mathlib.Omega.{arith}
use mathlib.Core.Path.{◌≡◌, refl, sym, ap, ◌∙◌, subst}
use mathlib.Core.Bool.{Bool, true, false, ◌&&◌, ◌||◌, or-true}
use mathlib.Core.List.{List, [], ◌∷◌, ◌++◌, map}
use lib.ListN.{length, take, drop, length-append, take-append-drop, length-map, length-drop}
use lib.Seq.{take_at, drop_at, drop-drop, length-take-le}
use lib.Dec.{leb, eqb}
use borrow.Author.Tests.{le-leb, leb-true, eq-eqb, ne_eqb, eqb-true}
use Rattle.slice.specs.BoolLaws.{both_true}
use Rattle.packed.specs.Assignment.{AssignedSegment, ok_from}
use Rattle.packed.proofs.AssignmentLaws.{ok-head, ok-tail}
use Rattle.packed_delta.specs.Delta.{AssignmentDelta, ids_from, ok_delta}
use Rattle.attach_entries.specs.declared.Entry.{Entry}
use Rattle.attach_entries.specs.declared.Entry.TheVariants.{Detach, Attach}
use Rattle.attach_entries.specs.Passes.{Permutes, attach_of, detaches, attaches, Passes}
use Rattle.attach_entries.specs.Follows.{same_entry, has_entry, all_in, follows}

pub not-both : {b : Bool} → b ≡ true → b ≡ false → ⊥
not-both {b} e f = let z : ◌≡◌ {A = Bool} true false = sym e ∙ f in let y : ◌≡◌ {A = ℕ} 0 1 = cc in omega arith

-- ---- an entry among others

module _ (e x : Entry) (xs : List Entry) where
  pub has-found : same_entry x e ≡ true → has_entry e (x ∷ xs) ≡ true
  unfolding has_entry
  has-found h = ap (λ (t : Bool). t || has_entry e xs) h

  pub has-further : same_entry x e ≡ false → has_entry e (x ∷ xs) ≡ has_entry e xs
  unfolding has_entry
  has-further h = ap (λ (t : Bool). t || has_entry e xs) h

pub has-none : (e : Entry) → has_entry e [] ≡ false
unfolding has_entry
has-none e = refl

-- ---- entries told apart

same-eq : (x y : Entry) → same_entry x y ≡ true → x ≡ y
unfolding same_entry
same-eq (Detach i) (Detach j) e = ap Detach (eqb-true i j e)
same-eq (Detach i) (Attach j) e = absurd (not-both e refl)
same-eq (Attach i) (Detach j) e = absurd (not-both e refl)
same-eq (Attach i) (Attach j) e = ap Attach (eqb-true i j e)

same_refl : (x : Entry) → same_entry x x ≡ true
unfolding same_entry
same_refl (Detach i) = eq-eqb i i refl
same_refl (Attach i) = eq-eqb i i refl

same_not : (x y : Entry) → same_entry x y ≡ false → same_entry y x ≡ false
same_not x y e = go (same_entry y x) refl
  where
    go : (t : Bool) → same_entry y x ≡ t → same_entry y x ≡ false
    go false h = h
    go true h = absurd (not-both (subst (λ (z : Entry). same_entry x z ≡ true) (sym (same-eq y x h)) (same_refl x)) e)

-- ---- an entry split off

Split : Entry → List Entry → Type 0
Split y l = (a : List Entry) × (b : List Entry) × (l ≡ a ++ (y ∷ b))

has_split : (y : Entry) (l : List Entry) → has_entry y l ≡ true → Split y l
unfolding Split
has_split y [] h = absurd (not-both h (has-none y))
has_split y (x ∷ xs) h = go (same_entry x y) refl (has_split y xs)
  where
    go : (t : Bool) → same_entry x y ≡ t → (has_entry y xs ≡ true → (a : List Entry) × (b : List Entry) × (xs ≡ a ++ (y ∷ b)))
        → (a : List Entry) × (b : List Entry) × (x ∷ xs ≡ a ++ (y ∷ b))
    go true e r = ([], xs, ap (λ (z : Entry). z ∷ xs) (same-eq x y e))
    go false e r =
        let s = r (sym (has-further y x xs e) ∙ h) in
        (x ∷ s.0, s.1, ap (λ (l : List Entry). x ∷ l) s.2)

module _ (y : Entry) (b : List Entry) where
  has-middle : (a : List Entry) → has_entry y (a ++ (y ∷ b)) ≡ true
  unfolding has_entry
  has-middle [] = ap (λ (t : Bool). t || has_entry y b) (same_refl y)
  has-middle (x ∷ a) = ap (λ (t : Bool). same_entry x y || t) (has-middle a) ∙ or-true (same_entry x y)

  has_other : (w : Entry) → same_entry y w ≡ false → (a : List Entry) → has_entry w (a ++ (y ∷ b)) ≡ has_entry w (a ++ b)
  unfolding has_entry
  has_other w e [] = ap (λ (t : Bool). t || has_entry w b) e
  has_other w e (x ∷ a) = ap (λ (t : Bool). same_entry x w || t) (has_other w e a)

  has_more : (w : Entry) (a : List Entry) → has_entry w (a ++ b) ≡ true → has_entry w (a ++ (y ∷ b)) ≡ true
  has_more w a h = go (same_entry y w) refl
    where
      go : (t : Bool) → same_entry y w ≡ t → has_entry w (a ++ (y ∷ b)) ≡ true
      go false e = has_other w e a ∙ h
      go true e = subst (λ (z : Entry). has_entry z (a ++ (y ∷ b)) ≡ true) (same-eq y w e) (has-middle a)

  -- all of a row without y, among a list without y
  all-other : (xs : List Entry) → has_entry y xs ≡ false → (a : List Entry) → all_in xs (a ++ (y ∷ b)) ≡ all_in xs (a ++ b)
  unfolding all_in
  all-other [] h a = refl
  all-other (x ∷ xs) h a = go (same_entry x y) refl (all-other xs)
    where
      go : (t : Bool) → same_entry x y ≡ t
          → (has_entry y xs ≡ false → (c : List Entry) → all_in xs (c ++ (y ∷ b)) ≡ all_in xs (c ++ b))
          → (has_entry x (a ++ (y ∷ b)) && all_in xs (a ++ (y ∷ b))) ≡ (has_entry x (a ++ b) && all_in xs (a ++ b))
      go true e r = absurd (not-both (has-found y x xs e) h)
      go false e r =
          ap (λ (t : Bool). t && all_in xs (a ++ (y ∷ b))) (has_other x (same_not x y e) a)
          ∙ ap (λ (t : Bool). has_entry x (a ++ b) && t) (r (sym (has-further y x xs e) ∙ h) a)

  all_more : (xs : List Entry) (a : List Entry) → all_in xs (a ++ b) ≡ true → all_in xs (a ++ (y ∷ b)) ≡ true
  unfolding all_in
  all_more [] a h = refl
  all_more (x ∷ xs) a h =
      let p = both_true (has_entry x (a ++ b)) _ h in
      simp (has_more x a p.0, all_more xs a p.1)

-- ---- permutations

abbrev Different : List Entry → Type 0
Different [] = Unit {0}
Different (x ∷ xs) = (has_entry x xs ≡ false) × Different xs

length-split : (a : List Entry) (y : Entry) (b : List Entry) → length (a ++ (y ∷ b)) ≡ suc (length (a ++ b))
length-split [] y b = refl
length-split (x ∷ a) y b = ap suc (length-split a y b)

none_left : (es : List Entry) → length es ≡ 0 → es ≡ []
none_left [] h = refl
none_left (x ∷ es) h = absurd (omega arith)

pub all-permutes : (xs es : List Entry) → Different xs → length es ≡ length xs → all_in xs es ≡ true → Permutes es xs
unfolding Permutes all_in Split
all-permutes [] es d h k = none_left es h
all-permutes (x ∷ xs) es d h k =
    let p = both_true (has_entry x es) _ k in
    let s = has_split x es p.0 in
    let e : es ≡ s.0 ++ (x ∷ s.1) = s.2 in
    let n : length (s.0 ++ s.1) ≡ length xs = omega (arith, length-split s.0 x s.1, ap length e) in
    let c : all_in xs (s.0 ++ s.1) ≡ true =
    sym (all-other x s.1 xs d.0 s.0) ∙ sym (ap (all_in xs) e) ∙ p.1 in
    (s.0, s.1, e, all-permutes xs (s.0 ++ s.1) d.1 n c)

pub permutes-all : (xs es : List Entry) → Permutes es xs → (length es ≡ length xs) × (all_in xs es ≡ true)
unfolding Permutes all_in
permutes-all [] es p = (ap length p, refl)
permutes-all (x ∷ xs) es p =
    let a : List Entry = p.0 in
    let b : List Entry = p.1 in
    let e : es ≡ a ++ (x ∷ b) = p.2 in
    let r = permutes-all xs (a ++ b) p.3 in
    let h : has_entry x es ≡ true = ap (has_entry x) e ∙ has-middle x b a in
    let k : all_in xs es ≡ true = ap (all_in xs) e ∙ all_more x b xs a r.1 in
    (ap length e ∙ length-split a x b ∙ ap suc r.0, simp (h, k))

-- ---- a delta's entries are different

detach-not : (i low : ℕ) (ids : List ℕ) → i < low → ids_from low ids ≡ true → has_entry (Detach i) (map Detach ids) ≡ false
unfolding has_entry same_entry ids_from
detach-not i low [] h e = refl
detach-not i low (j ∷ ids) h e =
    let b = both_true (leb low j) _ e in
    let k : low ≤ j = leb-true low j b.0 in
    let n : eqb j i ≡ false = ne_eqb j i (λ q. omega arith) in
    simp n (detach-not i (suc j) ids (omega arith) b.1)

detaches-differ : (low : ℕ) (ids : List ℕ) → ids_from low ids ≡ true → Different (map Detach ids)
unfolding ids_from
detaches-differ low [] e = tt
detaches-differ low (j ∷ ids) e =
    let b = both_true (leb low j) _ e in
    (detach-not j (suc j) ids (omega arith) b.1, detaches-differ (suc j) ids b.1)

attach-not : (i low : ℕ) (gs : List AssignedSegment) → i < low → ok_from low gs ≡ true
    → has_entry (Attach i) (map attach_of gs) ≡ false
unfolding has_entry same_entry
attach-not i low [] h e = refl
attach-not i low (g ∷ gs) h e =
    let k : low ≤ g.segment_id = ok-head low g gs e in
    let n : eqb g.segment_id i ≡ false = ne_eqb g.segment_id i (λ q. omega arith) in
    simp n (attach-not i (suc g.segment_id) gs (omega arith) (ok-tail low g gs e))

attaches-differ : (low : ℕ) (gs : List AssignedSegment) → ok_from low gs ≡ true → Different (map attach_of gs)
attaches-differ low [] e = tt
attaches-differ low (g ∷ gs) e =
    let o = ok-tail low g gs e in
    (attach-not g.segment_id (suc g.segment_id) gs (omega arith) o, attaches-differ (suc g.segment_id) gs o)

-- ---- whole logs

abbrev pub AllValid : List AssignmentDelta → Type 0
AllValid [] = Unit {0}
AllValid (d ∷ ds) = (ok_delta d ≡ true) × AllValid ds

module _ (d : AssignmentDelta) (e : ok_delta d ≡ true) where
  lost-different : Different (detaches d)
  unfolding ok_delta
  lost-different = detaches-differ 0 d.lost (both_true (ids_from 0 d.lost) _ e).0

  gained-different : Different (attaches d)
  unfolding ok_delta
  gained-different = attaches-differ 0 d.gained (both_true (ids_from 0 d.lost) _ e).1

pub follows-passes : (ds : List AssignmentDelta) (es : List Entry) → AllValid ds → follows ds es ≡ true → Passes ds es
unfolding follows Passes
follows-passes [] es g h = none_left es (eqb-true (length es) 0 h)
follows-passes (d ∷ ds) es g h =
    let m : ℕ = length d.lost in
    let n : ℕ = length d.gained in
    let p = both_true (leb (m + n) (length es)) _ h in
    let q = both_true (all_in (detaches d) (take m es)) _ p.1 in
    let r = both_true (all_in (attaches d) (take n (drop m es))) _ q.1 in
    let k : m + n ≤ length es = leb-true (m + n) (length es) p.0 in
    let a : List Entry = take m es in
    let b : List Entry = take n (drop m es) in
    let la : length a ≡ length (detaches d) = length-take-le m es (omega arith) ∙ sym (length-map d.lost Detach) in
    let lb : length b ≡ length (attaches d) =
    length-take-le n (drop m es) (omega (arith, length-drop m es)) ∙ sym (length-map d.gained attach_of) in
    let e : es ≡ a ++ (b ++ drop (m + n) es) =
    sym (take-append-drop m es)
    ∙ ap (λ (l : List Entry). a ++ l)
    (sym (take-append-drop n (drop m es)) ∙ ap (λ (l : List Entry). b ++ l) (drop-drop n m es)) in (
      a,
      b,
      drop (m + n) es,
      e,
      all-permutes (detaches d) a (lost-different d g.0) la q.0,
      all-permutes (attaches d) b (gained-different d g.0) lb r.0,
      follows-passes ds (drop (m + n) es) g.1 r.1,
    )

pub passes-follows : (ds : List AssignmentDelta) (es : List Entry) → Passes ds es → follows ds es ≡ true
unfolding follows Passes
passes-follows [] es p = ap (λ (l : List Entry). eqb (length l) 0) p
passes-follows (d ∷ ds) es p =
    let m : ℕ = length d.lost in
    let n : ℕ = length d.gained in
    let a : List Entry = p.0 in
    let b : List Entry = p.1 in
    let rest : List Entry = p.2 in
    let e : es ≡ a ++ (b ++ rest) = p.3 in
    let pa = permutes-all (detaches d) a p.4 in
    let pb = permutes-all (attaches d) b p.5 in
    let la : length a ≡ m = pa.0 ∙ length-map d.lost Detach in
    let lb : length b ≡ n = pb.0 ∙ length-map d.gained attach_of in
    let dm : drop m es ≡ b ++ rest = ap (drop m) e ∙ drop_at a (b ++ rest) m la in
    let tm : take m es ≡ a = ap (take m) e ∙ take_at a (b ++ rest) m la in
    let tn : take n (drop m es) ≡ b = ap (take n) dm ∙ take_at b rest n lb in
    let dn : drop (m + n) es ≡ rest = sym (drop-drop n m es) ∙ ap (drop n) dm ∙ drop_at b rest n lb in
    let k : m + n ≤ length es = omega (arith, ap length e, length-append a (b ++ rest), length-append b rest) in
    let q : all_in (detaches d) (take m es) ≡ true = ap (all_in (detaches d)) tm ∙ pa.1 in
    let r : all_in (attaches d) (take n (drop m es)) ≡ true = ap (all_in (attaches d)) tn ∙ pb.1 in
    let s : follows ds (drop (m + n) es) ≡ true = ap (follows ds) dn ∙ passes-follows ds rest p.6 in
    simp (le-leb (m + n) (length es) k, q, r, s)
