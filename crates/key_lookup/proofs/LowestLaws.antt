-- The answer is the lowest id that takes the hash.
--
-- In order: ids rise (`above`); one segment in front of others (`found`, `passed`); `first-lowest`: `first_taking` finds the
-- lowest id where ids rise; `answer-lowest`: so does `segment_for_key`, for every key that is not too long and every packed
-- assignment.
-- Assumes nothing.
use Rattle.std.specs.Prelude.{Option, Some, None, Result, Ok, Err}
use Prim.Native.Nat.{ℕ, suc, ◌≤◌}
use native.Mathlib.Nat.{le_refl}
use native.Mathlib.Omega.{arith}
use mathlib.Core.Path.{◌≡◌, refl, sym, ap, ◌∙◌, subst}
use mathlib.Core.Bool.{Bool, true, false, cond}
use mathlib.Core.List.Memᴰ
use mathlib.Core.List.{List, [], ◌∷◌, Memᴰ}
use mathlib.Core.Logic.{⊎_elim}
use lib.ListN.{length}
use lib.Dec.{leb}
use borrow.Author.Tests.{leb-true, le-ltb}
use Rattle.slice.specs.BoolLaws.{both_true}
use Rattle.packed.specs.Assignment.{AssignedSegment, slot_size, size_assignment, ok_segment, ok_from, ok_assignment}
use Rattle.packed.specs.Assignment.{decode_assignment, starts_assignment, is_assignment}
use Rattle.key_lookup.specs.Lookup.{longest_key, key_hash, takes, first_taking, segment_for_key}
use Rattle.key_lookup.specs.Lowest.{LowestId, Lowest}
use Rattle.refusal.specs.declared.Refusal.{Refusal}
use Rattle.topic_types.specs.declared.SegmentId.{SegmentId}

-- every id of a list is at least the number from which it rises
above : (low : ℕ) (gs : List AssignedSegment) → ok_from low gs ≡ true → (g : AssignedSegment) → Memᴰ g gs → low ≤ g.segment_id
unfolding ok_from
above low [] e g m = absurd (Memᴰ.not-nil m)
above low (x ∷ gs) e g m =
    let b = both_true (ok_segment x) _ e in
    let d = both_true (leb low x.segment_id) _ b.1 in
    let k : low ≤ x.segment_id = leb-true low x.segment_id d.0 in
    ⊎_elim
    (λ (q : g ≡ x). subst (λ (y : AssignedSegment). low ≤ y.segment_id) (sym q) k)
    (λ (n : Memᴰ g gs). let j : suc x.segment_id ≤ g.segment_id = above (suc x.segment_id) gs d.1 g n in omega arith)
    (Memᴰ.cases_cons m)

-- the first takes it
found : (hash : ℕ) (x : AssignedSegment) (gs : List AssignedSegment) (low : ℕ) → ok_from low (x ∷ gs) ≡ true → takes hash x ≡ true
    → LowestId hash (x ∷ gs) x.segment_id
unfolding ok_from
found hash x gs low e t =
    let b = both_true (ok_segment x) _ e in
    let d = both_true (leb low x.segment_id) _ b.1 in
    record {
      segment = x;
      member = Memᴰ.head refl;
      taken = t;
      id-is = refl;
      least = λ g m _.
          ⊎_elim
          (λ (q : g ≡ x). subst (λ (y : AssignedSegment). x.segment_id ≤ y.segment_id) (sym q) (le_refl x.segment_id))
          (λ (n : Memᴰ g gs). let j : suc x.segment_id ≤ g.segment_id = above (suc x.segment_id) gs d.1 g n in omega arith)
          (Memᴰ.cases_cons m);
    }

-- the first does not take it: what is said of the others is said of all
passed : (hash : ℕ) (x : AssignedSegment) (gs : List AssignedSegment) (r : Result (Option SegmentId) Refusal) → takes hash x ≡ false → Lowest hash gs r
    → Lowest hash (x ∷ gs) r
passed hash x gs (Ok (Some id)) t w =
    record {
      segment = w.segment;
      member = Memᴰ.tail w.member;
      taken = w.taken;
      id-is = w.id-is;
      least = λ g m k.
          ⊎_elim
          (λ (q : g ≡ x). let z : ◌≡◌ {A = Bool} true false = sym k ∙ ap (takes hash) q ∙ t in let o : ◌≡◌ {A = ℕ} 0 1 = cc in absurd (omega arith))
          (λ (n : Memᴰ g gs). w.least g n k)
          (Memᴰ.cases_cons m);
    }
passed hash x gs (Ok None) t w =
    λ g m. ⊎_elim (λ (q : g ≡ x). ap (takes hash) q ∙ t) (λ (n : Memᴰ g gs). w g n) (Memᴰ.cases_cons m)
passed hash x gs (Err y) t w = w

first_by : (hash low : ℕ) (x : AssignedSegment) (gs : List AssignedSegment) → ok_from low (x ∷ gs) ≡ true → Lowest hash gs (first_taking hash gs)
    → (t : Bool) → takes hash x ≡ t → Lowest hash (x ∷ gs) (cond t (Ok (Some (record { 0 = x.segment_id }))) (first_taking hash gs))
first_by hash low x gs e w true q = found hash x gs low e q
first_by hash low x gs e w false q = passed hash x gs (first_taking hash gs) q w

pub first-lowest : (hash low : ℕ) (gs : List AssignedSegment) → ok_from low gs ≡ true → Lowest hash gs (first_taking hash gs)
unfolding first_taking ok_from
first-lowest hash low [] e = λ g m. absurd (Memᴰ.not-nil m)
first-lowest hash low (x ∷ gs) e =
    let b = both_true (ok_segment x) _ e in
    let d = both_true (leb low x.segment_id) _ b.1 in
    first_by hash low x gs e (first-lowest hash (suc x.segment_id) gs d.1) (takes hash x) refl

pub answer-lowest : (key l : List ℕ) → length key ≤ longest_key → is_assignment l ≡ true
    → Lowest (key_hash key) (decode_assignment l).segments (segment_for_key key l)
unfolding segment_for_key is_assignment starts_assignment ok_assignment
answer-lowest key l h e =
    let a = both_true (starts_assignment l) _ e in
    let b = both_true (leb (size_assignment (decode_assignment l)) (length l)) _ a.0 in
    let d = both_true (leb (size_assignment (decode_assignment l)) slot_size) _ b.1 in
    rw (le-ltb longest_key (length key) h, e) (first-lowest (key_hash key) 0 (decode_assignment l).segments d.1)
