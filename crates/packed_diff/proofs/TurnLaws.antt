-- The merge, turn by turn, over the records of two packed assignments where they lie.
--
-- In order: what a packed assignment has room for (`starts-slot`, `starts-long`); what is written of a record (`length-entry`,
-- `entry-least`, `size-within`, `entry-bytes`, `entries-append`); the loop's invariant (`Turn`), its start (`begin`), its end (`finish`), and a turn
-- for each answer (`skipped`, `matched`, `kept`, with `room-here`).
-- Assumes nothing.
use Prim.Native.Nat.{ℕ, ◌+◌, ◌-◌, ◌≤◌, ◌<◌}
use native.Mathlib.Nat.{add-zero}
use native.Mathlib.Omega.{arith}
use mathlib.Core.Path.{◌≡◌, refl, sym, ap, ◌∙◌, subst}
use mathlib.Core.Bool.{Bool, true, false}
use mathlib.Core.List.{List, [], ◌∷◌, ◌++◌, append_assoc, append-nil}
use lib.ListN.{length, take, drop, length-append, length-drop}
use lib.Seq.{take_all, take_at, take-take}
use lib.Dec.{leb}
use borrow.Author.Tests.{leb-true}
use Rattle.slice.specs.BoolLaws.{both_true}
use Rattle.slice.proofs.PartLaws.{Bytes, Bytes-drop}
use Rattle.slice_int.specs.Be.{be_at, bytes_of}
use Rattle.slice_int.specs.Put.{put}
use Rattle.slice_int.proofs.BeLaws.{length-bytes_of}
use Rattle.slice_int.proofs.PutLaws.{put-nil, put-after}
use Rattle.packed.specs.Assignment.{AssignedSegment, slot_size, decode_segment, decode_segments, decode_assignment, encode_segment, size_segment}
use Rattle.packed.specs.Assignment.{size_assignment, ok_from, ok_assignment, starts_assignment}
use Rattle.packed.proofs.AssignmentLaws.{size-least, segments-at, length-segments_of, first-segments, Rest, rest-start, rest-head, rest-next}
use Rattle.packed.proofs.RoundLaws.{length-encode_segment, write-segment}
use Rattle.packed_records.proofs.CompareLaws.{starts-fits}
use Rattle.packed_delta.specs.Change.{without}
use Rattle.packed_delta.proofs.ShortLaws.{few-records}
use Rattle.packed_diff.specs.Merge.{merge_step, entry, entries, entry_size, only_in, MergedIs}
use Rattle.packed_diff.specs.declared.Step.TheVariants.{Keep, Same, Skip}
use Rattle.packed_diff.proofs.StepLaws.{skip_step, same_step, keep-step}

-- ---- what a packed assignment has room for

pub starts-slot : (s : List ℕ) → starts_assignment s ≡ true → size_assignment (decode_assignment s) ≤ slot_size
unfolding starts_assignment ok_assignment
starts-slot s e =
    let a = both_true (leb (size_assignment (decode_assignment s)) (length s)) _ e in
    leb-true _ _ (both_true (leb (size_assignment (decode_assignment s)) slot_size) _ a.1).0

pub starts-long : (s : List ℕ) → starts_assignment s ≡ true → 10 ≤ length s
unfolding size_assignment
starts-long s e = omega (arith, starts-fits s e)

-- ---- what is written of a record

length-entry : (w : Bool) (g : AssignedSegment) → length (entry w g) ≡ entry_size w (size_segment g)
unfolding entry
length-entry true g = length-encode_segment g
length-entry false g = length-bytes_of 8 g.segment_id

-- a record's first bytes are its id
front-entry : (w : Bool) (g : AssignedSegment) → take (entry_size w (size_segment g)) (encode_segment g) ≡ entry w g
unfolding entry encode_segment
front-entry true g =
    let k : length (encode_segment g) ≡ size_segment g = length-encode_segment g in take_all (size_segment g) (encode_segment g) (omega arith)
front-entry false g = take_at (bytes_of 8 g.segment_id) _ 8 (length-bytes_of 8 g.segment_id)

pub entry-least : (w : Bool) (z : ℕ) → 8 ≤ z → 8 ≤ entry_size w z
entry-least true z h = h
entry-least false z h = omega arith

pub size-within : (w : Bool) (z : ℕ) → 8 ≤ z → entry_size w z ≤ z
size-within true z h = omega arith
size-within false z h = h

entry-bytes : (w : Bool) (s : List ℕ) (p z : ℕ) → Bytes s → z ≡ size_segment (decode_segment (drop p s)) → p + z ≤ length s
    → take (entry_size w z) (drop p s) ≡ entry w (decode_segment (drop p s))
entry-bytes w s p z b e h =
    let g : AssignedSegment = decode_segment (drop p s) in
    let k : 14 ≤ size_segment g = size-least g in
    let q : encode_segment g ≡ take (size_segment g) (drop p s) =
    write-segment (drop p s) (rw length-drop (omega arith)) (Bytes-drop p s b) in
    sym (take-take (entry_size w z) z (drop p s) (size-within w z (omega arith)))
    ∙ ap (λ (n : ℕ). take (entry_size w n) (take n (drop p s))) e
    ∙ ap (take (entry_size w (size_segment g))) (sym q)
    ∙ front-entry w g

entries-append : (w : Bool) (gs hs : List AssignedSegment) → entries w (gs ++ hs) ≡ entries w gs ++ entries w hs
unfolding entries
entries-append w [] hs = refl
entries-append w (g ∷ gs) hs =
    ap (λ (l : List ℕ). entry w g ++ l) (entries-append w gs hs) ∙ sym (append_assoc (entry w g) (entries w gs) (entries w hs))

-- ---- the loop

-- m records of x are left from the place p on, n of y from the place q on; out has what is written so far
pub record Turn (x y : List ℕ) (w : Bool) (o : List ℕ) (at : ℕ) (out : List ℕ) (m n p q next count : ℕ) : Type 0 where
  pub rest-x : Rest x p m
  pub rest-y : Rest y q n
  -- the records that were written
  pub done : List AssignedSegment
  pub split : only_in x y ≡ done ++ without (decode_segments m (drop p x)) (decode_segments n (drop q y))
  pub wrote : out ≡ put o at (entries w done)
  pub long : length out ≡ length o
  pub here : next ≡ at + length (entries w done)
  pub counted : count ≡ length done
  pub room : next + length (entries w (decode_segments m (drop p x))) ≤ length o
  pub few : count + m ≤ 145

pub begin : (x y : List ℕ) (w : Bool) (o : List ℕ) (at m n : ℕ) → starts_assignment x ≡ true → starts_assignment y ≡ true
    → at + length (entries w (decode_assignment x).segments) ≤ length o → m ≡ be_at 2 x 8 → n ≡ be_at 2 y 8 → Turn x y w o at o m n 10 10 at 0
unfolding entries
begin x y w o at m n hx hy r em en =
    let fx : (decode_assignment x).segments ≡ decode_segments m (drop 10 x) = first-segments x m em in
    let fy : (decode_assignment y).segments ≡ decode_segments n (drop 10 y) = first-segments y n en in
    let k : length (decode_assignment x).segments ≡ m = ap length fx ∙ length-segments_of m (drop 10 x) in
    record {
      rest-x = rest-start x m hx em;
      rest-y = rest-start y n hy en;
      done = [];
      split = cc;
      wrote = sym (put-nil o at);
      long = refl;
      here = sym (add-zero at);
      counted = refl;
      room = subst (λ (l : List AssignedSegment). at + length (entries w l) ≤ length o) fx r;
      few = omega (arith, few-records (decode_assignment x) (starts-slot x hx));
    }

module _ {x y o out : List ℕ} {w : Bool} {at m n p q next count : ℕ} (v : Turn x y w o at out m n p q next count) where
  pub finish : m ≤ 0 → MergedIs x y w o at (record { count = count; next = next }) out
  unfolding decode_segments without
  finish h =
      let e : m ≡ 0 = omega arith in
      let s : only_in x y ≡ v.done =
      v.split ∙ ap (λ (j : ℕ). v.done ++ without (decode_segments j (drop p x)) (decode_segments n (drop q y))) e ∙ append-nil v.done in
      record {
        count = v.counted ∙ ap length (sym s);
        next = v.here ∙ ap (λ (l : List AssignedSegment). at + length (entries w l)) (sym s);
        wrote = v.wrote ∙ ap (λ (l : List AssignedSegment). put o at (entries w l)) (sym s);
      }

  module _ (h : 0 < m) (z : ℕ) where
    abbrev g : AssignedSegment
    g = decode_segment (drop p x)

    -- the first record of y is passed over
    pub skipped : 0 < n → z ≡ size_segment (decode_segment (drop q y)) → Skip ≡ merge_step g (decode_segments n (drop q y))
        → Turn x y w o at out m (n - 1) p (q + z) next count
    skipped k e r =
        let gs : List AssignedSegment = decode_segments (m - 1) (drop (p + size_segment g) x) in
        let hs : List AssignedSegment = decode_segments (n - 1) (drop (q + z) y) in
        let ex : decode_segments m (drop p x) ≡ g ∷ gs = segments-at x p m _ h refl in
        let ey : decode_segments n (drop q y) ≡ decode_segment (drop q y) ∷ hs = segments-at y q n z k e in
        let ok : ok_from 0 (g ∷ gs) ≡ true = subst (λ (l : List AssignedSegment). ok_from 0 l ≡ true) ex v.rest-x.ok in
        let s : without (decode_segments m (drop p x)) (decode_segments n (drop q y)) ≡ without (decode_segments m (drop p x)) hs =
        cc (skip_step g gs (decode_segment (drop q y)) hs ok (r ∙ ap (merge_step g) ey)) in
        record {
          rest-x = v.rest-x;
          rest-y = rest-next y q n z k e v.rest-y;
          done = v.done;
          split = v.split ∙ ap (λ (l : List AssignedSegment). v.done ++ l) s;
          wrote = v.wrote;
          long = v.long;
          here = v.here;
          counted = v.counted;
          room = v.room;
          few = v.few;
        }

    module _ (e : z ≡ size_segment g) where
      abbrev gs : List AssignedSegment
      gs = decode_segments (m - 1) (drop (p + z) x)

      -- what is left to write falls by the record
      room_next : next + (entry_size w z + length (entries w gs)) ≤ length o
      unfolding entries
      room_next =
          let a : length (entries w (decode_segments m (drop p x))) ≡ length (entry w g) + length (entries w gs) =
          ap (λ (l : List AssignedSegment). length (entries w l)) (segments-at x p m z h e) ∙ length-append (entry w g) (entries w gs) in
          let b : length (entry w g) ≡ entry_size w z = length-entry w g ∙ ap (entry_size w) (sym e) in
          omega (arith, v.room)

      pub room-here : next + entry_size w z ≤ length o
      room-here = omega (arith, room_next)

      -- y has the record
      pub matched : Same ≡ merge_step g (decode_segments n (drop q y)) → Turn x y w o at out (m - 1) n (p + z) q next count
      matched r =
          let s : without (decode_segments m (drop p x)) (decode_segments n (drop q y)) ≡ without gs (decode_segments n (drop q y)) =
          cc (segments-at x p m z h e, same_step g gs (decode_segments n (drop q y)) r) in
          record {
            rest-x = rest-next x p m z h e v.rest-x;
            rest-y = v.rest-y;
            done = v.done;
            split = v.split ∙ ap (λ (l : List AssignedSegment). v.done ++ l) s;
            wrote = v.wrote;
            long = v.long;
            here = v.here;
            counted = v.counted;
            room = omega (arith, room_next);
            few = omega (arith, v.few);
          }

      -- y has not the record: len bytes of it are written
      pub kept : (len : ℕ) (out' : List ℕ) → Bytes x → Keep ≡ merge_step g (decode_segments n (drop q y)) → len ≡ entry_size w z
          → out' ≡ put out next (take len (drop p x)) → length out' ≡ length out
          → Turn x y w o at out' (m - 1) n (p + z) q (next + len) (count + 1)
      unfolding entries
      kept len out' b r el u t =
          let D : List ℕ = entries w v.done in
          let s : without (decode_segments m (drop p x)) (decode_segments n (drop q y)) ≡ g ∷ without gs (decode_segments n (drop q y)) =
          cc (segments-at x p m z h e, keep-step g gs (decode_segments n (drop q y)) v.rest-y.ok r) in
          let eb : take len (drop p x) ≡ entry w g =
          ap (λ (k : ℕ). take k (drop p x)) el ∙ entry-bytes w x p z b e (rest-head x p m z h e v.rest-x) in
          let le : length (entry w g) ≡ len = length-entry w g ∙ ap (entry_size w) (sym e) ∙ sym el in
          let ea : entries w (v.done ++ (g ∷ [])) ≡ D ++ entry w g =
          entries-append w v.done (g ∷ []) ∙ ap (λ (l : List ℕ). D ++ l) (append-nil (entry w g)) in
          let la : length (entries w (v.done ++ (g ∷ []))) ≡ length D + len =
          ap length ea ∙ length-append D (entry w g) ∙ ap (λ (k : ℕ). length D + k) le in
          let rm : next + entry_size w z ≤ length o = room-here in
          record {
            rest-x = rest-next x p m z h e v.rest-x;
            rest-y = v.rest-y;
            done = v.done ++ (g ∷ []);
            split =
                v.split
                ∙ ap (λ (l : List AssignedSegment). v.done ++ l) s
                ∙ sym (append_assoc v.done (g ∷ []) (without gs (decode_segments n (drop q y))));
            wrote =
                u
                ∙ ap (put out next) eb
                ∙ ap (λ (l : List ℕ). put l next (entry w g)) v.wrote
                ∙ ap (λ (k : ℕ). put (put o at D) k (entry w g)) v.here
                ∙ put-after o at D (entry w g) (omega (arith, v.here))
                ∙ ap (put o at) (sym ea);
            long = t ∙ v.long;
            here = omega (arith, v.here, la);
            counted = sym (length-append v.done (g ∷ []) ∙ ap (λ (k : ℕ). k + 1) (sym v.counted));
            room = omega (arith, room_next);
            few = omega (arith, v.few);
          }
