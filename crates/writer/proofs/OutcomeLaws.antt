-- What the writers answer.
--
-- In order: what `ok_or` answers (`due-none`, `due-some`); a name that fits (`name-written`, `name-refused`); a message that does not fit (`message-no-head`, `message-beyond`), and one
-- that does (`Fits`: `message-room`, `message-written`); the message of a packed assignment (`whole-message`);
-- the cases of `write_outcome` (`write-malformed`, `write-empty`, `write-not-utf8`, `write-no-parent`, `write-below`).
-- Assumes nothing.
use Rattle.std.specs.Prelude.{Option, Some, None, Result, Ok, Err, ok_or}
use Prim.Native.Nat.{ℕ, ◌+◌, ◌-◌, ◌≤◌, ◌<◌}
use native.Mathlib.Nat.{not-suc-le-zero}
use native.Mathlib.Omega.{arith}
use mathlib.Core.Path.{◌≡◌, refl, sym, ap, ◌∙◌}
use mathlib.Core.Bool.{true, false, cond}
use mathlib.Core.List.{List, [], ◌∷◌, ◌++◌}
use lib.ListN.{length, drop, length-append}
use lib.Dec.{leb}
use borrow.Author.Tests.{le-leb, lt-leb, leb-true, leb-false}
use Rattle.slice.proofs.TestLaws.{cond-first, cond-second}
use Rattle.refusal.specs.declared.Refusal.{Refusal}
use Rattle.refusal.specs.declared.Refusal.TheVariants.{MalformedInput, InvalidUtf8, InvalidParent, ResultTooLong}
use Rattle.utf8.specs.Table.{is_utf8}
use Rattle.slice_int.specs.Put.{put}
use Rattle.name_topic.specs.Build as build
use Rattle.name_parents.specs.Parents.{is_parent, path_of}
use Rattle.output.specs.Output.{Outcome, outcome, refuse, written}
use Rattle.wire_writer.specs.Encode.{number_field}
use Rattle.packed.specs.Answers.{whole_read}
use Rattle.packed.specs.Assignment.{AssignedSegment, num, decode_segments, decode_assignment}
use Rattle.packed.proofs.WholeLaws.{Whole, not-assignment}
use Rattle.writer_message.specs.Message.{segment_fields, assignment_message}
use Rattle.intake_content.specs.Content.{outside_in}
use Rattle.writer.specs.Write.{with_parent, write_outcome, held_of, room_of}

-- ---- what `ok_or` answers

module _ {A : Type 0} where
  pub due-none : (o : Option A) (due x : Refusal) → ok_or o due ≡ Err x → (o ≡ None) × (x ≡ due)
  due-none None due x e = (refl, cc)
  due-none (Some v) due x e = absurd (let z : ◌≡◌ {A = ℕ} 0 1 = cc in omega arith)

  pub due-some : (o : Option A) (due : Refusal) (v : A) → ok_or o due ≡ Ok v → o ≡ Some v
  due-some None due v e = absurd (let z : ◌≡◌ {A = ℕ} 0 1 = cc in omega arith)
  due-some (Some w) due v e = cc

-- ---- a name that fits into o

module _ (text o last : List ℕ) (h : length text ≤ length o) where
  name-fits : (a : Result ℕ Refusal) → build.name_outcome a last ≡ build.written text o → (a ≡ Ok (length text)) × (last ≡ put o 0 text)
  unfolding build.written
  name-fits a e =
      let f : build.name_outcome a last ≡ build.name_outcome (Ok (length text)) (put o 0 text) = e ∙ rw (le-leb (length text) (length o) h) in
      (ap (λ (x : build.NameOutcome). x.answer) f, ap (λ (x : build.NameOutcome). x.out) f)

  pub name-written : (n : ℕ) → build.name_outcome (Ok n) last ≡ build.written text o → (n ≡ length text) × (last ≡ put o 0 text)
  name-written n e =
      let f : (Ok n ≡ Ok (length text)) × (last ≡ put o 0 text) = name-fits (Ok n) e in
      let k : n ≡ length text = cc in
      (k, f.1)

  pub name-refused : (x : Refusal) → build.name_outcome (Err x) last ≡ build.written text o → ⊥
  name-refused x e =
      let f : (Err x ≡ Ok (length text)) × (last ≡ put o 0 text) = name-fits (Err x) e in
      let z : ◌≡◌ {A = ℕ} 0 1 = cc in
      omega arith

-- ---- a message: the epoch's field, and those of the segments

-- the epoch's field has head bytes, the segments' fields n, and o has room for both
pub record Fits (path : List ℕ) (gs : List AssignedSegment) (epoch o : List ℕ) (head n : ℕ) : Type 0 where
  pub whole : length (epoch ++ segment_fields path gs) ≡ head + n
  pub size : head + n ≤ length o
  pub room : 0 + length (epoch ++ segment_fields path gs) ≤ length o

module _ (path : List ℕ) (gs : List AssignedSegment) (epoch o : List ℕ) where
  too_long : length o < length epoch + length (segment_fields path gs) → refuse ResultTooLong o ≡ written (epoch ++ segment_fields path gs) o
  unfolding written
  too_long h =
      let k : length o < length (epoch ++ segment_fields path gs) = omega (arith, length-append epoch (segment_fields path gs)) in
      rw (lt-leb (length (epoch ++ segment_fields path gs)) (length o) k)

  pub message-no-head : length o < length epoch → refuse ResultTooLong o ≡ written (epoch ++ segment_fields path gs) o
  message-no-head h = too_long (omega arith)

  module _ (head : ℕ) (e : head ≡ length epoch) (h : head ≤ length o) where
    pub message-beyond : None ≡ room_of (length o - head) path gs → refuse ResultTooLong o ≡ written (epoch ++ segment_fields path gs) o
    unfolding room_of
    message-beyond r =
        let p = cond-second (leb (length (segment_fields path gs)) (length o - head)) _ _ _ (λ q. let o : ◌≡◌ {A = ℕ} 0 1 = cc in omega arith) (sym r) in
        too_long (omega (arith, leb-false (length (segment_fields path gs)) (length o - head) p.0))

    pub message-room : (n : ℕ) → Some n ≡ room_of (length o - head) path gs → Fits path gs epoch o head n
    unfolding room_of
    message-room n r =
        let p = cond-first (leb (length (segment_fields path gs)) (length o - head)) _ _ _ (λ q. let o : ◌≡◌ {A = ℕ} 0 1 = cc in omega arith) (sym r) in
        let f = p.1 in
        let g : n ≡ length (segment_fields path gs) = cc in
        let m = leb-true (length (segment_fields path gs)) (length o - head) p.0 in
        let l = length-append epoch (segment_fields path gs) in
        record { whole = omega arith; size = omega arith; room = omega arith }

  pub message-written : (head n : ℕ) → Fits path gs epoch o head n → (q : List ℕ) → q ≡ put o 0 (epoch ++ segment_fields path gs)
      → outcome (Ok (head + n)) q ≡ written (epoch ++ segment_fields path gs) o
  unfolding written
  message-written head n w q f =
      let m : length (epoch ++ segment_fields path gs) ≤ length o = omega (arith, w.room) in
      rw (le-leb (length (epoch ++ segment_fields path gs)) (length o) m, w.whole, f)

-- ---- the message of a packed assignment

whole-message : (s : List ℕ) (n : ℕ) → Whole s n → (path : List ℕ)
    → assignment_message path (decode_assignment s) ≡ number_field 1 (num 8 s) ++ segment_fields path (decode_segments n (drop 10 s))
unfolding assignment_message decode_assignment
whole-message s n w path = ap (λ (gs : List AssignedSegment). number_field 1 (num 8 s) ++ segment_fields path gs) w.segments-are

-- ---- the cases of `write_outcome`

with-parent : (parent : List ℕ) (gs : List AssignedSegment) (x : Outcome) (o : List ℕ) → 0 < length gs
    → with_parent o parent gs x ≡ cond (is_utf8 parent) (cond (is_parent parent) x (refuse InvalidParent o)) (refuse InvalidUtf8 o)
with-parent parent [] x o h = absurd (not-suc-le-zero h)
with-parent parent (g ∷ gs) x o h = refl

module _ (s parent o : List ℕ) where
  pub write-malformed : None ≡ whole_read s → refuse MalformedInput o ≡ write_outcome s parent o
  unfolding write_outcome
  write-malformed e = rw (not-assignment s e)

  module _ (n : ℕ) (w : Whole s n) where
    -- without a segment the parent is not looked at
    pub write-empty : n ≡ 0 → written (number_field 1 (num 8 s) ++ segment_fields parent (decode_segments 0 (drop 10 s))) o ≡ write_outcome s parent o
    unfolding write_outcome assignment_message segment_fields decode_segments decode_assignment outside_in
    write-empty e =
        let empty : (decode_assignment s).segments ≡ [] = w.segments-are ∙ ap (λ (k : ℕ). decode_segments k (drop 10 s)) e in
        simp (w.is-assignment, empty)

    outside-is : outside_in (decode_assignment s).segments ≡ outside_in (decode_segments n (drop 10 s))
    outside-is = ap outside_in w.segments-are

    pub write-outside : (x : Refusal) → Err x ≡ held_of (outside_in (decode_segments n (drop 10 s))) → refuse x o ≡ write_outcome s parent o
    unfolding write_outcome
    write-outside x e =
        let q : outside_in (decode_assignment s).segments ≡ Some x = outside-is ∙ found (outside_in (decode_segments n (drop 10 s))) e in
        sym (rw (w.is-assignment, q))
      where
        found : (v : Option Refusal) → Err x ≡ held_of v → v ≡ Some x
        found None f = cc
        found (Some y) f = cc

    module _ (h : 0 < n) (i : (Ok record {}) ≡ held_of (outside_in (decode_segments n (drop 10 s)))) where
      none-outside : outside_in (decode_assignment s).segments ≡ None
      none-outside = outside-is ∙ go (outside_in (decode_segments n (drop 10 s))) i
        where
          go : (v : Option Refusal) → (Ok record {}) ≡ held_of v → v ≡ None
          go None f = refl
          go (Some y) f = cc

      behind : write_outcome s parent o
          ≡ cond (is_utf8 parent)
          (cond (is_parent parent) (written (assignment_message (path_of parent) (decode_assignment s)) o) (refuse InvalidParent o))
          (refuse InvalidUtf8 o)
      unfolding write_outcome
      behind = rw (w.is-assignment, none-outside) (with-parent parent (decode_assignment s).segments _ o (omega (arith, w.count)))

      pub write-not-utf8 : is_utf8 parent ≡ false → refuse InvalidUtf8 o ≡ write_outcome s parent o
      write-not-utf8 u = sym (behind ∙ rw u)

      module _ (u : is_utf8 parent ≡ true) where
        pub write-no-parent : is_parent parent ≡ false → refuse InvalidParent o ≡ write_outcome s parent o
        write-no-parent q = sym (behind ∙ rw (u, q))

        pub write-below : is_parent parent ≡ true
            → written (number_field 1 (num 8 s) ++ segment_fields (path_of parent) (decode_segments n (drop 10 s))) o ≡ write_outcome s parent o
        write-below q = ap (λ (l : List ℕ). written l o) (sym (whole-message s n w (path_of parent))) ∙ sym (behind ∙ rw (u, q))
