-- `write_message` meets its contract: a message that does not fit is refused; another is written in two pieces (`Writing` of
-- proofs/WritingLaws). Assumes nothing.
use Rattle.std.specs.Prelude.{Some}
use Prim.Native.Nat.{ℕ, ◌+◌, ◌-◌, ◌≤◌}
use native.Mathlib.Omega.{arith}
use mathlib.Core.Path.{◌≡◌, sym, ap, ◌∙◌}
use mathlib.Core.List.{List, [], ◌∷◌, ◌++◌, append-nil}
use lib.ListN.{length, drop}
use Rattle.slice_int.specs.Be.{be_at}
use Rattle.slice_int.specs.Put.{put}
use Rattle.wire_writer.specs.Encode.{number_field}
use Rattle.packed.specs.Assignment.{AssignedSegment, num, decode_segments}
use Rattle.writer_message.specs.Message.{segment_fields}
use Rattle.writer.specs.Write.{room_of}
use Rattle.writer.proofs.WritingLaws.{Writing, writing_start, writing-as, writing-room, writing-next, writing-end}
use Rattle.std.proofs.lemmas.Result.{err_from_is_err_and}
use Rattle.writer.proofs.OutcomeLaws.{due-none, due-some, message-no-head, message-beyond, Fits, message-room, message-written}
use Rattle.writer.proofs.write_message.Goals as goal

-- the epoch's field, the segments, and their fields
abbrev epoch : List ℕ → List ℕ
epoch s = number_field 1 (num 8 s)

abbrev segments : ℕ → List ℕ → List AssignedSegment
segments m s = decode_segments m (drop 10 s)

abbrev fields : ℕ → List ℕ → List ℕ → List ℕ
fields m s path = segment_fields path (segments m s)

epoch-is : (s : List ℕ) (e : ℕ) → e ≡ be_at 8 s 0 → e ≡ num 8 s
unfolding num be_at
epoch-is s e h = h

head-is : (s : List ℕ) (e head : ℕ) → e ≡ be_at 8 s 0 → head ≡ length (number_field 1 e) → head ≡ length (epoch s)
head-is s e head h k = k ∙ ap (λ (n : ℕ). length (number_field 1 n)) (epoch-is s e h)

-- the room for the segments was known
module _ (m : ℕ) (s path o : List ℕ) (e head n : ℕ) (h : e ≡ be_at 8 s 0) (k : head ≡ length (number_field 1 e)) (l : head ≤ length o)
    (r : Some n ≡ room_of (length o - head) path (segments m s)) where
  message-fits : Fits path (segments m s) (epoch s) o head n
  message-fits = message-room path (segments m s) (epoch s) o head (head-is s e head h k) l n r

  -- so many of the pieces are left
  all_left : Writing o 0 (epoch s ++ fields m s path) o 0 (epoch s ∷ fields m s path ∷ [])
  all_left =
      writing-as (epoch s ∷ fields m s path ∷ []) (ap (λ (x : List ℕ). epoch s ++ x) (sym (append-nil (fields m s path))))
      (writing_start o 0 _ message-fits.room)

  wrote-epoch : (q : List ℕ) (at : ℕ) → (at ≡ 0 + length (number_field 1 e)) × (q ≡ put o 0 (number_field 1 e))
      → Writing o 0 (epoch s ++ fields m s path) q at (fields m s path ∷ [])
  wrote-epoch q at f = let p = epoch-is s e h in writing-next all_left _ _ (rw p at f)

pub returns-then-out-head : goal.returns-then-out-head
returns-then-out-head c =
    let a = c.args in
    let s = a.s.now in
    let head = head-is s c.read_u64-epoch.result c.number_size-head.result c.read_u64-epoch.ensures c.number_size-head.ensures in
    message-no-head a.path.now (segments a.m s) (epoch s) a.out.now (omega (arith, c.if-out-head.true, head))

pub returns-in_err-size : goal.returns-in_err-size
returns-in_err-size c =
    let a = c.args in
    let p = err_from_is_err_and c.from_residual.result c.from_residual.ensures.1 in
    let none = due-none _ _ _ (sym c.ok_or.ensures.value ∙ c.in_err-size.was) in
    let s = a.s.now in
    let head = head-is s c.read_u64-epoch.result c.number_size-head.result c.read_u64-epoch.ensures c.number_size-head.ensures in
    rw (p.1, p.2, none.1) (message-beyond a.path.now (segments a.m s) (epoch s) a.out.now c.number_size-head.result head c.if-out-head.false
    (sym none.0 ∙ c.segments_room.ensures))

pub write_segments-requires : goal.write_segments-requires
write_segments-requires c =
    let a = c.args in
    let room = sym (due-some _ _ _ (sym c.ok_or.ensures.value ∙ c.in_ok-size.was)) ∙ c.segments_room.ensures in
    record {
      rest = c.requires;
      s_in_bounds = writing-room (wrote-epoch a.m a.s.now a.path.now a.out.now c.read_u64-epoch.result c.number_size-head.result c.in_ok-size.size
          c.read_u64-epoch.ensures c.number_size-head.ensures c.if-out-head.false room c.write_number-next.new.out c.write_number-next.result c.write_number-next.ensures);
    }

pub overflow_add-result : goal.overflow_add-result
overflow_add-result c =
    let a = c.args in
    let room = sym (due-some _ _ _ (sym c.ok_or.ensures.value ∙ c.in_ok-size.was)) ∙ c.segments_room.ensures in
    let fits = message-fits a.m a.s.now a.path.now a.out.now c.read_u64-epoch.result c.number_size-head.result c.in_ok-size.size
    c.read_u64-epoch.ensures c.number_size-head.ensures c.if-out-head.false room in
    omega (arith, c.well_formed, fits.size)

pub returns : goal.returns
returns c =
    let a = c.args in
    let s = a.s.now in
    let room = sym (due-some _ _ _ (sym c.ok_or.ensures.value ∙ c.in_ok-size.was)) ∙ c.segments_room.ensures in
    let fits = message-fits a.m s a.path.now a.out.now c.read_u64-epoch.result c.number_size-head.result c.in_ok-size.size
    c.read_u64-epoch.ensures c.number_size-head.ensures c.if-out-head.false room in
    let first = wrote-epoch a.m s a.path.now a.out.now c.read_u64-epoch.result c.number_size-head.result c.in_ok-size.size
    c.read_u64-epoch.ensures c.number_size-head.ensures c.if-out-head.false room c.write_number-next.new.out c.write_number-next.result c.write_number-next.ensures in
    let wrote = (writing-end (writing-next first _ _ c.write_segments.ensures)).1 in
    message-written a.path.now (segments a.m s) (epoch s) a.out.now _ _ fits _ wrote
