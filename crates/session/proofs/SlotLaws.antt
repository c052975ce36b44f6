-- Slots and the queue, written and read.
--
-- In order: a part of a store in which bytes were put (`part_same`, `part-before`, `part-behind`, `rest-behind`); a slot behind bytes
-- that were put into one (`put_same`, `put_other`) or behind the slots (`put-above`); a list written to a slot (`length-slotted` to
-- `area-slotted`); the lists of the queue where they stand (`Queued`: `queued-none` to `queued-same`), and one more (`length-pushed` to `queue-pushed`).
-- Assumes nothing.
use Prim.Native.Nat.{ℕ, ◌+◌, ◌-◌, ◌*◌, ◌≤◌, ◌<◌}
use native.Mathlib.Omega.{arith}
use mathlib.Core.Path.{◌≡◌, refl, sym, ap, ◌∙◌, subst}
use mathlib.Core.Logic.{◌≢◌}
use mathlib.Core.Bool.{Bool, true, false}
use mathlib.Core.List.{List, [], ◌∷◌, ◌++◌, append_assoc}
use lib.ListN.{length, take, drop, get_or, length-append, length-take, length-drop, take-append-drop}
use lib.Seq.{length-take-le, take-append-le, drop-append-le, drop-append-add, take-append-add, drop-drop, drop_at, take_at, take-add, take_all}
use lib.Dec.{ltb}
use borrow.Author.Tests.{ltb-true, ltb-false}
use Rattle.slice_int.specs.Put.{put}
use Rattle.slice_int.proofs.PutLaws.{length-put}
use Rattle.packed.specs.Assignment.{ConsumerAssignment, slot_size, encode_assignment, decode_assignment, starts_assignment}
use Rattle.packed.proofs.RoundLaws.{length-encode_assignment, read-assignment, starts-encode}
use Rattle.keyed.proofs.EachLaws.{Each, each_append}
use Rattle.packed_queue.specs.Entries.{encode_entry, encode_entries, size_entry, size_entries, decode_entries}
use Rattle.packed_queue.proofs.EntryLaws.{Packable, packable-size, length-encode_entry, length-encode_entries, encode_snoc}
use Rattle.packed_queue.proofs.EntryLaws.{Row, row-none, row_read, row-start, row-front, row-sheet}
use Rattle.session.specs.Store.{slot, list_in, queue_in, queue_reads, queue_end, to_slot, push, write_one}

-- ---- a part of a store in which bytes were put

-- one that begins where they were put, and is no shorter, begins with them
pub part_same : (a n : ℕ) (bytes st : List ℕ) → length bytes ≤ n → a ≤ length st
    → take n (drop a (put st a bytes)) ≡ bytes ++ take (n - length bytes) (drop (a + length bytes) st)
unfolding put
part_same a n bytes st h l =
    let split : n ≡ length bytes + (n - length bytes) = omega arith in
    ap (take n) (drop_at (take a st) (bytes ++ drop (a + length bytes) st) a (length-take-le a st l))
    ∙ ap (λ m. take m (bytes ++ drop (a + length bytes) st)) split
    ∙ take-append-add bytes (drop (a + length bytes) st) (n - length bytes)

-- one that ends before them is as it was
pub part-before : (a b n : ℕ) (bytes st : List ℕ) → b + n ≤ a → a ≤ length st → take n (drop b (put st a bytes)) ≡ take n (drop b st)
unfolding put
part-before a b n bytes st h l =
    cut (bytes ++ drop (a + length bytes) st) ∙ sym (cut (drop a st)) ∙ ap (λ x. take n (drop b x)) (take-append-drop a st)
  where
    cut : (rest : List ℕ) → take n (drop b (take a st ++ rest)) ≡ take n (drop b (take a st))
    cut rest =
        ap (take n) (drop-append-le b (take a st) rest (simp length-take (omega arith)))
        ∙ take-append-le n (drop b (take a st)) rest (simp (length-drop, length-take) (omega arith))

-- and so is one that begins behind them
pub part-behind : (a b n : ℕ) (bytes st : List ℕ) → a + length bytes ≤ b → a ≤ length st
    → take n (drop b (put st a bytes)) ≡ take n (drop b st)
unfolding put
part-behind a b n bytes st h l =
    let place : b ≡ length (take a st ++ bytes) + (b - (a + length bytes)) = simp (length-append, length-take) (omega arith) in
    let back : a + length bytes + (b - (a + length bytes)) ≡ b = omega arith in
    ap (take n)
    (ap (drop b) (sym (append_assoc (take a st) bytes (drop (a + length bytes) st)))
    ∙ ap (λ m. drop m ((take a st ++ bytes) ++ drop (a + length bytes) st)) place
    ∙ drop-append-add (take a st ++ bytes) (drop (a + length bytes) st) (b - (a + length bytes))
    ∙ drop-drop (b - (a + length bytes)) (a + length bytes) st
    ∙ ap (λ m. drop m st) back)

-- all that is left behind them
pub rest-behind : (a b : ℕ) (bytes st : List ℕ) → a + length bytes ≤ b → a + length bytes ≤ length st → drop b (put st a bytes) ≡ drop b st
rest-behind a b bytes st h l =
    let e : length (put st a bytes) ≡ length st = length-put st a bytes l in
    let whole : (x : List ℕ) → length x ≡ length st → take (length st) (drop b x) ≡ drop b x =
    λ x f. take_all (length st) (drop b x) (rw length-drop (omega arith)) in
    sym (whole (put st a bytes) e) ∙ part-behind a b (length st) bytes st h (omega arith) ∙ whole st refl

-- ---- a slot behind bytes that were put into one

module _ (k : ℕ) (bytes st : List ℕ) (short : length bytes ≤ 2048) (inside : 2048 * k + 2048 ≤ length st) where
  pub put_same : slot (put st (2048 * k) bytes) k ≡ bytes ++ take (2048 - length bytes) (drop (2048 * k + length bytes) st)
  unfolding slot
  put_same = part_same (2048 * k) 2048 bytes st short (omega arith)

  pub put_other : (j : ℕ) → j ≢ k → slot (put st (2048 * k) bytes) j ≡ slot st j
  unfolding slot
  put_other j h = go (ltb j k) refl
    where
      go : (b : Bool) → ltb j k ≡ b → take 2048 (drop (2048 * j) (put st (2048 * k) bytes)) ≡ take 2048 (drop (2048 * j) st)
      go true t = part-before (2048 * k) (2048 * j) 2048 bytes st (omega (arith, ltb-true j k t)) (omega arith)
      go false t = part-behind (2048 * k) (2048 * j) 2048 bytes st (omega (arith, ltb-false j k t)) (omega arith)

-- a slot behind bytes that were put above it
pub put-above : (place k : ℕ) (bytes st : List ℕ) → 2048 * k + 2048 ≤ place → place ≤ length st → slot (put st place bytes) k ≡ slot st k
unfolding slot
put-above place k bytes st h l = part-before place (2048 * k) 2048 bytes st h l

-- ---- a list written to a slot

module _ (k : ℕ) (a : ConsumerAssignment) (st : List ℕ) (p : Packable a) (inside : 2048 * k + 2048 ≤ length st) where
  short : length (encode_assignment a) ≤ 2048
  short = omega (arith, length-encode_assignment a, packable-size a p)

  pub length-slotted : length (write_one (to_slot k a) st) ≡ length st
  unfolding write_one
  length-slotted = length-put st (2048 * k) (encode_assignment a) (omega (arith, short))

  -- the slot starts with the packed assignment
  slot_same : slot (write_one (to_slot k a) st) k
      ≡ encode_assignment a ++ take (2048 - length (encode_assignment a)) (drop (2048 * k + length (encode_assignment a)) st)
  unfolding write_one
  slot_same = put_same k (encode_assignment a) st short inside

  pub list_same : list_in (write_one (to_slot k a) st) k ≡ a
  unfolding list_in
  list_same = ap decode_assignment slot_same ∙ read-assignment a _ p.fits

  pub starts-same : starts_assignment (slot (write_one (to_slot k a) st) k) ≡ true
  starts-same = ap starts_assignment slot_same ∙ starts-encode a _ p.fits p.ok

  pub slot-other : (j : ℕ) → j ≢ k → slot (write_one (to_slot k a) st) j ≡ slot st j
  unfolding write_one
  slot-other j h = put_other k (encode_assignment a) st short inside j h

  -- the queue is as it was
  pub area-slotted : k < 3 → drop 6144 (write_one (to_slot k a) st) ≡ drop 6144 st
  unfolding write_one
  area-slotted h = rest-behind (2048 * k) 6144 (encode_assignment a) st (omega (arith, short)) (omega (arith, short))

-- ---- the lists of the queue

-- n lists stand in the queue
pub record Queued (st : List ℕ) (n : ℕ) : Type 0 where
  pub lists : List ConsumerAssignment
  pub row : Row lists (drop 6144 st)
  pub counted : length lists ≡ n

pub queued-none : (st : List ℕ) → Queued st 0
queued-none st = record { lists = []; row = row-none (drop 6144 st); counted = refl }

-- in a store with the same bytes there
pub queue-same : (st : List ℕ) (n : ℕ) (su : List ℕ) → drop 6144 su ≡ drop 6144 st → queue_in su n ≡ queue_in st n
unfolding queue_in
queue-same st n su e = ap (decode_entries n) e

module _ (st : List ℕ) (n : ℕ) (h : Queued st n) where
  pub queued-lists : queue_in st n ≡ h.lists
  unfolding queue_in
  queued-lists =
      row_read h.lists (drop 6144 st) h.row n (omega (arith, h.counted)) ∙ take_all n h.lists (omega (arith, h.counted))

  pub queued-reads : queue_reads st n ≡ true
  unfolding queue_reads
  queued-reads = row-start h.lists (drop 6144 st) h.row n (omega (arith, h.counted))

  pub queued-packable : Each Packable (queue_in st n)
  queued-packable = subst (Each Packable) (sym queued-lists) h.row.packable

  -- the first of them
  pub queued-front : (m : ℕ) → m ≤ n → Queued st m
  queued-front m l =
      record {
        lists = take m h.lists;
        row = row-front h.lists (drop 6144 st) h.row m;
        counted = length-take-le m h.lists (omega (arith, h.counted));
      }

  pub queued-take : (m : ℕ) → m ≤ n → queue_in st m ≡ take m (queue_in st n)
  unfolding queue_in
  queued-take m l =
      row_read h.lists (drop 6144 st) h.row m (omega (arith, h.counted)) ∙ ap (take m) (sym queued-lists)

  -- the list of one of them, behind its length
  pub queued-sheet : (i : ℕ) (z : ConsumerAssignment) → i < length (queue_in st n)
      → decode_assignment (take slot_size (drop (queue_end (take i (queue_in st n)) + 2) st)) ≡ get_or (queue_in st n) i z
  queued-sheet i z l =
      let m : ℕ = size_entries (take i (queue_in st n)) + 2 in
      let e : 6144 + size_entries (take i (queue_in st n)) + 2 ≡ 6144 + m = omega arith in
      ap (λ k. decode_assignment (take slot_size (drop k st))) e ∙ ap (λ x. decode_assignment (take slot_size x)) (sym (drop-drop m 6144 st))
      ∙ row-sheet (queue_in st n) (drop 6144 st) (subst (λ q. Row q (drop 6144 st)) (sym queued-lists) h.row) i z l

  -- in a store with the same bytes there
  pub queued-same : (su : List ℕ) → drop 6144 su ≡ drop 6144 st → Queued su n
  queued-same su e = record { lists = h.lists; row = subst (Row h.lists) (sym e) h.row; counted = h.counted }

  -- one more, at their end
  module _ (a : ConsumerAssignment) (p : Packable a) (big : 6144 ≤ length st) (room : queue_end (queue_in st n) + size_entry a ≤ length st) where
    pub length-pushed : length (write_one (push (queue_end (queue_in st n)) a) st) ≡ length st
    unfolding write_one
    length-pushed = length-put st (queue_end (queue_in st n)) (encode_entry a) (omega (arith, room, length-encode_entry a))

    pub slot_pushed : (k : ℕ) → k < 3 → slot (write_one (push (queue_end (queue_in st n)) a) st) k ≡ slot st k
    unfolding write_one
    slot_pushed k l = put-above (queue_end (queue_in st n)) k (encode_entry a) st (omega arith) (omega (arith, room))

    area-pushed : drop 6144 (write_one (push (queue_end (queue_in st n)) a) st)
        ≡ encode_entries (h.lists ++ (a ∷ [])) ++ drop (queue_end (queue_in st n) + length (encode_entry a)) st
    unfolding write_one put
    area-pushed =
        let e : ℕ = queue_end (queue_in st n) in
        let z : size_entries (queue_in st n) ≡ length (encode_entries h.lists) =
        ap size_entries queued-lists ∙ sym (length-encode_entries h.lists) in
        let w : List ℕ = encode_entry a ++ drop (e + length (encode_entry a)) st in
        let front : take e st ≡ take 6144 st ++ encode_entries h.lists =
        take-add 6144 (size_entries (queue_in st n)) st
        ∙ ap (take 6144 st ++◌)
        (ap (take (size_entries (queue_in st n))) h.row.is ∙ take_at (encode_entries h.lists) h.row.rest (size_entries (queue_in st n)) (sym z)) in
        ap (λ x. drop 6144 (x ++ w)) front
        ∙ ap (drop 6144) (append_assoc (take 6144 st) (encode_entries h.lists) w)
        ∙ drop_at (take 6144 st) (encode_entries h.lists ++ w) 6144 (length-take-le 6144 st big)
        ∙ sym (append_assoc (encode_entries h.lists) (encode_entry a) (drop (e + length (encode_entry a)) st))
        ∙ ap (◌++ drop (e + length (encode_entry a)) st) (sym (encode_snoc h.lists a))

    pub queued-push : Queued (write_one (push (queue_end (queue_in st n)) a) st) (n + 1)
    queued-push =
        record {
          lists = h.lists ++ (a ∷ []);
          row =
              record {
                rest = drop (queue_end (queue_in st n) + length (encode_entry a)) st;
                is = area-pushed;
                packable = each_append Packable h.lists (a ∷ []) h.row.packable (p, tt);
              };
          counted = length-append h.lists (a ∷ []) ∙ ap (◌+ 1) h.counted;
        }

pub queue-pushed : (st : List ℕ) (n : ℕ) (h : Queued st n) (a : ConsumerAssignment) (p : Packable a) (big : 6144 ≤ length st)
    (room : queue_end (queue_in st n) + size_entry a ≤ length st)
    → queue_in (write_one (push (queue_end (queue_in st n)) a) st) (n + 1) ≡ queue_in st n ++ (a ∷ [])
unfolding queued-push
queue-pushed st n h a p big room =
    queued-lists (write_one (push (queue_end (queue_in st n)) a) st) (n + 1) (queued-push st n h a p big room)
    ∙ ap (◌++ (a ∷ [])) (sym (queued-lists st n h))
