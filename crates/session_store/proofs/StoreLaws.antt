-- Laws of the store, as every call on it needs them.
--
-- In order: slots as parts of the store (`slot_at`, `part-slot`); baseline and list (`lists-free` to `list-decides`); where the queue ends
-- (`queue-ends`); the cases of the test of a store (`count-bad` to `queue-ended`); what holds of a store that is sound (`count_most` to `queue-starts`); an entry of the
-- queue where it lies (`front_reads` to `entry_next`); a packed assignment at the front of a buffer (`scratch-fits` to `scratch-entry`).
-- Assumes nothing.
use Rattle.std.specs.Prelude.{Some, None}
use Prim.Native.Nat.{ℕ, ◌+◌, ◌-◌, ◌*◌, ◌≤◌, ◌<◌}
use native.Mathlib.Nat.{add-sub_cancel_left}
use native.Mathlib.Omega.{arith}
use mathlib.Core.Path.{◌≡◌, refl, sym, ap, ap₂, ◌∙◌, subst}
use mathlib.Core.Bool.{Bool, true, false, not, ◌&&◌, ◌||◌}
use mathlib.Core.List.{List, ◌++◌}
use lib.ListN.{length, take, drop, length-drop}
use lib.Seq.{drop-drop}
use lib.Dec.{leb, ltb}
use borrow.Author.Tests.{le-ltb, lt-ltb, ltb-false, leb-true, not-true, not-false}
use Rattle.slice.specs.BoolLaws.{both_true}
use Rattle.slice.proofs.PartLaws.{Bytes, rest}
use Rattle.slice_int.specs.Be.{be_at, bytes_of}
use Rattle.packed.specs.Assignment.{num, encode_assignment, decode_assignment, size_assignment, ok_assignment, starts_assignment, is_assignment}
use Rattle.packed.proofs.RoundLaws.{write-assignment}
use Rattle.packed_queue.specs.Entries.{encode_entry, sheet_in, entry_end, entries_end, starts_entry, start_entries}
use Rattle.packed_queue.specs.Answers.{entries_read}
use Rattle.packed_queue.proofs.EntryLaws.{size_ok}
use Rattle.packed_queue.proofs.WalkLaws.{read-there, read-not, ends-inside, ends-by-size, ends-split, start-split, start-at, entry-inside, entry_whole, sheet-size}
use Rattle.session.specs.declared.SessionRecord.{SessionRecord}
use Rattle.session.specs.Store.{slot, queue_in, queue_reads, queue_end}
use Rattle.session.specs.Identity.{is_identity}
use Rattle.session.specs.Session.{position_of, lists_start, in_use, view, any_beyond, damaged}
use Rattle.session.proofs.PositionLaws.{none_within}
use Rattle.session_store.specs.Scratch.{Scratch}
use Rattle.session_store.specs.Places.{QueueEnds, Lies, entry_in}

-- ---- slots

pub slot_at : (st : List ℕ) (k : ℕ) → take 2048 (drop (2048 * k) st) ≡ slot st k
unfolding slot
slot_at st k = refl

-- the part that a program lends: `&store[at..at + SLOT]`, with `at` the place of the slot
pub part-slot : (st : List ℕ) (k : ℕ) → take (2048 * k + 2048 - 2048 * k) (drop (2048 * k) st) ≡ slot st k
unfolding slot
part-slot st k = ap (λ (n : ℕ). take n (drop (2048 * k) st)) (add-sub_cancel_left (2048 * k) 2048)

-- ---- baseline and list

pub lists-free : (t : Bool) (st : List ℕ) → not t ≡ true → true ≡ lists_start t st
lists-free t st f = rw (not-true t f)

module _ (t : Bool) (st : List ℕ) (f : not t ≡ false) (x : Bool) (e : x ≡ starts_assignment (slot st 1)) where
  both : lists_start t st ≡ (x && starts_assignment (slot st 2))
  both = rw (not-false t f, e)

  pub baseline-bad : not x ≡ true → false ≡ lists_start t st
  baseline-bad g = sym (both ∙ rw (not-true x g))

  pub list-decides : not x ≡ false → (y : Bool) → y ≡ starts_assignment (slot st 2) → y ≡ lists_start t st
  list-decides g y i = i ∙ sym (both ∙ rw (not-false x g))

-- ---- the test of a store

not-not : (b : Bool) → not (not b) ≡ b
not-not true = refl
not-not false = refl

or-false : (s t : Bool) → not (s || t) ≡ true → (s ≡ false) × (not t ≡ true)
or-false true t e = let z : ◌≡◌ {A = Bool} false true = e in (cc, cc)
or-false false t e = (refl, e)

-- the part that is lent for the queue
pub part-queue : (st : List ℕ) → take (length st - 6144) (drop 6144 st) ≡ drop 6144 st
part-queue st = rest st 6144

-- where the queue ends
module _ (st : List ℕ) (n : ℕ) (big : 6144 ≤ length st) (h : queue_reads st n ≡ true) where
  queue-ends : (size : ℕ) → size ≡ entries_end n (drop 6144 st) → QueueEnds st n (6144 + size)
  unfolding queue_reads queue_in
  queue-ends size e =
      record {
        at = ap (6144 +◌) (e ∙ sym (ends-by-size n (drop 6144 st) h));
        inside = omega (arith, ends-inside n (drop 6144 st) h, length-drop 6144 st);
      }

module _ (r : SessionRecord) (st : List ℕ) where
  pub count-bad : 1024 < r.queue_count → damaged (view r st) ≡ true
  unfolding damaged view
  count-bad h = simp (lt-ltb 1024 r.queue_count h)

  module _ (h : r.queue_count ≤ 1024) where
    pub position-bad : any_beyond 8 r.queue_count r.drain_positions ≡ true → damaged (view r st) ≡ true
    unfolding damaged view
    position-bad k = simp (le-ltb 1024 r.queue_count h, k)

    module _ (k : any_beyond 8 r.queue_count r.drain_positions ≡ false) where
      slots-decide : damaged (view r st) ≡ not (in_use r st)
      unfolding damaged view
      slots-decide = simp (le-ltb 1024 r.queue_count h, k)

      module _ (x : Bool) (ex : x ≡ is_identity (slot st 0)) where
        pub identity-bad : not x ≡ true → damaged (view r st) ≡ true
        unfolding in_use
        identity-bad f = slots-decide ∙ simp (← ex, not-true x f)

        module _ (f : not x ≡ false) (y : Bool) (ey : y ≡ lists_start r.registered st) where
          pub lists-bad : not y ≡ true → damaged (view r st) ≡ true
          unfolding in_use
          lists-bad g = slots-decide ∙ simp (← ex, not-false x f, ← ey, not-true y g)

          module _ (g : not y ≡ false) where
            queue-decides : damaged (view r st) ≡ not (queue_reads st r.queue_count)
            unfolding in_use
            queue-decides = slots-decide ∙ simp (← ex, not-false x f, ← ey, not-false y g)

            pub queue-bad : None ≡ entries_read r.queue_count (take (length st - 6144) (drop 6144 st)) → damaged (view r st) ≡ true
            unfolding queue_reads
            queue-bad e =
                queue-decides ∙ ap not (read-not r.queue_count (drop 6144 st) (e ∙ ap (entries_read r.queue_count) (part-queue st)))

            module _ (size : ℕ) (e : Some size ≡ entries_read r.queue_count (take (length st - 6144) (drop 6144 st))) where
              told : (queue_reads st r.queue_count ≡ true) × (size ≡ entries_end r.queue_count (drop 6144 st))
              unfolding queue_reads
              told = read-there r.queue_count (drop 6144 st) size (e ∙ ap (entries_read r.queue_count) (part-queue st))

              pub queue-valid : damaged (view r st) ≡ false
              queue-valid = queue-decides ∙ ap not told.0

              pub queue-ended : 6144 ≤ length st → QueueEnds st r.queue_count (6144 + size)
              queue-ended big = queue-ends st r.queue_count big told.0 size told.1

-- ---- a store that is sound

module _ (r : SessionRecord) (st : List ℕ) (e : not (damaged (view r st)) ≡ true) where
  counts : (ltb 1024 r.queue_count ≡ false)
      × (not (any_beyond 8 r.queue_count r.drain_positions || not (in_use r st)) ≡ true)
  unfolding damaged view
  counts = or-false (ltb 1024 r.queue_count) _ e

  pub count_most : r.queue_count ≤ 1024
  count_most = ltb-false _ _ counts.0

  places : (any_beyond 8 r.queue_count r.drain_positions ≡ false) × (not (not (in_use r st)) ≡ true)
  places = or-false (any_beyond 8 r.queue_count r.drain_positions) (not (in_use r st)) counts.1

  pub position_in : (reader : ℕ) → reader < 8 → position_of r reader ≤ r.queue_count
  position_in reader h = none_within 8 r.queue_count r.drain_positions places.0 reader h

  slots : (is_identity (slot st 0) ≡ true) × ((lists_start r.registered st && queue_reads st r.queue_count) ≡ true)
  unfolding in_use
  slots = both_true (is_identity (slot st 0)) _ (sym (not-not (in_use r st)) ∙ places.1)

  pub identity-valid : is_identity (slot st 0) ≡ true
  identity-valid = slots.0

  pub lists-start : r.registered ≡ true → (starts_assignment (slot st 1) ≡ true) × (starts_assignment (slot st 2) ≡ true)
  lists-start f =
      both_true (starts_assignment (slot st 1)) _
      (subst (λ (t : Bool). lists_start t st ≡ true) f (both_true (lists_start r.registered st) _ slots.1).0)

  pub queue-starts : queue_reads st r.queue_count ≡ true
  queue-starts = (both_true (lists_start r.registered st) _ slots.1).1

-- ---- where the queue ends, and an entry of it where it lies

-- a list that fills its length
pub sheet-few : (l : List ℕ) → starts_entry l ≡ true → num 2 l ≤ 2048
unfolding is_assignment starts_assignment
sheet-few l h =
    let a = decode_assignment (sheet_in l) in
    let s = (both_true (starts_assignment (sheet_in l)) _ (entry_whole l h)).0 in
    let o = (both_true (leb (size_assignment a) (length (sheet_in l))) _ s).1 in
    omega (arith, sheet-size l h, size_ok a o)

module _ (st : List ℕ) (n : ℕ) (big : 6144 ≤ length st) (h : queue_reads st n ≡ true) where
  -- the first of them
  front_reads : (i : ℕ) → i ≤ n → queue_reads st i ≡ true
  unfolding queue_reads
  front_reads i l =
      let e : i + (n - i) ≡ n = omega arith in (start-split i (n - i) (drop 6144 st) (ap (λ m. start_entries m (drop 6144 st)) e ∙ h)).0

module _ (st : List ℕ) (n i : ℕ) (big : 6144 ≤ length st) (h : queue_reads st n ≡ true) (l : i < n) (at : ℕ) (p : at ≡ queue_end (queue_in st i)) where
  begins : at ≡ 6144 + entries_end i (drop 6144 st)
  unfolding queue_reads queue_in
  begins = p ∙ ap (6144 +◌) (ends-by-size i (drop 6144 st) (front_reads st n big h i (omega arith)))

  -- it stands at its place
  valid : starts_entry (drop (entries_end i (drop 6144 st)) (drop 6144 st)) ≡ true
  unfolding queue_reads
  valid = start-at n i (drop 6144 st) h l

  there : drop (entries_end i (drop 6144 st)) (drop 6144 st) ≡ drop at st
  there = drop-drop (entries_end i (drop 6144 st)) 6144 st ∙ ap (λ m. drop m st) (sym begins)

  entry-fits : at + entry_end (drop at st) ≤ length st
  entry-fits =
      let a : entry_end (drop at st) ≤ length (drop at st) = entry-inside (drop at st) (ap starts_entry (sym there) ∙ valid) in
      omega (arith, a, length-drop at st)

  pub entry-room : at + 2 ≤ length st
  entry-room = omega (arith, entry-fits)

  module _ (size : ℕ) (z : size ≡ be_at 2 st at) where
    long : size ≡ num 2 (drop at st)
    unfolding num be_at
    long = z

    sheet : take size (drop (at + 2) st) ≡ sheet_in (drop (entries_end i (drop 6144 st)) (drop 6144 st))
    unfolding sheet_in
    sheet = ap₂ take long (sym (drop-drop 2 at st)) ∙ ap (λ x. take (num 2 x) (drop 2 x)) (sym there)

    pub entry-lies : Lies st (at + 2) size (entry_in st i)
    unfolding entry_in is_assignment
    entry-lies =
        let x = drop (entries_end i (drop 6144 st)) (drop 6144 st) in
        record {
          inside = omega (arith, entry-fits, long);
          few = omega (arith, long, ap (num 2) (sym there), sheet-few x valid);
          starts = ap starts_assignment sheet ∙ (both_true (starts_assignment (sheet_in x)) _ (entry_whole x valid)).0;
          holds = ap decode_assignment sheet;
        }

    -- a list fills its length
    pub entry-size : size ≡ size_assignment (entry_in st i)
    unfolding entry_in
    entry-size = long ∙ ap (num 2) (sym there) ∙ sym (sheet-size (drop (entries_end i (drop 6144 st)) (drop 6144 st)) valid)

    -- the next one begins behind it
    pub entry_next : at + 2 + size ≡ queue_end (queue_in st (i + 1))
    unfolding queue_reads queue_in entries_end
    entry_next =
        let e : i + 1 ≤ n = omega arith in
        let f : num 2 (drop at st) ≡ num 2 (drop (entries_end i (drop 6144 st)) (drop 6144 st)) = ap (num 2) (sym there) in
        omega (arith, long, begins, f, ends-split i 1 (drop 6144 st), ends-by-size (i + 1) (drop 6144 st) (front_reads st n big h (i + 1) e))

-- ---- a packed assignment at the front of a buffer

module _ (b : List ℕ) (n : ℕ) (s : Scratch b n) where
  pub scratch-fits : n ≤ 2048
  unfolding starts_assignment
  scratch-fits =
      let z : ℕ = size_assignment (decode_assignment b) in
      omega (arith, s.long, s.size, leb-true z (length b) (both_true (leb z (length b)) (ok_assignment (decode_assignment b)) s.starts).0)

  pub scratch-bytes : Bytes b → take n b ≡ encode_assignment (decode_assignment b)
  scratch-bytes h =
      ap (λ (m : ℕ). take m b) s.size
      ∙ sym (write-assignment b (omega (arith, scratch-fits, s.long, s.size)) h)

  pub scratch-entry : Bytes b → bytes_of 2 n ++ take n b ≡ encode_entry (decode_assignment b)
  unfolding encode_entry
  scratch-entry h = ap₂ ◌++◌ (ap (bytes_of 2) s.size) (scratch-bytes h)
