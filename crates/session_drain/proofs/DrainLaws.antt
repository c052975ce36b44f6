-- Laws of the drain.
--
-- In order: entries of the queue where they lie (`part_lies` to `reaches-next`); the walk over them (`walk_begins` to `goes_on`);
-- what was found (`found_none` to `placed`); the cases of the call (`told` to `replayed`).
-- Assumes nothing.
use Rattle.std.specs.Prelude.{Ok, Err}
use Prim.Native.Nat.{ℕ, zero, suc, ◌+◌, ◌-◌, ◌≤◌, ◌<◌}
use native.Mathlib.Nat.{add-zero, zero-add, not-suc-le-zero, add-sub_cancel_left}
use native.Mathlib.Numerals.{add-one}
use native.Mathlib.Omega.{arith}
use mathlib.Core.Path.{◌≡◌, refl, sym, ap, ◌∙◌, subst}
use mathlib.Core.Bool.{Bool, true, false, cond, not}
use mathlib.Core.List.{List, [], ◌∷◌}
use lib.ListN.{length, take, drop}
use lib.Seq.{drop-drop}
use borrow.Author.Tests.{lt-ltb, le-ltb, le-leb, lt-leb, not-true, not-false}
use Rattle.refusal.specs.declared.Refusal.TheVariants.{StoreTooShort, OutputTooShort, UnknownReader, MalformedStore}
use Rattle.slice_int.specs.Be.{be_at}
use Rattle.slice_int.specs.Put.{put}
use Rattle.packed.specs.Assignment.{ConsumerAssignment, decode_assignment}
use Rattle.packed.specs.Equal.{same_assignment}
use Rattle.packed_queue.specs.Entries.{size_entries, sheet_in, entry_end, decode_entries, entries_end}
use Rattle.packed_queue.proofs.WalkLaws.{ends-split, entries-take}
use Rattle.packed_delta.specs.Delta.{AssignmentDelta, encode_delta, size_delta}
use Rattle.packed_delta.specs.Change.{delta_between}
use Rattle.session.specs.declared.SessionRecord.{SessionRecord}
use Rattle.session.specs.declared.Changed.{Changed}
use Rattle.session.specs.declared.Answer.TheVariants.{Unchanged, Replay}
use Rattle.session.specs.Store.{slot, list_in, queue_in, queue_end}
use Rattle.session.specs.Session.{position_of, view, damaged}
use Rattle.session.specs.Drain.{Found, end, entry, next_change, with_position, entry_place, drained, drain_call}
use Rattle.session.specs.Calls.{call_outcome, effect_of, drain_outcome}
use Rattle.session_store.specs.Places.{Lies, entry_in, list_before}
use Rattle.session_store.proofs.StoreLaws.{count_most, lists-start, queue-starts, entry-room, entry-lies, entry_next}
use Rattle.session_drain.specs.declared.Reached.{Reached}
use Rattle.session_drain.specs.Entries.{found_at, Entries, Reaches}

-- ---- entries where they lie

-- as the part that the program lends
part_lies : (st : List ℕ) (at size : ℕ) (a : ConsumerAssignment) → Lies st at size a → Lies st at (at + size - at) a
part_lies st at size a y = subst (λ m. Lies st at m a) (sym (add-sub_cancel_left at size)) y

before-later : (st : List ℕ) (i at size : ℕ) → 0 < i → Lies st at size (entry_in st (i - 1)) → Lies st at size (list_before st i)
before-later st zero at size h y = absurd (omega arith)
before-later st (suc i) at size h y = let e : suc i - 1 ≡ i = omega arith in subst (λ m. Lies st at size (entry_in st m)) e y

-- the first entry, behind the baseline
pub reaches-first : (st : List ℕ) (n : ℕ) → Entries st n → Reaches st (record { i = 0; at = 6144; before = 2048; until = 4096 })
unfolding list_in slot queue_in decode_entries size_entries
reaches-first st n e =
    record {
      here = refl;
      rises = omega arith;
      lies = record { inside = omega (arith, e.big); few = omega arith; starts = e.baseline; holds = refl };
    }

module _ (st : List ℕ) (n : ℕ) (r : Reached) (w : Reaches st r) (e : Entries st n) (h : r.i < n) where
  pub next-length : r.at + 2 ≤ length st
  next-length = entry-room st n r.i e.big e.queue h r.at w.here

  module _ (len : ℕ) (z : len ≡ be_at 2 st r.at) where
    pub next-lies : Lies st (r.at + 2) (r.at + 2 + len - (r.at + 2)) (entry_in st r.i)
    next-lies = part_lies st (r.at + 2) len (entry_in st r.i) (entry-lies st n r.i e.big e.queue h r.at w.here len z)

    pub next-inside : r.at + 2 + len ≤ length st
    next-inside = (entry-lies st n r.i e.big e.queue h r.at w.here len z).inside

    -- the entry behind it
    pub reaches-next : Reaches st (record { i = r.i + 1; at = r.at + 2 + len; before = r.at + 2; until = r.at + 2 + len })
    reaches-next =
        record {
          here = entry_next st n r.i e.big e.queue h r.at w.here len z;
          rises = omega arith;
          lies = before-later st (r.i + 1) _ _ (omega arith) (subst (λ m. Lies st (r.at + 2) (r.at + 2 + len - (r.at + 2)) (entry_in st m)) (sym back) next-lies);
        }
      where
        back : r.i + 1 - 1 ≡ r.i
        back = omega arith

-- the delta to entry i from the list before it
abbrev change_to : List ℕ → ℕ → AssignmentDelta
change_to st i = delta_between (list_before st i) (entry_in st i)

-- ---- the walk over the entries

-- the lists of n entries from entry i on
abbrev lists_from : List ℕ → ℕ → ℕ → List ConsumerAssignment
lists_from st zero i = []
lists_from st (suc n) i = entry_in st i ∷ lists_from st n (suc i)

lists-from : (st : List ℕ) (n i : ℕ) → decode_entries n (drop (entries_end i (drop 6144 st)) (drop 6144 st)) ≡ lists_from st n i
unfolding decode_entries entry_in entries_end
lists-from st zero i = refl
lists-from st (suc n) i =
    let l = drop 6144 st in
    let x = drop (entries_end i l) l in
    let e : entries_end (suc i) l ≡ entries_end i l + entry_end x = ap (λ m. entries_end m l) (sym (add-one i)) ∙ ends-split i 1 l ∙ omega arith in
    ap (decode_assignment (sheet_in x) ∷◌)
    (ap (decode_entries n) (drop-drop (entry_end x) (entries_end i l) l ∙ ap (λ m. drop m l) (sym e)) ∙ lists-from st n (suc i))

queue-from : (st : List ℕ) (n : ℕ) → queue_in st n ≡ lists_from st n 0
unfolding queue_in entries_end
queue-from st n = lists-from st n 0

-- the next change among the m entries from entry i on
abbrev pub rest : List ℕ → ℕ → ℕ → Found
rest st m i = next_change i (list_before st i) (lists_from st m i) 0

-- the entries before the position are passed over
begin-at : (st : List ℕ) (j k n : ℕ) → k ≤ n → next_change j (list_before st j) (lists_from st n j) k ≡ rest st (n - k) (j + k)
unfolding next_change
begin-at st j zero n h = let e : n - 0 ≡ n = omega arith in rw (e, add-zero j)
begin-at st j (suc k) zero h = absurd (not-suc-le-zero h)
begin-at st j (suc k) (suc n) h =
    let e : suc n - suc k ≡ n - k = omega arith in
    let f : j + suc k ≡ suc j + k = omega arith in
    rw (e, f) (begin-at st (suc j) k n (omega arith))

module _ (st : List ℕ) (n : ℕ) where
  pub walk_begins : (k : ℕ) → k ≤ n → next_change 0 (list_in st 1) (queue_in st n) k ≡ rest st (n - k) k
  walk_begins k h = ap (λ q. next_change 0 (list_in st 1) q k) (queue-from st n) ∙ begin-at st 0 k n h ∙ ap (rest st (n - k)) (zero-add k)

  walk_ends : (i : ℕ) → i ≤ n → n ≤ i → rest st (n - i) i ≡ found_at st n i
  unfolding found_at next_change
  walk_ends i l h = let e : n - i ≡ 0 = omega arith in rw (e, le-ltb i n h)

-- an entry, compared with the list before it
module _ (st : List ℕ) (n i : ℕ) (h : i < n) where
  looked : rest st (n - i) i
      ≡ cond (same_assignment (list_before st i) (entry_in st i)) (rest st (n - (i + 1)) (i + 1)) (entry i (change_to st i))
  unfolding next_change
  looked =
      let e : n - i ≡ suc (n - suc i) = omega arith in
      rw (e, add-one i)

  module _ (x : Bool) (a b : ConsumerAssignment) (p : a ≡ list_before st i) (q : b ≡ entry_in st i) (e : x ≡ same_assignment a b) where
    pub entry-same : not x ≡ false → rest st (n - i) i ≡ rest st (n - (i + 1)) (i + 1)
    entry-same f = looked ∙ rw (← p, ← q, ← e, not-false x f)

    pub entry-differs : not x ≡ true → rest st (n - i) i ≡ found_at st n i
    unfolding found_at
    entry-differs f = looked ∙ rw (← p, ← q, ← e, not-true x f, lt-ltb i n h)

-- what the program knows before it looks at an entry
pub record Walked (st : List ℕ) (from n : ℕ) (r : Reached) : Type 0 where
  pub low : r.i ≤ n
  pub reaches : Reaches st r
  pub found : next_change 0 (list_in st 1) (queue_in st n) from ≡ rest st (n - r.i) r.i

module _ (st : List ℕ) (from n : ℕ) (r : Reached) (w : Walked st from n r) where
  pub ended : n ≤ r.i → next_change 0 (list_in st 1) (queue_in st n) from ≡ found_at st n r.i
  ended h = w.found ∙ walk_ends st n r.i (omega (arith, w.low)) h

  module _ (e : Entries st n) (h : r.i < n) (len : ℕ) (z : len ≡ be_at 2 st r.at) (x : Bool)
      (f : x ≡ same_assignment (decode_assignment (take (r.until - r.before) (drop r.before st)))
      (decode_assignment (take (r.at + 2 + len - (r.at + 2)) (drop (r.at + 2) st)))) where
    pub stops : not x ≡ true → next_change 0 (list_in st 1) (queue_in st n) from ≡ found_at st n r.i
    stops g = w.found ∙ entry-differs st n r.i h x _ _ w.reaches.lies.holds (next-lies st n r w.reaches e h len z).holds f g

    pub goes_on : not x ≡ false → Walked st from n (record { i = r.i + 1; at = r.at + 2 + len; before = r.at + 2; until = r.at + 2 + len })
    goes_on g =
        record {
          low = omega arith;
          reaches = reaches-next st n r w.reaches e h len z;
          found = w.found ∙ entry-same st n r.i h x _ _ w.reaches.lies.holds (next-lies st n r w.reaches e h len z).holds f g;
        }

-- ---- what was found

found_none : (st : List ℕ) (n i : ℕ) → i ≡ n → found_at st n i ≡ end
unfolding found_at
found_none st n i e = rw (le-ltb i n (omega arith))

found_some : (st : List ℕ) (n i : ℕ) → i < n → found_at st n i ≡ entry i (change_to st i)
unfolding found_at
found_some st n i h = rw (lt-ltb i n h)

-- its place
placed : (st : List ℕ) (n i : ℕ) → i < n → entry_place (queue_in st n) i ≡ queue_end (queue_in st i) + 2
unfolding queue_in
placed st n i h = ap (λ q. queue_end q + 2) (entries-take i n (drop 6144 st) (omega arith))

-- ---- the call

-- what is answered, with the record, is what the call gives
pub told : (r : SessionRecord) (st : List ℕ) (reader : ℕ) (out : List ℕ) {x y : Changed} → x ≡ y → call_outcome y.answer y.next st out ≡ drain_outcome r st reader out
    → call_outcome x.answer x.next st out ≡ drain_outcome r st reader out
told r st reader out e h = rw e h

module _ (r : SessionRecord) (st : List ℕ) (reader : ℕ) (out : List ℕ) where
  pub store-short : length st < 6144 → call_outcome (Err StoreTooShort) r st out ≡ drain_outcome r st reader out
  unfolding drain_outcome drain_call view
  store-short h = rw (lt-ltb (length st) 6144 h)

  module _ (h : 6144 ≤ length st) where
    pub output-short : length out < 3210 → call_outcome (Err OutputTooShort) r st out ≡ drain_outcome r st reader out
    unfolding drain_outcome drain_call view
    output-short k = rw (le-ltb (length st) 6144 h, lt-ltb (length out) 3210 k)

    module _ (k : 3210 ≤ length out) where
      pub reader-unknown : 8 ≤ reader → call_outcome (Err UnknownReader) r st out ≡ drain_outcome r st reader out
      unfolding drain_outcome drain_call view
      reader-unknown l = rw (le-ltb (length st) 6144 h, le-ltb (length out) 3210 k, le-leb 8 reader l)

      pub store-bad : reader < 8 → (x : Bool) → x ≡ not (damaged (view r st)) → not x ≡ true
          → call_outcome (Err MalformedStore) r st out ≡ drain_outcome r st reader out
      unfolding drain_outcome drain_call view
      store-bad l x e f =
          rw (
            le-ltb (length st) 6144 h,
            le-ltb (length out) 3210 k,
            lt-leb 8 reader l,
            not-false (damaged (view r st)) (sym e ∙ not-true x f),
          )

-- what is found from the reader's position on
abbrev pub next_of : SessionRecord → List ℕ → ℕ → Found
next_of r st reader = next_change 0 (list_in st 1) (queue_in st r.queue_count) (position_of r reader)

-- a call that is not refused
pub record Taken (r : SessionRecord) (st : List ℕ) (reader : ℕ) (out : List ℕ) : Type 0 where
  pub store : 6144 ≤ length st
  pub output : 3210 ≤ length out
  pub known : reader < 8
  pub sound : not (damaged (view r st)) ≡ true

module _ (r : SessionRecord) (st : List ℕ) (reader : ℕ) (out : List ℕ) (t : Taken r st reader out) where
  pub unregistered : not r.registered ≡ true → call_outcome (Ok Unchanged) r st out ≡ drain_outcome r st reader out
  unfolding drain_outcome drain_call view
  unregistered g =
      rw (
        le-ltb (length st) 6144 t.store,
        le-ltb (length out) 3210 t.output,
        lt-leb 8 reader t.known,
        not-true (damaged (view r st)) t.sound,
        not-true r.registered g,
      )

  module _ (g : not r.registered ≡ false) where
    pub queue-there : Entries st r.queue_count
    queue-there =
        record {
          big = t.store;
          baseline = (lists-start r st t.sound (not-false r.registered g)).0;
          queue = queue-starts r st t.sound;
          few = count_most r st t.sound;
        }

    found : (y : Found) → next_of r st reader ≡ y → effect_of (drained (view r st) reader y) st out ≡ drain_outcome r st reader out
    unfolding drain_outcome drain_call view
    found y q =
        rw (
          le-ltb (length st) 6144 t.store,
          le-ltb (length out) 3210 t.output,
          lt-leb 8 reader t.known,
          not-true (damaged (view r st)) t.sound,
          not-false r.registered g,
          q,
        )

    -- the walk stopped at entry i
    module _ (i : ℕ) (q : next_of r st reader ≡ found_at st r.queue_count i) where
      pub none_left : i ≡ r.queue_count → call_outcome (Ok Unchanged) (with_position r reader r.queue_count) st out ≡ drain_outcome r st reader out
      unfolding view drained
      none_left p = found end (q ∙ found_none st r.queue_count i p)

      pub replayed : i < r.queue_count → (place : ℕ) → place ≡ queue_end (queue_in st i) + 2
          → (a b : ConsumerAssignment) → a ≡ list_before st i → b ≡ entry_in st i
          → (len : ℕ) → len ≡ size_delta (delta_between a b) → (new : List ℕ) → new ≡ put out 0 (encode_delta (delta_between a b))
          → (next : SessionRecord) → next ≡ with_position r reader (i + 1)
          → call_outcome (Ok (Replay place len)) next st new ≡ drain_outcome r st reader out
      unfolding view drained
      replayed p place ep a b ea eb len el new en next ex =
          rw (el, en, ex, ea, eb, add-one i, ep ∙ sym (placed st r.queue_count i p)) (found (entry i (change_to st i)) (q ∙ found_some st r.queue_count i p))
