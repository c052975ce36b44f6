-- The replay of the queue, and its last list in a buffer.
--
-- In order: epochs (`buffer-epoch`, `entry-epoch`); the queue's epochs from one on (`Epochs`: `epochs-start`, `stale-end`, `stale-here`, `stale-next`), and the fault
-- that they are (`stale-fault`); where the last entry begins (`last_begins`); the last list (`last_none`, `last_some`); the queue that is replayed (`replayed-is`, `replayed-reads`).
-- Assumes nothing.
use Rattle.std.specs.Prelude.{Ok, Err}
use Prim.Native.Nat.{ℕ, zero, suc, ◌+◌, ◌-◌, ◌≤◌, ◌<◌}
use native.Mathlib.Nat.{add-sub_cancel_left}
use native.Mathlib.Omega.{arith}
use mathlib.Core.Path.{◌≡◌, refl, sym, ap, ap₂, ◌∙◌, subst}
use mathlib.Core.Bool.{Bool, true, false, cond, not}
use mathlib.Core.List.{List, [], ◌∷◌, ◌++◌, append-nil, append_assoc}
use lib.ListN.{length, take, drop, length-drop, length-append, drop_of_length-le, take-append-drop}
use lib.Seq.{take-take, drop-drop, length-take-le}
use lib.Dec.{ltb, leb}
use borrow.Author.Tests.{le-ltb, lt-ltb, leb-true}
use Rattle.slice.specs.BoolLaws.{both_true}
use Rattle.slice.proofs.PartLaws.{Bytes, Bytes-take, Bytes-drop}
use Rattle.slice_int.specs.Be.{be, be_at}
use Rattle.slice_int.specs.Put.{put}
use Rattle.packed.specs.Assignment.{ConsumerAssignment, num, encode_assignment, size_assignment, decode_assignment, starts_assignment}
use Rattle.packed.proofs.RoundLaws.{write-assignment, read-assignment, fit-assignment, starts-encode}
use Rattle.packed_queue.specs.Entries.{size_entry, size_entries, sheet_in, entry_end, decode_entries, entries_end, starts_entry, start_entries}
use Rattle.packed_queue.proofs.WalkLaws.{entry-inside, sheet-size}
use Rattle.session.specs.declared.SessionRecord.{SessionRecord}
use Rattle.session.specs.Store.{queue_in, queue_reads}
use Rattle.session.specs.Session.{view, damaged}
use Rattle.session.specs.Response.{stale_fault, last_list, replayable}
use Rattle.session_store.specs.Scratch.{Scratch}
use Rattle.session_store.specs.Places.{Lies, entry_in}
use Rattle.session_store.proofs.StoreLaws.{queue-starts}
use Rattle.session_response.specs.Replay.{stale_of, stale_refusal, LastBegins, LastIs}

-- ---- epochs

-- of the packed assignment at the front of a buffer
pub buffer-epoch : (b : List ℕ) (e : ℕ) → e ≡ be_at 8 b 0 → e ≡ (decode_assignment b).layout_epoch
unfolding be_at decode_assignment num
buffer-epoch b e f = f

-- a list has ten bytes at least
long : (l : List ℕ) → starts_entry l ≡ true → 10 ≤ num 2 l
unfolding size_assignment
long l h = omega (arith, sheet-size l h)

-- and of the list of the entry at a place
entry-epoch : (st : List ℕ) (at e : ℕ) → starts_entry (drop at st) ≡ true → e ≡ be_at 8 st (at + 2) → e ≡ (decode_assignment (sheet_in (drop at st))).layout_epoch
unfolding be_at decode_assignment num sheet_in
entry-epoch st at e h f =
    f ∙ ap (λ x. be (take 8 x)) (sym (drop-drop 2 at st))
    ∙ ap be (sym (take-take 8 (num 2 (drop at st)) (drop 2 (drop at st)) (omega (arith, long (drop at st) h))))

-- ---- the queue's epochs

-- the entries that are left from a place on decide, from the epoch before them on
pub record Epochs (st : List ℕ) (epoch n prev last at left : ℕ) : Type 0 where
  pub inside : at ≤ length st
  pub reads : start_entries left (drop at st) ≡ true
  pub decide : stale_of 6144 6144 epoch (queue_in st n) ≡ stale_of last at prev (decode_entries left (drop at st))

pub epochs-start : (st : List ℕ) (epoch n : ℕ) → 6144 ≤ length st → queue_reads st n ≡ true → Epochs st epoch n epoch 6144 6144 n
unfolding queue_reads queue_in
epochs-start st epoch n big h = record { inside = big; reads = h; decide = refl }

module _ (st : List ℕ) (epoch n prev last at left : ℕ) (w : Epochs st epoch n prev last at left) where
  pub stale-end : left ≤ 0 → Ok last ≡ stale_of 6144 6144 epoch (queue_in st n)
  unfolding stale_of decode_entries
  stale-end h = let e : left ≡ 0 = omega arith in sym (w.decide ∙ ap (λ m. stale_of last at prev (decode_entries m (drop at st))) e)

  module _ (h : 0 < left) where
    split-first : (starts_entry (drop at st) ≡ true) × (start_entries (left - 1) (drop (entry_end (drop at st)) (drop at st)) ≡ true)
    unfolding start_entries
    split-first =
        let e : left ≡ suc (left - 1) = omega arith in
        both_true (starts_entry (drop at st)) _ (ap (λ m. start_entries m (drop at st)) (sym e) ∙ w.reads)

    first : starts_entry (drop at st) ≡ true
    first = split-first.0

    pub length-room : at + 2 ≤ length st
    length-room = omega (arith, entry-inside (drop at st) first, length-drop at st, w.inside)

    pub epoch-room : at + 2 + 8 ≤ length st
    epoch-room = omega (arith, entry-inside (drop at st) first, length-drop at st, w.inside, long (drop at st) first)

    module _ (size : ℕ) (z : size ≡ be_at 2 st at) where
      size_is : size ≡ num 2 (drop at st)
      unfolding num be_at
      size_is = z

      pub next-room : at + 2 + size ≤ length st
      next-room = omega (arith, entry-inside (drop at st) first, length-drop at st, w.inside, size_is)

      -- the entry behind it
      next : drop (entry_end (drop at st)) (drop at st) ≡ drop (at + 2 + size) st
      next =
          let e : at + entry_end (drop at st) ≡ at + 2 + size = omega (arith, size_is) in
          drop-drop (entry_end (drop at st)) at st ∙ ap (λ m. drop m st) e

      module _ (got : ℕ) (f : got ≡ be_at 8 st (at + 2)) where
        step : stale_of last at prev (decode_entries left (drop at st))
            ≡ cond (ltb got prev) (Err (got, prev)) (stale_of at (at + 2 + size) got (decode_entries (left - 1) (drop (at + 2 + size) st)))
        unfolding stale_of decode_entries
        step =
            let e : left ≡ suc (left - 1) = omega arith in
            let a : ConsumerAssignment = decode_assignment (sheet_in (drop at st)) in
            let g : a.layout_epoch ≡ got = sym (entry-epoch st at got first f) in
            let p : at + size_entry a ≡ at + 2 + size = omega (arith, size_is, sheet-size (drop at st) first) in
            ap (λ m. stale_of last at prev (decode_entries m (drop at st))) e
            ∙ ap (λ x. cond (ltb x prev) (Err (x, prev)) (stale_of at (at + size_entry a) x (decode_entries (left - 1) (drop (entry_end (drop at st)) (drop at st))))) g
            ∙ ap₂ (λ x y. cond (ltb got prev) (Err (got, prev)) (stale_of at x got (decode_entries (left - 1) y))) p next

        pub stale-here : got < prev → Err (got, prev) ≡ stale_of 6144 6144 epoch (queue_in st n)
        stale-here l = sym (w.decide ∙ step ∙ rw (lt-ltb got prev l) refl)

        pub stale-next : prev ≤ got → Epochs st epoch n got at (at + 2 + size) (left - 1)
        stale-next l =
            record {
              inside = next-room;
              reads = ap (start_entries (left - 1)) (sym next) ∙ split-first.1;
              decide = w.decide ∙ step ∙ rw (le-ltb got prev l) refl;
            }

pub stale-fault : (last at : ℕ) (a : ConsumerAssignment) (q : List ConsumerAssignment)
    → stale_fault a q ≡ stale_refusal (stale_of last at a.layout_epoch q)
unfolding stale_fault stale_of
stale-fault last at a [] = refl
stale-fault last at a (x ∷ q) = go (ltb x.layout_epoch a.layout_epoch) refl (stale-fault at (at + size_entry x) x q)
  where
    go : (t : Bool) → ltb x.layout_epoch a.layout_epoch ≡ t
        → stale_fault x q ≡ stale_refusal (stale_of at (at + size_entry x) x.layout_epoch q)
        → stale_fault a (x ∷ q) ≡ stale_refusal (stale_of last at a.layout_epoch (x ∷ q))
    go true e f = rw e refl
    go false e f = rw e f

-- ---- where the last entry begins

-- the place that the walk ends with
abbrev last_place : ℕ → ℕ → List ConsumerAssignment → ℕ
last_place last at [] = last
last_place last at (a ∷ q) = last_place at (at + size_entry a) q

place-told : (last at prev : ℕ) (q : List ConsumerAssignment) (x : ℕ) → Ok x ≡ stale_of last at prev q → x ≡ last_place last at q
unfolding stale_of
place-told last at prev [] x e = cc
place-told last at prev (a ∷ q) x e = go (ltb a.layout_epoch prev) refl (place-told at (at + size_entry a) a.layout_epoch q x)
  where
    go : (t : Bool) → ltb a.layout_epoch prev ≡ t
        → (Ok x ≡ stale_of at (at + size_entry a) a.layout_epoch q → x ≡ last_place at (at + size_entry a) q)
        → x ≡ last_place at (at + size_entry a) q
    go true h k =
        let f : Ok x ≡ Err (a.layout_epoch, prev) = e ∙ rw h refl in
        let z : ◌≡◌ {A = ℕ} 0 1 = cc in
        absurd (omega arith)
    go false h k = k (e ∙ rw h refl)

place_is : (n last at : ℕ) (l : List ℕ) → last_place last at (decode_entries (suc n) l) ≡ at + size_entries (decode_entries n l)
unfolding decode_entries size_entries
place_is zero last at l = omega arith
place_is (suc n) last at l =
    let m = drop (entry_end l) l in
    place_is n at (at + size_entry (decode_assignment (sheet_in l))) m ∙ omega arith

pub last_begins : (st : List ℕ) (epoch n x : ℕ) → Ok x ≡ stale_of 6144 6144 epoch (queue_in st n) → LastBegins st n x
unfolding queue_in
last_begins st epoch n x e h =
    let k : n ≡ suc (n - 1) = omega arith in
    place-told 6144 6144 epoch (decode_entries n (drop 6144 st)) x e
    ∙ ap (λ m. last_place 6144 6144 (decode_entries m (drop 6144 st))) k ∙ place_is (n - 1) 6144 6144 (drop 6144 st)

-- ---- the last list

-- a buffer that is written from end to end
put_whole : (l vs : List ℕ) → length l ≡ length vs → put l 0 vs ≡ vs
unfolding put
put_whole l vs e = ap (λ (t : List ℕ). vs ++ t) (drop_of_length-le l {i = 0 + length vs} (omega arith)) ∙ append-nil vs

-- a packed assignment with more behind it
module _ (l r : List ℕ) (b : Bytes l) (h : starts_assignment l ≡ true) where
  size_in : size_assignment (decode_assignment l) ≤ length l
  unfolding starts_assignment
  size_in = leb-true _ _ (both_true (leb (size_assignment (decode_assignment l)) (length l)) _ h).0

  split : l ++ r ≡ encode_assignment (decode_assignment l) ++ (drop (size_assignment (decode_assignment l)) l ++ r)
  split =
      ap (◌++ r) (sym (take-append-drop (size_assignment (decode_assignment l)) l))
      ∙ append_assoc (take (size_assignment (decode_assignment l)) l) (drop (size_assignment (decode_assignment l)) l) r
      ∙ ap (◌++ (drop (size_assignment (decode_assignment l)) l ++ r)) (sym (write-assignment l size_in b))

  more-holds : decode_assignment (l ++ r) ≡ decode_assignment l
  more-holds = ap decode_assignment split ∙ read-assignment (decode_assignment l) _ (fit-assignment l b)

  more-starts : starts_assignment (l ++ r) ≡ true
  unfolding starts_assignment
  more-starts =
      ap starts_assignment split
      ∙ starts-encode (decode_assignment l) _ (fit-assignment l b) (both_true (leb (size_assignment (decode_assignment l)) (length l)) _ h).1

last_of : (b : ConsumerAssignment) (n : ℕ) (l : List ℕ) → last_list b (decode_entries (suc n) l) ≡ decode_assignment (sheet_in (drop (entries_end n l) l))
unfolding last_list decode_entries entries_end
last_of b zero l = refl
last_of b (suc n) l =
    last_of (decode_assignment (sheet_in l)) n (drop (entry_end l) l)
    ∙ ap (λ x. decode_assignment (sheet_in x)) (drop-drop (entries_end n (drop (entry_end l) l)) (entry_end l) l)

last-in : (b : ConsumerAssignment) (st : List ℕ) (n : ℕ) → 0 < n → last_list b (queue_in st n) ≡ entry_in st (n - 1)
unfolding queue_in entry_in
last-in b st n h =
    let e : n ≡ suc (n - 1) = omega arith in
    ap (λ m. last_list b (decode_entries m (drop 6144 st))) e ∙ last_of b (n - 1) (drop 6144 st)

-- nothing is replayed
pub last_none : (st b : List ℕ) (size : ℕ) → Scratch b size → LastIs st b 0 size b
unfolding last_list queue_in decode_entries
last_none st b size s = record { scratch = s; is_last = refl }

module _ (st b last last' : List ℕ) (n at size : ℕ) (h : 0 < n) (bytes : Bytes st) (y : Lies st at size (entry_in st (n - 1)))
    (z : size ≡ size_assignment (entry_in st (n - 1))) (l : length last ≡ 2048) (w : last' ≡ put last 0 (take (at + size - at) (drop at st))) where
  copied : last' ≡ take size (drop at st) ++ drop (0 + length (take size (drop at st))) last
  unfolding put
  copied = w ∙ ap (λ m. put last 0 (take m (drop at st))) (add-sub_cancel_left at size)

  sheet-bytes : Bytes (take size (drop at st))
  sheet-bytes = Bytes-take size (drop at st) (Bytes-drop at st bytes)

  sheet-long : length (take size (drop at st)) ≡ size
  sheet-long = length-take-le size (drop at st) (omega (arith, y.inside, length-drop at st))

  last-holds : decode_assignment last' ≡ entry_in st (n - 1)
  last-holds = ap decode_assignment copied ∙ more-holds (take size (drop at st)) _ sheet-bytes y.starts ∙ y.holds

  last-starts : starts_assignment last' ≡ true
  last-starts = ap starts_assignment copied ∙ more-starts (take size (drop at st)) _ sheet-bytes y.starts

  pub last_some : LastIs st b n size last'
  last_some =
      record {
        scratch =
            record {
              long =
                  ap length copied ∙ length-append (take size (drop at st)) _
                  ∙ omega (arith, sheet-long, l, y.few, length-drop (0 + length (take size (drop at st))) last);
              starts = last-starts;
              size = z ∙ ap size_assignment (sym last-holds);
            };
        is_last = last-holds ∙ sym (last-in (decode_assignment b) st n h);
      }

-- ---- the queue that is replayed

module _ (r : SessionRecord) (st : List ℕ) where
  pub replayed-is : (n : ℕ) → n ≡ cond r.registered 0 r.queue_count → replayable (view r st) ≡ queue_in st n
  unfolding view queue_in decode_entries
  replayed-is n e = go r.registered ∙ ap (queue_in st) (sym e)
    where
      go : (t : Bool) → cond t [] (queue_in st r.queue_count) ≡ queue_in st (cond t 0 r.queue_count)
      go true = refl
      go false = refl

  -- it can be read
  pub replayed-reads : (n : ℕ) → n ≡ cond r.registered 0 r.queue_count → damaged (view r st) ≡ false → queue_reads st n ≡ true
  unfolding queue_reads start_entries
  replayed-reads n e d = subst (λ (m : ℕ). queue_reads st m ≡ true) (sym e) (go r.registered)
    where
      go : (t : Bool) → queue_reads st (cond t 0 r.queue_count) ≡ true
      go true = refl
      go false = queue-starts r st (ap not d)
