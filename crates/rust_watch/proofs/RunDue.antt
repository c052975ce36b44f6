-- In a run whose inputs are roomy none of ours is due (`none-due-run`), so demand 2 holds of it whole (`demand-two-watch-of-inputs`).
--
-- In order: how long the set and the lists of a change may be (`size-sorted` to `size-after`), so what an update did fits (`Grows`); what it leaves
-- of the buffer (`Moves`) and of the set (`Formed`); the run, by induction.
-- Assumes nothing.
use Rattle.std.specs.Prelude.{⊤, Result, Ok, Err}
use Prim.Native.Nat.{ℕ, ◌+◌, ◌^◌, ◌≤◌, ◌<◌}
use native.Mathlib.Omega.{arith}
use mathlib.Core.Path.{◌≡◌, refl, sym, ap, ◌∙◌, subst}
use mathlib.Core.Bool.{true, false, not, ◌&&◌}
use mathlib.Core.List.{List, [], ◌∷◌, ◌++◌}
use lib.ListN.{length, take}
use lib.Seq.{length-take-le}
use lib.Dec.{eqb, leb, ltb}
use borrow.Author.Tests.{not-true, leb-true, le-leb, ltb-true, lt-ltb}
use Rattle.slice.specs.BoolLaws.{both, both_true}
use Rattle.slice.proofs.PartLaws.{Bytes-take}
use Rattle.slice_int.proofs.PutLaws.{length-put}
use Rattle.wire_schema.specs.declared.MessageKind.TheVariants.{CommandWatchScalableTopicsUpdate}
use Rattle.wire_schema.specs.FirstFault.{first_fault}
use Rattle.wire_readers.specs.Messages.{WireEvent, none, snapshot, diff, WireWatchUpdate, watch_update_of}
use Rattle.keyed.proofs.KeyedLaws.{choose}
use Rattle.watch_topics.specs.Topics.{insert_all, sorted, rising, all_short}
use Rattle.watch_topics.specs.Packed.{decode_topics, encode_topics, size_topics, is_whole, all_utf8, is_set}
use Rattle.watch_topics.proofs.PackedLaws.{length-encode, size-append, size-topics, read_short}
use Rattle.watch_lists.proofs.SizeLaws.{size-insert_all, size-filter}
use Rattle.wire_values.specs.Values.{parts_of}
use Rattle.watch_window.specs.declared.Listing.TheVariants.{Added, Removed}
use Rattle.watch_window.specs.Lists.{kept, is_listed, added_of, removed_of}
use Rattle.watch.specs.Watch.{Change, WatchOutcome, snapshot_by, diff_by, settle, by_event, for_watch, when_checked, handle_update}
use Rattle.watch.proofs.Keeps.{leaves-of-short}
use Rattle.rust_magnetar.specs.Text.{Text}
use Rattle.rust_magnetar.specs.Watch.{Snapshot, Diff, ScalableTopicsWatch, WatchDid, handle-event, handle-update}
use Rattle.rust_watch.specs.Demand.{Shown, Update, Held, set_in, watch_step, used_after, held_after, port_shown, rust_run, is_ours, fed_updates, fed_shown}
use Rattle.rust_watch.specs.Demand.{opened, is_taken, named_by, fits_did}
use Rattle.rust_watch.specs.Demand.{named_size, all_named, roomy_update, all_roomy, none_ours, port_run, RoomyRun, NoneDueRun, DemandTwoWatchOfInputs}
use Rattle.rust_watch.proofs.LoopLaws.{did, diff_is, snapshot-is}
use Rattle.rust_watch.proofs.StepAgrees.{set-rising, step-agrees}
use Rattle.rust_watch.proofs.NoneDue.{none-due}
use Rattle.rust_watch.proofs.Demanded.{demand-two-watch}
use Rattle.refusal.specs.declared.Refusal.{Refusal}

-- ---- how long a change may be

size-nil : size_topics [] ≡ 0
unfolding size_topics
size-nil = refl

size-sorted : (l : List Text) → size_topics (sorted l) ≤ size_topics l
size-sorted l = omega (arith, size-insert_all l [], size-nil)

module _ (old added removed : List Text) where
  size-kept : size_topics (kept old removed) ≤ size_topics old
  unfolding kept
  size-kept = size-filter _ old

  size-added : size_topics (added_of old removed added) ≤ size_topics added
  unfolding added_of
  size-added = omega (arith, size-filter (is_listed Added old removed) (sorted added), size-sorted added)

  size-removed : size_topics (removed_of old removed) ≤ size_topics removed
  unfolding removed_of
  size-removed = omega (arith, size-filter (is_listed Removed old removed) (sorted removed), size-sorted removed)

  size-after : size_topics (insert_all added (kept old removed)) ≤ size_topics old + size_topics (added ++ removed)
  size-after = omega (arith, size-insert_all added (kept old removed), size-kept, size-append added removed)

module _ (id : ℕ) (h : Held) (u : Update) where
  abbrev old : List Text
  old = set_in h

  -- what an update did: it fits, and the set has grown by no more than the topics that were named
  record Grows (named : ℕ) (d : WatchDid) : Type 0 where
    fits : fits_did d d.result h u ≡ true
    grown : size_topics d.after.topics ≤ size_topics old + named

  module _ (named : ℕ) (few : named < 2 ^ 32) (out : 5 + named ≤ length u.out) (room : size_topics old + named ≤ length h.buffer) where
    grows-snapshot : (l : List Text) → size_topics l ≤ named → Grows named (did id (sorted l) (Snapshot (sorted l)))
    grows-snapshot l n =
        let size = size_topics (sorted l) in
        let k : size ≤ named = omega (arith, size-sorted l) in
        record {
          fits =
              both (leb size (length h.buffer)) (leb (1 + size) (length u.out))
              (le-leb size (length h.buffer) (omega arith)) (le-leb (1 + size) (length u.out) (omega arith));
          grown = omega arith;
        }

    grows-diff : (a r : List Text) → size_topics (a ++ r) ≤ named
        → Grows named (did id (insert_all a (kept old r)) (Diff (added_of old r a) (removed_of old r)))
    grows-diff a r n =
        let size = size_topics (insert_all a (kept old r)) in
        let added = size_topics (added_of old r a) in
        let removed = size_topics (removed_of old r) in
        let k : size ≤ size_topics old + named = omega (arith, size-after old a r) in
        let w : added + removed ≤ named = omega (arith, size-added old a r, size-removed old a r, size-append a r) in
        record {
          fits =
              both (leb size (length h.buffer)) (ltb added (2 ^ 32) && leb (5 + added + removed) (length u.out))
              (le-leb size (length h.buffer) (omega arith))
              (both (ltb added (2 ^ 32)) (leb (5 + added + removed) (length u.out))
              (lt-ltb added (2 ^ 32) (omega arith)) (le-leb (5 + added + removed) (length u.out) (omega arith)));
          grown = k;
        }

    grows-event : rising old ≡ true → (w : WireWatchUpdate) (e : WireEvent) → size_topics (named_by e) ≤ named
        → Grows named (handle-event w e (opened id h))
    grows-event r w none n = record { fits = refl; grown = omega arith }
    grows-event r w (snapshot p) n = subst (Grows named) (sym (snapshot-is id old _)) (grows-snapshot (parts_of 1 p) n)
    grows-event r w (diff p) n = subst (Grows named) (sym (diff_is id old (parts_of 1 p) (parts_of 2 p) r)) (grows-diff (parts_of 1 p) (parts_of 2 p) n)

    grows : rising old ≡ true → (w : WireWatchUpdate) → size_topics (named_by w.event) ≤ named → Grows named (handle-update w (opened id h))
    grows r w n =
        choose (Grows named) (not (eqb w.watch_id id)) (λ t. record { fits = refl; grown = omega arith }) (λ t. grows-event r w w.event n)

-- ---- what an update leaves

module _ (buffer out : List ℕ) where
  -- a change is no longer than the buffer; a refusal leaves it as it is
  abbrev MovesBy : Result (ℕ × ℕ) Refusal → List ℕ → Type 0
  MovesBy (Ok (set, n)) b = set ≤ length buffer
  MovesBy (Err x) b = b ≡ buffer

  abbrev Moves : WatchOutcome → Type 0
  Moves x = (length x.buffer ≡ length buffer) × MovesBy x.answer x.buffer

  moves-settle : (c : Change) → Moves (settle buffer out c)
  unfolding settle
  moves-settle c =
      choose Moves (all_short c.named && leb (size_topics c.topics) (length buffer))
      (λ e. choose Moves (ltb c.added (2 ^ 32) && leb (length c.output) (length out))
      (λ f.
      let size = size_topics c.topics in
      let q = leb-true size (length buffer) (both_true (all_short c.named) (leb size (length buffer)) e).1 in
      (length-put buffer 0 (encode_topics c.topics) (omega (arith, length-encode c.topics, q)), q))
      (λ f. (refl, refl)))
      (λ e. (refl, refl))

  moves-event : (old : List Text) (w : WireWatchUpdate) (e : WireEvent) → Moves (by_event buffer out old w e)
  unfolding by_event
  moves-event o w none = (refl, refl)
  moves-event o w (snapshot p) = moves-settle (snapshot_by p)
  moves-event o w (diff p) = moves-settle (diff_by o p)

  moves-checked : (id : ℕ) (old : List Text) (m : List ℕ) (k : Result ⊤ Refusal) → Moves (when_checked buffer out id old m k)
  unfolding for_watch
  moves-checked id o m (Err x) = (refl, refl)
  moves-checked id o m (Ok v) =
      let w = watch_update_of m in choose Moves (not (eqb w.watch_id id)) (λ t. (refl, refl)) (λ t. moves-event o w w.event)

  moves : (id used : ℕ) (m : List ℕ) → Moves (handle_update buffer out id used m)
  unfolding handle_update for_watch by_event settle
  moves id used m =
      choose Moves (leb used (length buffer) && is_set (take used buffer))
      (λ e. moves-checked id (decode_topics (take used buffer)) m (first_fault CommandWatchScalableTopicsUpdate m)) (λ e. (refl, refl))

-- a well-formed set of short topics, with room for so many bytes more
record Formed (more : ℕ) (h : Held) : Type 0 where
  inside : h.used ≤ length h.buffer
  set : is_set (take h.used h.buffer) ≡ true
  short : all_short (set_in h) ≡ true
  room : size_topics (set_in h) + more ≤ length h.buffer

module _ (id : ℕ) (h : Held) (u : Update) (more : ℕ) (f : Formed (named_size u + more) h) (q : roomy_update u ≡ true) where
  abbrev w : WireWatchUpdate
  w = watch_update_of u.message

  abbrev x : WatchOutcome
  x = watch_step id h u

  read : (is_taken (first_fault CommandWatchScalableTopicsUpdate u.message) ≡ true)
      × (all_short (named_by w.event) && (ltb (named_size u) (2 ^ 32) && leb (5 + named_size u) (length u.out))) ≡ true
  read = both_true (is_taken (first_fault CommandWatchScalableTopicsUpdate u.message)) _ q

  named : (all_short (named_by w.event) ≡ true) × (ltb (named_size u) (2 ^ 32) && leb (5 + named_size u) (length u.out)) ≡ true
  named = both_true (all_short (named_by w.event)) _ read.1

  sized : (ltb (named_size u) (2 ^ 32) ≡ true) × leb (5 + named_size u) (length u.out) ≡ true
  sized = both_true (ltb (named_size u) (2 ^ 32)) _ named.1

  did-grow : Grows id h u (named_size u) (handle-update w (opened id h))
  did-grow =
      grows id h u (named_size u) (ltb-true (named_size u) (2 ^ 32) sized.0)
      (leb-true (5 + named_size u) (length u.out) sized.1) (omega (arith, f.room))
      (set-rising (take h.used h.buffer) f.set) w (omega arith)

  clean : is_ours x.answer ≡ false
  clean =
      none-due id h u
      (both (leb h.used (length h.buffer) && is_set (take h.used h.buffer)) _
      (both (leb h.used (length h.buffer)) _ (le-leb h.used (length h.buffer) f.inside) f.set)
      (both (is_taken (first_fault CommandWatchScalableTopicsUpdate u.message)) _ read.0
      (both (all_short (named_by w.event)) _ named.0 did-grow.fits)))

  moved : Moves h.buffer u.out x
  moved = moves h.buffer u.out id h.used u.message

  inside-by : (a : Result (ℕ × ℕ) Refusal) → MovesBy h.buffer u.out a x.buffer → used_after h.used a ≤ length x.buffer
  inside-by (Ok (set, n)) m = omega (arith, moved.0, m)
  inside-by (Err y) m = omega (arith, moved.0, f.inside)

  set-by : (a : Result (ℕ × ℕ) Refusal) → x.answer ≡ a → MovesBy h.buffer u.out a x.buffer → is_set (take (used_after h.used a) x.buffer) ≡ true
  set-by (Ok (set, n)) e m = leaves-of-short h.buffer u.out id h.used u.message (λ g. f.short) set n e
  set-by (Err y) e m = ap (λ (b : List ℕ). is_set (take h.used b)) m ∙ f.set

  next-formed : Formed more (held_after h x)
  next-formed =
      let g = (step-agrees id h u f.short).agrees clean in
      let z : size_topics (set_in (held_after h x)) ≡ size_topics (handle-update w (opened id h)).after.topics =
      ap (λ (v : ScalableTopicsWatch). size_topics v.topics) g.next in
      record {
        inside = inside-by x.answer moved.1;
        set = set-by x.answer refl moved.1;
        short = g.short;
        room = omega (arith, z, did-grow.grown, f.room, moved.0);
      }

-- ---- the run

module _ (id : ℕ) where
  none_from : (us : List Update) (h : Held) → Formed (all_named us) h → all_roomy us ≡ true → none_ours id h us ≡ true
  none_from [] h f q = refl
  none_from (u ∷ us) h f q =
      let p = both_true (roomy_update u) (all_roomy us) q in
      both (not (is_ours (watch_step id h u).answer)) _ (ap not (clean id h u (all_named us) f p.0))
      (none_from us (held_after h (watch_step id h u)) (next-formed id h u (all_named us) f p.0) p.1)

  -- where none of ours is due, no update is left out
  all-fed : (us : List Update) (h : Held) → none_ours id h us ≡ true → (fed_updates id h us ≡ us) × (fed_shown id h us ≡ port_run id h us)
  all-fed [] h q = (refl, refl)
  all-fed (u ∷ us) h q =
      let x = watch_step id h u in
      let p = both_true (not (is_ours x.answer)) (none_ours id (held_after h x) us) q in
      let r = all-fed us (held_after h x) p.1 in
      let o : is_ours x.answer ≡ false = not-true (is_ours x.answer) p.0 in
      rw o (ap (λ (l : List Update). u ∷ l) r.0, ap (λ (l : List Shown). port_shown h u x ∷ l) r.1)

start-formed : (h : Held) (updates : List Update) → RoomyRun h updates → Formed (all_named updates) h
unfolding is_set
start-formed h updates q =
    let l = take h.used h.buffer in
    let b = Bytes-take h.used h.buffer q.bytes in
    let whole = (both_true (is_whole l) (all_utf8 (decode_topics l) && rising (decode_topics l)) q.set).0 in
    record {
      inside = omega (arith, q.room);
      set = q.set;
      short = read_short l b whole;
      room = omega (arith, q.room, size-topics l b whole, length-take-le h.used h.buffer (omega (arith, q.room)));
    }

pub none-due-run : NoneDueRun
none-due-run id h updates q = none_from id updates h (start-formed h updates q) q.updates-roomy

pub demand-two-watch-of-inputs : DemandTwoWatchOfInputs
demand-two-watch-of-inputs id h updates bytes q =
    let r = all-fed id updates h (none-due-run id h updates q) in
    let l = le-leb h.used (length h.buffer) (omega (arith, q.room)) in
    sym r.1 ∙ demand-two-watch id h q.bytes l q.set updates bytes ∙ ap (rust_run (opened id h)) r.0
