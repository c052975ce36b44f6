-- Where the inputs are roomy none of ours is due (`none-due`), so the exception of demand 2 is no way out.
-- Assumes nothing.
use Rattle.std.specs.Prelude.{ℤ, ⊤, Option, Some, None, Result, Ok, Err}
use Prim.Native.Nat.{ℕ, ◌+◌, ◌^◌}
use native.Mathlib.Omega.{arith}
use mathlib.Core.Path.{◌≡◌, refl, sym, ap, ◌∙◌, subst}
use mathlib.Core.Bool.{true, false, not, ◌&&◌, false≢true}
use mathlib.Core.List.{List, ◌∷◌, ◌++◌}
use lib.ListN.{length, take, length-append}
use lib.Dec.{eqb, leb, ltb}
use Rattle.slice.specs.BoolLaws.{both_true}
use Rattle.slice_int.specs.Be.{bytes_of}
use Rattle.slice_int.proofs.BeLaws.{length-bytes_of}
use Rattle.wire_schema.specs.declared.MessageKind.TheVariants.{CommandWatchScalableTopicsUpdate}
use Rattle.wire_schema.specs.FirstFault.{first_fault}
use Rattle.wire_readers.specs.Messages.{WireEvent, none, snapshot, diff, WireWatchUpdate, watch_update_of}
use Rattle.watch_topics.specs.Topics.{insert_all, sorted, rising, all_short}
use Rattle.watch_topics.specs.Packed.{encode_topics, size_topics, is_set}
use Rattle.watch_topics.proofs.PackedLaws.{length-encode}
use Rattle.wire.specs.Fields.{Field}
use Rattle.wire_values.specs.Values.{parts_of}
use Rattle.watch_window.specs.Lists.{kept, added_of, removed_of}
use Rattle.watch.specs.Watch.{Change, WatchOutcome, snapshot_change, snapshot_by, diff_output, diff_change, diff_by}
use Rattle.watch.specs.Watch.{no_event, refuse, settle, by_event, for_watch, when_checked, handle_update}
use Rattle.rust_magnetar.specs.Text.{Text}
use Rattle.rust_magnetar.specs.Watch.{Snapshot, Diff, WatchDid, handle-event, handle-update}
use Rattle.rust_watch.specs.Demand.{Update, Held, set_in, is_ours, opened, is_taken, named_by, fits_change, fits_did, NoneDue}
use Rattle.rust_watch.proofs.LoopLaws.{did, diff_is, snapshot-is}
use Rattle.rust_watch.proofs.StepAgrees.{set-rising, both-choose}
use Rattle.refusal.specs.declared.Refusal.{Refusal}

-- the lengths of the outputs
snapshot-length : (l : List Text) → length (0 ∷ encode_topics l) ≡ 1 + size_topics l
snapshot-length l = omega (arith, length-encode l)

diff-length : (a r : List Text) → length (diff_output a r) ≡ 5 + size_topics a + size_topics r
diff-length a r =
    let A = encode_topics a in
    let R = encode_topics r in
    let B = bytes_of 4 (size_topics a) in
    omega (arith, length-append B (A ++ R), length-append A R, length-bytes_of 4 (size_topics a), length-encode a, length-encode r)

module _ (id : ℕ) (h : Held) (u : Update) where
  abbrev buffer : List ℕ
  buffer = h.buffer

  abbrev out : List ℕ
  out = u.out

  abbrev old : List Text
  old = set_in h

  settle-clean : (c : Change) → all_short c.named ≡ true → leb (size_topics c.topics) (length buffer) ≡ true
      → (ltb c.added (2 ^ 32) && leb (length c.output) (length out)) ≡ true → is_ours (settle buffer out c).answer ≡ false
  unfolding settle
  settle-clean c a b f = simp (a, b, f)

  -- what fits beside what the Rust did
  abbrev Clean : WatchOutcome → WatchDid → Type 0
  Clean x d = fits_did d d.result h u ≡ true → is_ours x.answer ≡ false

  none-clean : (w : WireWatchUpdate) (c : Option ℤ) → is_ours (refuse buffer out (no_event w.watch_id c)).answer ≡ false
  none-clean w (Some code) = refl
  none-clean w None = refl

  snapshot-clean : (p : List Field) → all_short (parts_of 1 p) ≡ true
      → Clean (settle buffer out (snapshot_by p)) (did id (sorted (parts_of 1 p)) (Snapshot (sorted (parts_of 1 p))))
  unfolding snapshot_change
  snapshot-clean p a f =
      let set = sorted (parts_of 1 p) in
      let q = both_true (leb (size_topics set) (length buffer)) (leb (1 + size_topics set) (length out)) f in
      settle-clean (snapshot_by p) a q.0 (ap (λ (n : ℕ). leb n (length out)) (snapshot-length set) ∙ q.1)

  diff-clean : (p : List Field) → all_short (parts_of 1 p ++ parts_of 2 p) ≡ true
      → Clean (settle buffer out (diff_by old p))
      (did id (insert_all (parts_of 1 p) (kept old (parts_of 2 p)))
      (Diff (added_of old (parts_of 2 p) (parts_of 1 p)) (removed_of old (parts_of 2 p))))
  unfolding diff_change
  diff-clean p a f =
      let set = insert_all (parts_of 1 p) (kept old (parts_of 2 p)) in
      let added = added_of old (parts_of 2 p) (parts_of 1 p) in
      let removed = removed_of old (parts_of 2 p) in
      let q = both_true (leb (size_topics set) (length buffer)) (fits_change (Diff added removed) (length out)) f in
      settle-clean (diff_by old p) a q.0
      (ap (λ (n : ℕ). ltb (size_topics added) (2 ^ 32) && leb n (length out)) (diff-length added removed) ∙ q.1)

  event-clean : rising old ≡ true → (w : WireWatchUpdate) (e : WireEvent) → all_short (named_by e) ≡ true
      → Clean (by_event buffer out old w e) (handle-event w e (opened id h))
  unfolding by_event
  event-clean r w none a = λ f. none-clean w w.error
  event-clean r w (snapshot p) a =
      subst (Clean (by_event buffer out old w (snapshot p))) (sym (snapshot-is id old _)) (snapshot-clean p a)
  event-clean r w (diff p) a =
      subst (Clean (settle buffer out (diff_by old p))) (sym (diff_is id old (parts_of 1 p) (parts_of 2 p) r)) (diff-clean p a)

  valid-clean : rising old ≡ true → (w : WireWatchUpdate) → all_short (named_by w.event) ≡ true
      → Clean (for_watch buffer out id old w) (handle-update w (opened id h))
  unfolding for_watch
  valid-clean r w a = both-choose Clean (not (eqb w.watch_id id)) (λ e f. refl) (λ e. event-clean r w w.event a)

  checked-clean : rising old ≡ true → (k : Result ⊤ Refusal) → is_taken k ≡ true
      → all_short (named_by (watch_update_of u.message).event) ≡ true
      → Clean (when_checked buffer out id old u.message k) (handle-update (watch_update_of u.message) (opened id h))
  checked-clean r (Err x) t a = absurd (false≢true t)
  checked-clean r (Ok v) t a = valid-clean r (watch_update_of u.message) a

pub none-due : NoneDue
unfolding handle_update for_watch by_event settle
none-due id h u e =
    let w = watch_update_of u.message in
    let d = handle-update w (opened id h) in
    let k = first_fault CommandWatchScalableTopicsUpdate u.message in
    let set = leb h.used (length h.buffer) && is_set (take h.used h.buffer) in
    let p = both_true set (is_taken k && (all_short (named_by w.event) && fits_did d d.result h u)) e in
    let q = both_true (is_taken k) (all_short (named_by w.event) && fits_did d d.result h u) p.1 in
    let f = both_true (all_short (named_by w.event)) (fits_did d d.result h u) q.1 in
    let g = both_true (leb h.used (length h.buffer)) (is_set (take h.used h.buffer)) p.0 in
    rw p.0 (checked-clean id h u (set-rising (take h.used h.buffer) g.1) k q.0 f.0 f.1)
