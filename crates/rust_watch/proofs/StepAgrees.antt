-- One update: a refusal of ours changes nothing, and else what is shown and the set behind it are the Rust's (`step-agrees`).
--
-- In order: bytes read back (`front-back`, `output-snapshot`, `output-diff`); what is asked of a step (`Step`); refusals; a change; the
-- event; the call.
-- Assumes nothing.
use Rattle.std.specs.Prelude.{ℤ, ⊤, Option, Some, None, Result, Ok, Err}
use Prim.Native.Nat.{ℕ, ◌^◌, ◌<◌}
use native.Mathlib.Omega.{arith}
use mathlib.Core.Path.{◌≡◌, refl, sym, ap, ap₂, ◌∙◌, subst}
use mathlib.Core.Bool.{Bool, true, false, cond, not, ◌&&◌, true≢false, false≢true}
use mathlib.Core.List.{List, [], ◌∷◌, ◌++◌}
use lib.ListN.{length, take, drop}
use lib.Seq.{take_at, drop_at}
use lib.Dec.{eqb, leb, ltb}
use borrow.Author.Tests.{ltb-true}
use Rattle.slice.specs.BoolLaws.{both_true}
use Rattle.refusal.specs.declared.Refusal.{Refusal}
use Rattle.refusal.specs.declared.Refusal.TheVariants as refusal
use Rattle.refusal.specs.Refusals.{number_of}
use Rattle.slice_int.specs.Be.{be, bytes_of}
use Rattle.slice_int.specs.Put.{put}
use Rattle.slice_int.proofs.BeLaws.{be-front, drop-front}
use Rattle.slice_int.proofs.PutLaws.{take_put}
use Rattle.wire_schema.specs.declared.MessageKind.TheVariants.{CommandWatchScalableTopicsUpdate}
use Rattle.wire_schema.specs.FirstFault.{first_fault}
use Rattle.wire_readers.specs.Messages.{WireEvent, none, snapshot, diff, WireWatchUpdate, watch_update_of}
use Rattle.keyed.proofs.KeyedLaws.{choose}
use Rattle.watch_topics.specs.Topics.{insert_all, sorted, rising, all_short}
use Rattle.watch_topics.specs.Packed.{decode_topics, encode_topics, size_topics, is_whole, all_utf8, is_set}
use Rattle.watch_topics.proofs.EachLaws.{short-insert_all, short-filter, short-parts}
use Rattle.watch_topics.proofs.PackedLaws.{length-encode, read_back}
use Rattle.wire.specs.Fields.{Field}
use Rattle.wire_values.specs.Values.{parts_of}
use Rattle.watch_window.specs.Lists.{kept, added_of, removed_of}
use Rattle.watch.specs.Watch.{Change, WatchOutcome, snapshot_change, snapshot_by, diff_output, diff_change, diff_by}
use Rattle.watch.specs.Watch.{no_event, refuse, done, settle, by_event, for_watch, when_checked, handle_update}
use Rattle.rust_magnetar.specs.Text.{Text}
use Rattle.rust_magnetar.specs.Watch.{TopicsChange, Snapshot, Diff, TopicsWatchError, WatchMismatch, WatchDid}
use Rattle.rust_magnetar.specs.Watch.{fails, without-event, handle-event, handle-update}
use Rattle.rust_watch.specs.Demand.{paper, text_of, refuses, changes, Update, Held, set_in, watch_step, held_after}
use Rattle.rust_watch.specs.Demand.{change_of, port_shown, rust_shown, ours, is_ours, opened}
use Rattle.rust_watch.proofs.LoopLaws.{did, diff_is, snapshot-is}
use Rattle.rust_watch.proofs.OursLaws.{OursIf, fault-ours}

-- ---- bytes read back

front-back : (b : List ℕ) (l : List Text) → all_short l ≡ true → decode_topics (take (size_topics l) (put b 0 (encode_topics l))) ≡ l
front-back b l s =
    ap (λ (n : ℕ). decode_topics (take n (put b 0 (encode_topics l)))) (sym (length-encode l))
    ∙ ap decode_topics (take_put b 0 (encode_topics l) (omega arith))
    ∙ read_back l s

output-snapshot : (l : List Text) → all_short l ≡ true → change_of (0 ∷ encode_topics l) ≡ Snapshot l
output-snapshot l s = ap Snapshot (read_back l s)

module _ (a r : List Text) (sa : all_short a ≡ true) (sr : all_short r ≡ true) (h : size_topics a < 2 ^ 32) where
  abbrev lists : List ℕ
  lists = encode_topics a ++ encode_topics r

  abbrev sized : List ℕ
  sized = bytes_of 4 (size_topics a) ++ lists

  size_back : be (take 4 sized) ≡ size_topics a
  size_back = be-front 4 (size_topics a) lists (omega arith)

  added-back : decode_topics (take (be (take 4 sized)) (drop 4 sized)) ≡ a
  added-back =
      ap₂ (λ (n : ℕ) (l : List ℕ). decode_topics (take n l)) size_back (drop-front 4 (size_topics a) lists)
      ∙ ap decode_topics (take_at (encode_topics a) (encode_topics r) (size_topics a) (length-encode a))
      ∙ read_back a sa

  removed-back : decode_topics (drop (be (take 4 sized)) (drop 4 sized)) ≡ r
  removed-back =
      ap₂ (λ (n : ℕ) (l : List ℕ). decode_topics (drop n l)) size_back (drop-front 4 (size_topics a) lists)
      ∙ ap decode_topics (drop_at (encode_topics a) (encode_topics r) (size_topics a) (length-encode a))
      ∙ read_back r sr

  output-diff : change_of (diff_output a r) ≡ Diff a r
  output-diff = ap₂ Diff added-back removed-back

-- ---- the set that was tested

pub set-rising : (l : List ℕ) → is_set l ≡ true → rising (decode_topics l) ≡ true
unfolding is_set
set-rising l g =
    (both_true (all_utf8 (decode_topics l)) (rising (decode_topics l)) (both_true (is_whole l) (all_utf8 (decode_topics l) && rising (decode_topics l)) g).1).1

-- the same test on both sides
pub both-choose : (P : WatchOutcome → WatchDid → Type 0) (b : Bool) {p q : WatchOutcome} {x y : WatchDid}
    → (b ≡ true → P p x) → (b ≡ false → P q y) → P (cond b p q) (cond b x y)
both-choose P true f g = f refl
both-choose P false f g = g refl

module _ (id : ℕ) (h : Held) (u : Update) where
  abbrev buffer : List ℕ
  buffer = h.buffer

  abbrev out : List ℕ
  out = u.out

  abbrev old : List Text
  old = set_in h

  -- ---- what is asked of an outcome and of what the Rust did

  pub record Agrees (x : WatchOutcome) (d : WatchDid) : Type 0 where
    pub shown : port_shown h u x ≡ rust_shown d
    pub next : opened id (held_after h x) ≡ d.after
    pub short : all_short (set_in (held_after h x)) ≡ true

  pub record Step (x : WatchOutcome) (d : WatchDid) : Type 0 where
    pub still : is_ours x.answer ≡ true → held_after h x ≡ h
    pub agrees : is_ours x.answer ≡ false → Agrees x d

  -- ---- refusals

  ours-step : (y : Refusal) → ours (number_of y) ≡ true → (d : WatchDid) → Step (refuse buffer out y) d
  ours-step y o d = record { still = λ e. refl; agrees = λ e. absurd (true≢false (sym o ∙ e)) }

  module _ (s : all_short old ≡ true) where
    theirs-step : (y : Refusal) (e : TopicsWatchError)
        → refuses y (cond (eqb (number_of y) 16) (watch_update_of u.message).message []) ≡ refuses (paper e) (text_of e)
        → Step (refuse buffer out y) (fails (opened id h) e)
    theirs-step y e t =
        record {
          still = λ o. refl;
          agrees = λ o. record { shown = λ i. record { answered = t i; topics = old }; next = refl; short = s };
        }

    -- ---- a change

    settled : (c : Change) (change : TopicsChange) → (all_short c.named ≡ true → all_short c.topics ≡ true)
        → (all_short c.named ≡ true → ltb c.added (2 ^ 32) ≡ true → change_of c.output ≡ change)
        → Step (settle buffer out c) (did id c.topics change)
    unfolding settle
    settled c change short answered =
        choose (λ x. Step x (did id c.topics change)) (all_short c.named && leb (size_topics c.topics) (length buffer))
        (λ e. choose (λ x. Step x (did id c.topics change)) (ltb c.added (2 ^ 32) && leb (length c.output) (length out))
        (λ f. record {
          still = λ o. absurd (false≢true o);
          agrees = λ o.
              fits (both_true (all_short c.named) (leb (size_topics c.topics) (length buffer)) e).0
              (both_true (ltb c.added (2 ^ 32)) (leb (length c.output) (length out)) f).0;
        })
        (λ f. ours-step refusal.ResultTooLong refl _))
        (λ e. ours-step refusal.SetTooLong refl _)
      where
        fits : all_short c.named ≡ true → ltb c.added (2 ^ 32) ≡ true → Agrees (done buffer out c) (did id c.topics change)
        fits e f =
            let t = front-back buffer c.topics (short e) in
            record {
              shown = λ i.
                  record {
                    answered = changes ((ap change_of (take_put out 0 c.output (omega arith)) ∙ answered e f) i);
                    topics = t i;
                  };
              next = λ i. record { watch-id = id; topics = t i };
              short = ap all_short t ∙ short e;
            }

    snapshot-step : (p : List Field)
        → Step (settle buffer out (snapshot_by p)) (did id (sorted (parts_of 1 p)) (Snapshot (sorted (parts_of 1 p))))
    unfolding snapshot_change all_short
    snapshot-step p =
        let ts = parts_of 1 p in
        settled (snapshot_by p) (Snapshot (sorted ts)) (λ e. short-insert_all ts [] e refl)
        (λ e f. output-snapshot (sorted ts) (short-insert_all ts [] e refl))

    diff_step : (p : List Field)
        → Step (settle buffer out (diff_by old p))
        (did id (insert_all (parts_of 1 p) (kept old (parts_of 2 p)))
        (Diff (added_of old (parts_of 2 p) (parts_of 1 p)) (removed_of old (parts_of 2 p))))
    unfolding diff_change all_short kept added_of removed_of
    diff_step p =
        let a = parts_of 1 p in
        let r = parts_of 2 p in
        settled (diff_by old p) (Diff (added_of old r a) (removed_of old r))
        (λ e. short-insert_all a (kept old r) (short-parts a r e).0 (short-filter _ old s))
        (λ e f. output-diff (added_of old r a) (removed_of old r)
        (short-filter _ (sorted a) (short-insert_all a [] (short-parts a r e).0 refl))
        (short-filter _ (sorted r) (short-insert_all r [] (short-parts a r e).1 refl))
        (ltb-true (size_topics (added_of old r a)) (2 ^ 32) f))

    -- ---- the event, and the call

    none-step : (w : WireWatchUpdate) → w ≡ watch_update_of u.message → (c : Option ℤ)
        → Step (refuse buffer out (no_event w.watch_id c)) (fails (opened id h) (without-event w c))
    none-step w e (Some code) =
        theirs-step (refusal.Broker code) _ (ap (λ (x : WireWatchUpdate). refuses (refusal.Broker code) x.message) (sym e))
    none-step w e None = theirs-step (refusal.EmptyUpdate w.watch_id) _ refl

    event-step : rising old ≡ true → (w : WireWatchUpdate) → w ≡ watch_update_of u.message → (e : WireEvent)
        → Step (by_event buffer out old w e) (handle-event w e (opened id h))
    unfolding by_event
    event-step r w q none = none-step w q w.error
    event-step r w q (snapshot p) =
        subst (Step (by_event buffer out old w (snapshot p))) (sym (snapshot-is id old _)) (snapshot-step p)
    event-step r w q (diff p) =
        subst (Step (settle buffer out (diff_by old p))) (sym (diff_is id old (parts_of 1 p) (parts_of 2 p) r)) (diff_step p)

    valid-step : rising old ≡ true → (w : WireWatchUpdate) → w ≡ watch_update_of u.message
        → Step (for_watch buffer out id old w) (handle-update w (opened id h))
    unfolding for_watch
    valid-step r w q =
        both-choose Step (not (eqb w.watch_id id))
        (λ e. theirs-step (refusal.WatchMismatch w.watch_id id) (WatchMismatch w.watch_id id) refl)
        (λ e. event-step r w q w.event)

    checked-step : rising old ≡ true → (k : Result ⊤ Refusal) → OursIf k
        → Step (when_checked buffer out id old u.message k) (handle-update (watch_update_of u.message) (opened id h))
    checked-step r (Err x) o = ours-step x o _
    checked-step r (Ok v) o = valid-step r (watch_update_of u.message) refl

    pub step-agrees : Step (watch_step id h u) (handle-update (watch_update_of u.message) (opened id h))
    unfolding handle_update for_watch by_event settle
    step-agrees =
        let bytes = take h.used buffer in
        choose (λ x. Step x (handle-update (watch_update_of u.message) (opened id h))) (leb h.used (length buffer) && is_set bytes)
        (λ e. checked-step (set-rising bytes (both_true (leb h.used (length buffer)) (is_set bytes) e).1)
        (first_fault CommandWatchScalableTopicsUpdate u.message) (fault-ours CommandWatchScalableTopicsUpdate u.message))
        (λ e. ours-step refusal.MalformedSet refl _)
