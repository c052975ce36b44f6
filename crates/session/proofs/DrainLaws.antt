-- A drain keeps what holds for a reader: one of another reader whatever it is, one of its own with none owed and with one owed.
-- Assumes nothing.
use Rattle.std.specs.Prelude.{option_map}
use Prim.Native.Nat.{ℕ, suc, ◌≤◌, ◌<◌}
use native.Mathlib.Omega.{arith}
use mathlib.Core.Path.{◌≡◌, refl, ap, sym, ◌∙◌, subst}
use mathlib.Core.Bool.{Bool, true, false, not, ◌&&◌, false≢true}
use mathlib.Core.List.{List, [], ◌∷◌, ◌++◌}
use mathlib.Core.Logic.{inl, inr, ◌≢◌}
use lib.Dec.{eqb}
use lib.ListN.{length, length-set}
use borrow.Author.Tests.{eqb-true, eqb-false}
use Rattle.packed.specs.Assignment.{ConsumerAssignment}
use Rattle.packed_delta.specs.Delta.{AssignmentDelta}
use Rattle.packed_delta.specs.Change.{delta_between}
use Rattle.packed_delta.specs.Join.{Proper, apply}
use Rattle.session.specs.Session.{Session, CallAnswer, unchanged, replayed, Result, position_of, raise}
use Rattle.session.specs.Drain.{Found, end, entry, next_change, with_position, entry_place, drained, next_for, drain_call}
use Rattle.session.specs.Trace.{drain}
use Rattle.session.specs.Observers.{Seen}
use Rattle.session.proofs.Model.{after, is_unchanged}
use Rattle.session.proofs.PositionLaws.{moved-own, moved_other}
use Rattle.session.proofs.QueueLaws.{before, before-proper, change-none, change-end, Change, change-entry}
use Rattle.session.proofs.CallLaws.{drain-cases}
use Rattle.session.proofs.HoldLaws.{Uploaded, HeldIn, UploadedIn, Owing, Invariant, event_with, Kept, see_if, Drained, with_queue}
use Rattle.session.proofs.HoldLaws.{invariant-same, invariant-counted, invariant-still, uploaded-delta}

-- ---- a drain of another reader moves no position of this one

module _ (reader by : ℕ) (apart : by ≢ reader) (s : Session) (o : Seen) where
  still-at : (v : ℕ) → position_of (with_position s.state by v) reader ≡ position_of s.state reader
  still-at v = moved_other s.state.drain_positions by reader v apart

  abbrev moved : CallAnswer → ℕ → Result
  moved reply v = record { reply = reply; next = with_position s.state by v; writes = [] }

  other-moved : (w : Bool) (reply : CallAnswer) (v : ℕ) → Invariant reader w s o → Invariant reader w (with_queue s (moved reply v) s.queue) o
  other-moved false reply v (inl h) =
      inl (record {
        registered = h.registered;
        list = h.list;
        pending = h.pending;
        uploader = h.uploader;
        highest = h.highest;
        proper = h.proper;
        counted = h.counted;
      })
  other-moved false reply v (inr h) =
      inr (record {
        held = h.held;
        uploaded = h.uploaded;
        position = still-at v ∙ h.position;
        eight = length-set s.state.drain_positions by v ∙ h.eight;
        counted = h.counted;
      })
  other-moved true reply v h =
      record {
        held = h.held;
        uploaded = subst (λ n. UploadedIn s o (before s.baseline s.queue n)) (sym (still-at v)) h.uploaded;
        eight = length-set s.state.drain_positions by v ∙ h.eight;
        last = h.last;
        fresh = h.fresh;
        proper = h.proper;
        counted = h.counted;
      }

  other-found : (w : Bool) (f : Found) → Invariant reader w s o → Invariant reader w (after s (drained s by f)) o
  unfolding drained
  other-found w end g =
      invariant-same reader w s (drained s by end) o (invariant-counted reader w s o g) (other-moved w unchanged s.state.queue_count g)
  other-found w (entry j d) g =
      invariant-same reader w s (drained s by (entry j d)) o (invariant-counted reader w s o g) (other-moved w (replayed j (entry_place s.queue j) d) (suc j) g)

  -- whatever it answers
  other-drain : (w : Bool) (out : List ℕ) → Invariant reader w s o
      → Invariant reader w (after s (drain_call s by (length out))) (see_if false (event_with s (drain by out) (drain_call s by (length out))) o)
  unfolding drained
  other-drain w out g =
      drain-cases s (λ x. Invariant reader w (after s x) (see_if false (event_with s (drain by out) x) o)) (λ x. invariant-still reader w s o g) by (length out)
      (λ t. go (next_for s by)) (λ t. invariant-still reader w s o g)
    where
      go : (f : Found) → Invariant reader w (after s (drained s by f)) (see_if false (event_with s (drain by out) (drained s by f)) o)
      go end = other-found w end g
      go (entry j d) = other-found w (entry j d) g

-- ---- its own

module _ (reader : ℕ) (low : reader < 8) (out : List ℕ) (s : Session) (o : Seen) where
  abbrev found : Found
  found = next_for s reader

  abbrev at : ℕ
  at = position_of s.state reader

  -- what stands before the position
  abbrev reached : ConsumerAssignment
  reached = before s.baseline s.queue at

  own_at : length s.state.drain_positions ≡ 8 → (v : ℕ) → position_of (with_position s.state reader v) reader ≡ v
  own_at e v = moved-own s.state.drain_positions reader v (omega arith)

  -- a drain that finds nothing settles the session
  drained-end : HeldIn s o → UploadedIn s o s.list → length s.state.drain_positions ≡ 8 → length s.queue ≡ s.state.queue_count
      → Invariant reader false (after s (drained s reader end)) o
  unfolding drained
  drained-end h u e c =
      invariant-same reader false s (drained s reader end) o c
      (inr (record {
        held = h;
        uploaded = u;
        position = own_at e s.state.queue_count ∙ sym c;
        eight = length-set s.state.drain_positions reader s.state.queue_count ∙ e;
        counted = c;
      }))

  abbrev KeptOwn : Result → Type 0
  KeptOwn x = Invariant reader false (after s x) (see_if true (event_with s (drain reader out) x) o)

  own-drain : Invariant reader false s o → KeptOwn (drain_call s reader (length out))
  unfolding drained
  own-drain g =
      drain-cases s KeptOwn (λ x. invariant-still reader false s o g) reader (length out) (λ t. go g t) (λ t. invariant-still reader false s o g)
    where
      go : Invariant reader false s o → s.state.registered ≡ true → KeptOwn (drained s reader found)
      go (inl h) t = absurd (false≢true (sym h.registered ∙ t))
      go (inr h) t =
          subst (λ f. KeptOwn (drained s reader f))
          (sym (ap (next_change 0 s.baseline s.queue) h.position ∙ change-none 0 s.baseline s.queue))
          (drained-end h.held h.uploaded h.eight h.counted)

  abbrev DrainedOwn : Result → Type 0
  DrainedOwn x = Invariant reader (not (is_unchanged x.reply)) (after s x) (see_if true (event_with s (drain reader out) x) o)

  owed-entry : Owing reader s o → (j : ℕ) (d : AssignmentDelta) → found ≡ entry j d → DrainedOwn (drained s reader (entry j d))
  unfolding drained
  owed-entry h j d e =
      subst (λ x. DrainedOwn (drained s reader (entry j x))) (sym delta)
      (invariant-same reader true s (drained s reader (entry j (delta_between reached v))) _ h.counted
      (record {
        held = h.held;
        uploaded =
            subst
            (λ n.
            Uploaded s.baseline (before s.baseline s.queue n) (option_map (apply (delta_between reached v)) o.uploader) o.baseline
            (o.deltas ++ (delta_between reached v ∷ [])) (raise o.highest (delta_between reached v).layout_epoch))
            (sym (own_at h.eight (suc j)))
            (uploaded-delta h.uploaded (proper at) (proper (suc j))
            (subst (λ n. reached.layout_epoch ≤ (before s.baseline s.queue (suc n)).layout_epoch) same (c.rises h.fresh)));
        eight = length-set s.state.drain_positions reader (suc j) ∙ h.eight;
        last = h.last;
        fresh = h.fresh;
        proper = h.proper;
        counted = h.counted;
      }))
    where
      v : ConsumerAssignment
      v = before s.baseline s.queue (suc j)

      c : Change 0 s.baseline s.queue at j d
      c = change-entry 0 s.baseline s.queue at j d e

      same : c.place ≡ j
      same = omega (arith, c.at)

      delta : d ≡ delta_between reached v
      delta = c.delta ∙ ap (λ n. delta_between reached (before s.baseline s.queue (suc n))) same

      proper : (k : ℕ) → Proper (before s.baseline s.queue k)
      proper k = before-proper s.baseline s.queue k h.uploaded.proper-baseline h.proper

  own-owed : Owing reader s o → DrainedOwn (drain_call s reader (length out))
  unfolding drained
  own-owed h =
      drain-cases s DrainedOwn (λ x. invariant-still reader true s o h) reader (length out) (λ t. go found refl)
      (λ t. absurd (false≢true (sym t ∙ h.held.live)))
    where
      go : (f : Found) → found ≡ f → DrainedOwn (drained s reader f)
      go (entry j d) e = owed-entry h j d e
      go end e =
          drained-end h.held
          (subst (UploadedIn s o) (change-end 0 s.baseline s.queue at e ∙ sym h.last) h.uploaded) h.eight h.counted

-- ---- any reader's

module _ (reader : ℕ) (low : reader < 8) (by : ℕ) (out : List ℕ) (s : Session) (o : Seen) where
  pub keep-drain : Invariant reader false s o → Kept reader s (drain by out) o (drain_call s by (length out))
  keep-drain g = go (eqb by reader) refl
    where
      go : (b : Bool) → eqb by reader ≡ b
          → Invariant reader false (after s (drain_call s by (length out))) (see_if b (event_with s (drain by out) (drain_call s by (length out))) o)
      go true t =
          subst (λ j. Invariant reader false (after s (drain_call s j (length out))) (see_if true (event_with s (drain j out) (drain_call s j (length out))) o))
          (sym (eqb-true by reader t)) (own-drain reader low out s o g)
      go false t = other-drain reader by (eqb-false by reader t) s o false out g

  pub owed-drain : Owing reader s o → Drained reader s by out o (drain_call s by (length out))
  owed-drain h = go (eqb by reader) refl
    where
      go : (b : Bool) → eqb by reader ≡ b
          → Invariant reader (not (b && is_unchanged (drain_call s by (length out)).reply)) (after s (drain_call s by (length out)))
          (see_if b (event_with s (drain by out) (drain_call s by (length out))) o)
      go true t =
          subst
          (λ j.
          Invariant reader (not (is_unchanged (drain_call s j (length out)).reply)) (after s (drain_call s j (length out)))
          (see_if true (event_with s (drain j out) (drain_call s j (length out))) o))
          (sym (eqb-true by reader t)) (own-owed reader low out s o h)
      go false t = other-drain reader by (eqb-false by reader t) s o true out h
