-- A drain: one of the replays that `take_replayed_updates` gave is handed on, as this port's drain does where ours do not refuse, and the
-- sessions stay alike (`fair-drain`).
-- Assumes nothing.
use Rattle.std.specs.Prelude.{None}
use Prim.Native.Nat.{ℕ, suc, ◌<◌}
use native.Mathlib.Omega.{arith}
use mathlib.Core.Path.{◌≡◌, refl, ap, sym, ◌∙◌, subst}
use mathlib.Core.Bool.{true, false, false≢true, true≢false}
use mathlib.Core.List.{List, [], ◌++◌, append-nil}
use mathlib.Core.Logic.{◌⊎◌, inl, inr}
use lib.ListN.{length, get_or, set, length-set}
use lib.Dec.{ltb, leb}
use borrow.Author.Tests.{leb-false}
use Rattle.keyed.proofs.KeyedLaws.{choose}
use Rattle.packed_delta.specs.Delta as port-delta
use Rattle.packed_delta.specs.Join.{Proper}
use Rattle.session.specs.Store.{min_store, min_output}
use Rattle.session.specs.Session as session
use Rattle.session.specs.Session.{Session, readers, position_of, damaged}
use Rattle.session.specs.Drain.{Found, end, entry, with_position, drained, next_for, drain_call}
use Rattle.session.specs.Trace.{Call, drain}
use Rattle.session.proofs.PositionLaws.{moved-own}
use Rattle.rust_magnetar.specs.Session.{AssignmentReplay}
use Rattle.rust_names.specs.Agree.{is_marked}
use Rattle.rust_session.specs.Values.{as_replay, replays}
use Rattle.rust_session.specs.Demand.{replay, Caller, hand_on, rust_step}
use Rattle.rust_session.proofs.ReplayAgrees.{Registration, replays-end, replays-none, Next, replays-entry}
use Rattle.rust_session.proofs.Mirror.{rust, caller, holding, Idle, Live, Mirror, Agrees, Fair, mirror-still, agrees-same}

module _ (n : Registration) (out : List ℕ) (s : Session) where
  abbrev call : Call
  call = drain n.reader out

  abbrev found : Found
  found = next_for s n.reader

  -- how far it has drained
  abbrev at : ℕ
  at = position_of s.state n.reader

  abbrev left : ℕ → List AssignmentReplay
  left k = replays s.topic s.baseline s.queue k

  module _ (unmarked : is_marked s.topic ≡ false)
      (counted : length s.queue ≡ s.state.queue_count) (eight : length s.state.drain_positions ≡ 8) (low : n.reader < 8)
      (live : s.state.registered ≡ true) (pl : Proper s.list) where
    -- the reader's own position, moved
    moved : (k : ℕ) → position_of (with_position s.state n.reader k) n.reader ≡ k
    moved k = moved-own s.state.drain_positions n.reader k (omega arith)

    still-eight : (k : ℕ) → length (set s.state.drain_positions n.reader k) ≡ 8
    still-eight k = length-set s.state.drain_positions n.reader k ∙ eight

    -- with nothing left
    drained-end : Agrees n call s (drained s n.reader end) (hand_on (rust n s (holding s) [] []) [])
    unfolding drained
    drained-end =
        agrees-same n call s (drained s n.reader end) _ counted refl
        (record {
          unmarked = unmarked;
          counted = counted;
          eight = still-eight s.state.queue_count;
          state =
              inr (record {
                registered = live;
                is = refl;
                left = sym (ap left (moved s.state.queue_count ∙ sym counted) ∙ replays-end s.topic s.baseline s.queue);
                proper = pl;
              });
        })

    -- the first of those that are left
    drained-entry : (i : ℕ) (d : port-delta.AssignmentDelta) (l : List AssignmentReplay) → l ≡ left (suc i)
        → Agrees n call s (drained s n.reader (entry i d)) (record {
          answered = replay (as_replay s.topic (get_or s.queue i s.baseline) d);
          next = record { session = rust n s (holding s) [] []; taken = l };
        })
    unfolding drained
    drained-entry i d l e =
        agrees-same n call s (drained s n.reader (entry i d)) _ counted refl
        (record {
          unmarked = unmarked;
          counted = counted;
          eight = still-eight (suc i);
          state = inr (record { registered = live; is = refl; left = append-nil l ∙ e ∙ ap left (sym (moved (suc i))); proper = pl });
        })

    live-drain : (l : List AssignmentReplay) → l ≡ left at → (f : Found) → found ≡ f
        → Agrees n call s (drained s n.reader f) (hand_on (rust n s (holding s) [] []) l)
    live-drain l e end g =
        subst (λ x. Agrees n call s (drained s n.reader end) (hand_on (rust n s (holding s) [] []) x))
        (sym (e ∙ replays-none s.topic 0 s.baseline s.queue at g)) drained-end
    live-drain l e (entry j d) g =
        let h : Next s.topic s.baseline 0 s.baseline s.queue at j d =
        replays-entry s.topic s.baseline 0 s.baseline s.queue at j d g in
        let p : h.place ≡ j = omega (arith, h.at) in
        subst (λ x. Agrees n call s (drained s n.reader (entry j d)) (hand_on (rust n s (holding s) [] []) x))
        (sym (e ∙ h.first))
        (subst
        (λ k. Agrees n call s (drained s n.reader (entry j d)) (record {
          answered = replay (as_replay s.topic (get_or s.queue k s.baseline) d);
          next = record { session = rust n s (holding s) [] []; taken = left (suc k) };
        }))
        (sym p) (drained-entry j d (left (suc j)) refl))

  module _ (c : Caller) (h : Mirror n s c) where
    drained-fair : n.reader < 8 → Idle n s c ⊎ Live n s c → s.state.registered ≡ true → Fair n call s (drained s n.reader found) (rust_step c call)
    drained-fair low (inl d) u = absurd (false≢true (sym d.registered ∙ u))
    drained-fair low (inr d) u = λ f.
        subst (λ x. Agrees n call s (drained s n.reader found) (rust_step x call)) (sym d.is)
        (live-drain h.unmarked h.counted h.eight low d.registered d.proper (c.taken ++ c.session.replayed-updates) d.left found refl)

    idle-fair : Idle n s c ⊎ Live n s c → s.state.registered ≡ false
        → Fair n call s (record { reply = session.unchanged; next = s.state; writes = [] }) (rust_step c call)
    idle-fair (inr d) u = absurd (false≢true (sym u ∙ d.registered))
    idle-fair (inl d) u = λ f.
        subst (λ x. Agrees n call s (record { reply = session.unchanged; next = s.state; writes = [] }) (rust_step x call)) (sym d.is)
        (record {
          answered = refl;
          mirror = mirror-still n s session.unchanged (caller n s None s.queue [] []) (subst (Mirror n s) d.is h);
        })

    pub fair-drain : Fair n call s (drain_call s n.reader (length out)) (rust_step c call)
    unfolding drain_call
    fair-drain =
        choose (λ x. Fair n call s x (rust_step c call)) (ltb s.size min_store) (λ u f. absurd (true≢false f)) (λ u.
        choose (λ x. Fair n call s x (rust_step c call)) (ltb (length out) min_output) (λ u f. absurd (true≢false f)) (λ u.
        choose (λ x. Fair n call s x (rust_step c call)) (leb readers n.reader) (λ u f. absurd (true≢false f)) (λ low.
        choose (λ x. Fair n call s x (rust_step c call)) (damaged s) (λ u f. absurd (true≢false f)) (λ u.
        choose (λ x. Fair n call s x (rust_step c call)) s.state.registered
        (λ v. drained-fair (leb-false readers n.reader low) h.state v) (λ v. idle-fair h.state v)))))
