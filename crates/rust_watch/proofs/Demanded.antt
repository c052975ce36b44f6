-- Demand 2 for the watch: `demand-two-watch`, of the statement in specs/Demand, by induction over the list of updates.
--
-- The Rust's set is the one that the buffer holds, of short topics; an update that one of ours refuses changes nothing, so it can be
-- left out.
-- Assumes nothing.
use Prim.Native.Nat.{ℕ}
use mathlib.Core.Path.{◌≡◌, refl, sym, ap, ap₂, ◌∙◌}
use mathlib.Core.Bool.{Bool, true, false, cond, ◌&&◌}
use mathlib.Core.List.{List, [], ◌∷◌}
use lib.ListN.{take}
use Rattle.slice.specs.BoolLaws.{both_true}
use Rattle.slice.proofs.PartLaws.{Bytes, Bytes-take}
use Rattle.wire_readers.specs.Messages.{watch_update_of}
use Rattle.watch_topics.specs.Topics.{rising, all_short}
use Rattle.watch_topics.specs.Packed.{decode_topics, is_whole, all_utf8, is_set}
use Rattle.watch_topics.proofs.PackedLaws.{read_short}
use Rattle.watch.specs.Watch.{WatchOutcome}
use Rattle.rust_magnetar.specs.Watch.{ScalableTopicsWatch, handle-update}
use Rattle.rust_watch.specs.Demand.{Update, Held, set_in, watch_step, held_after, port_shown, rust_run, is_ours}
use Rattle.rust_watch.specs.Demand.{fed_updates, fed_shown, opened, DemandTwoWatch}
use Rattle.rust_watch.proofs.StepAgrees.{Agrees, Step, step-agrees}

module _ (id : ℕ) where
  -- from every set of short topics
  abbrev Feeds : List Update → Type 0
  Feeds us = (h : Held) → all_short (set_in h) ≡ true → fed_shown id h us ≡ rust_run (opened id h) (fed_updates id h us)

  fed-update : (u : Update) (us : List Update) → Feeds us → (h : Held) (x : WatchOutcome) → all_short (set_in h) ≡ true
      → Step id h u x (handle-update (watch_update_of u.message) (opened id h))
      → cond (is_ours x.answer) (fed_shown id (held_after h x) us) (port_shown h u x ∷ fed_shown id (held_after h x) us)
      ≡ rust_run (opened id h) (cond (is_ours x.answer) (fed_updates id (held_after h x) us) (u ∷ fed_updates id (held_after h x) us))
  fed-update u us rest h x s p = go (is_ours x.answer) refl
    where
      after : Held
      after = held_after h x

      go : (b : Bool) → is_ours x.answer ≡ b
          → cond b (fed_shown id after us) (port_shown h u x ∷ fed_shown id after us)
          ≡ rust_run (opened id h) (cond b (fed_updates id after us) (u ∷ fed_updates id after us))
      go true e =
          let q : held_after h x ≡ h = p.still e in
          ap (λ (k : Held). fed_shown id k us) q ∙ rest h s ∙ ap (λ (k : Held). rust_run (opened id h) (fed_updates id k us)) (sym q)
      go false e =
          let g : Agrees id h u x (handle-update (watch_update_of u.message) (opened id h)) = p.agrees e in
          ap₂ ◌∷◌ g.shown
          (rest (held_after h x) g.short ∙ ap (λ (w : ScalableTopicsWatch). rust_run w (fed_updates id (held_after h x) us)) g.next)

  fed-run : (us : List Update) → Feeds us
  fed-run [] h s = refl
  fed-run (u ∷ us) h s = fed-update u us (fed-run us) h (watch_step id h u) s (step-agrees id h u s)

set-short : (l : List ℕ) → Bytes l → is_set l ≡ true → all_short (decode_topics l) ≡ true
unfolding is_set
set-short l b g = read_short l b (both_true (is_whole l) (all_utf8 (decode_topics l) && rising (decode_topics l)) g).0

pub demand-two-watch : DemandTwoWatch
demand-two-watch id h b l g updates bytes =
    fed-run id updates h (set-short (take h.used h.buffer) (Bytes-take h.used h.buffer b) g)
