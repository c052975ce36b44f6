-- A call: all of them (`fair-call`); sessions that are alike show the same (`shown-agrees`); and what record and store show as bytes is
-- what the session in values shows (`bytes-show`).
-- Assumes nothing.
use Rattle.std.specs.Prelude.{option_map, Some, None}
use Prim.Native.Nat.{ℕ, ◌<◌}
use native.Mathlib.Omega.{arith}
use mathlib.Core.Path.{◌≡◌, refl, ap, ap₂, sym, ◌∙◌, subst}
use mathlib.Core.Bool.{Bool, true, cond}
use mathlib.Core.List.{List, [], map}
use mathlib.Core.Logic.{◌⊎◌, inl, inr}
use lib.ListN.{length, drop, get_or}
use lib.Seq.{take_at}
use lib.Dec.{ltb}
use borrow.Author.Tests.{eqb-true}
use Rattle.packed.specs.Assignment as port
use Rattle.session.specs.declared.SessionRecord.{SessionRecord}
use Rattle.packed_queue.proofs.EntryLaws.{length-entries_of}
use Rattle.session.specs.Store.{list_in, queue_in, write_all}
use Rattle.session.specs.Session as session
use Rattle.session.specs.Session.{Session, CallAnswer, position_of, view}
use Rattle.session.specs.Drain.{Found, end, entry, entry_place, drained, next_for}
use Rattle.session.specs.Calls.{answer_of, output_of, effect_of}
use Rattle.session.specs.Trace.{Call, update, response, drain, begin, invalidate}
use Rattle.session.proofs.Model.{result_of, after}
use Rattle.session.proofs.CallLaws.{update-cases, response-cases, drain-cases}
use Rattle.session.proofs.SlotLaws.{queued-sheet}
use Rattle.session.proofs.ViewLaws.{Kept, FitAnswer, Follows}
use Rattle.session.proofs.TraceLaws.{delta-back, out_of}
use Rattle.keyed.proofs.KeyedLaws.{choose}
use Rattle.rust_session.specs.Values.{as_assignment, as_delta, as_replay, as_floor, replays}
use Rattle.rust_session.specs.Demand.{Answered, delta, replay, Shown, topic_in, sheet_at, answered_by, port_shown, drains_by, Caller, Turn, rust_step, rust_shown}
use Rattle.rust_session.proofs.ReplayAgrees.{Registration, Next, replays-entry}
use Rattle.rust_session.proofs.Mirror.{answered_in, shown_in, Idle, Live, Mirror, Agrees, Fair}
use Rattle.rust_session.proofs.UpdateAgrees.{fair-update}
use Rattle.rust_session.proofs.ResponseAgrees.{fair-response}
use Rattle.rust_session.proofs.DrainAgrees.{fair-drain}
use Rattle.rust_session.proofs.LinkAgrees.{fair-begin, fair-invalidate}

pub fair-call : (n : Registration) (w : Call) (s : Session) (c : Caller) → drains_by n.reader w ≡ true → Mirror n s c
    → Fair n w s (result_of s w) (rust_step c w)
fair-call n (update message link out) s c o h = fair-update n message link out s c h
fair-call n (response message link) s c o h = fair-response n message link s c h
fair-call n (drain by out) s c o h =
    subst (λ k. Fair n (drain k out) s (result_of s (drain k out)) (rust_step c (drain k out))) (sym (eqb-true by n.reader o))
    (fair-drain n out s c h)
fair-call n (begin link) s c o h = fair-begin n link s c h
fair-call n invalidate s c o h = fair-invalidate n s c h

-- ---- what is shown

pub shown-agrees : (n : Registration) (w : Call) (s : Session) (x : session.Result) (y : Turn) → Agrees n w s x y
    → shown_in n.reader w x.reply (after s x) ≡ rust_shown y
shown-agrees n w s x y g = go g.mirror.state
  where
    z : Session
    z = after s x

    -- what the port shows, by what it told and whether it is registered
    shown : Answered → Bool → Shown
    shown t b =
        record {
          answered = t;
          assignment = option_map (as_assignment z.topic) (cond b (Some z.list) None);
          epoch-floor = as_floor z.state.epoch_floor;
          incarnation = z.state.incarnation;
          registered = b;
          invalidated = z.state.invalidated;
          waiting = cond b [] (map (as_assignment z.topic) z.queue);
          undrained = cond b (replays z.topic z.baseline z.queue (position_of z.state n.reader)) [];
        }

    go : Idle n (after s x) y.next ⊎ Live n (after s x) y.next → shown_in n.reader w x.reply (after s x) ≡ rust_shown y
    go (inl d) =
        (λ i. shown (g.answered i) (d.registered i))
        ∙ ap (λ c. rust_shown (record { answered = y.answered; next = c })) (sym d.is)
    go (inr d) =
        (λ i. shown (g.answered i) (d.registered i))
        ∙ ap (λ l.
        record {
          answered = y.answered;
          assignment = Some (as_assignment z.topic z.list);
          epoch-floor = as_floor z.state.epoch_floor;
          incarnation = z.state.incarnation;
          registered = true;
          invalidated = z.state.invalidated;
          waiting = [];
          undrained = l;
        }) (sym d.left)
        ∙ ap (λ c. rust_shown (record { answered = y.answered; next = c })) (sym d.is)

-- ---- on bytes

-- a replay's place is that of an entry of the queue
abbrev Placed : List port.ConsumerAssignment → CallAnswer → Type 0
Placed queue (session.refused x) = Unit {0}
Placed queue session.accepted = Unit {0}
Placed queue session.unchanged = Unit {0}
Placed queue (session.changed d) = Unit {0}
Placed queue (session.replayed index place d) = (place ≡ entry_place queue index) × (index < length queue)

module _ (s : Session) (counted : length s.queue ≡ s.state.queue_count) where
  abbrev PlacedIn : session.Result → Type 0
  PlacedIn x = Placed (after s x).queue x.reply

  placed-found : (by : ℕ) (f : Found) → next_for s by ≡ f → PlacedIn (drained s by f)
  unfolding drained
  placed-found by end e = tt
  placed-found by (entry j d) e =
      let h : Next [] s.baseline 0 s.baseline s.queue (position_of s.state by) j d =
      replays-entry [] s.baseline 0 s.baseline s.queue (position_of s.state by) j d e in
      subst (λ q. Placed q (session.replayed j (entry_place s.queue j) d)) (sym (take_at s.queue [] s.state.queue_count counted))
      (refl, omega (arith, h.at, h.inside))

  placed-call : (w : Call) → PlacedIn (result_of s w)
  placed-call (update message link out) =
      update-cases s PlacedIn (λ x. tt) message link (length out) (λ t u. tt) (λ t u. tt) (λ t. tt)
  placed-call (response message link) = response-cases s PlacedIn (λ x. tt) message link (λ t u. tt)
  placed-call (drain by out) = drain-cases s PlacedIn (λ x. tt) by (length out) (λ t. placed-found by (next_for s by) refl) (λ t. tt)
  placed-call (begin link) = choose PlacedIn (ltb s.state.incarnation.0 link.0) (λ t. tt) (λ t. tt)
  placed-call invalidate = tt

pub view-counted : (r : SessionRecord) (st : List ℕ) → length (view r st).queue ≡ (view r st).state.queue_count
unfolding view queue_in
view-counted r st = length-entries_of r.queue_count (drop 6144 st)

module _ (r : SessionRecord) (st : List ℕ) (k : Kept r st) (w : Call) (out : List ℕ) where
  -- the list at an entry's byte place
  sheet-entry : (i : ℕ) → i < length (view r st).queue → sheet_at st (entry_place (view r st).queue i) ≡ get_or (view r st).queue i (view r st).baseline
  unfolding view
  sheet-entry i h = queued-sheet st r.queue_count k.queue i (list_in st 1) h

  -- an answer and an output tell what the reply tells
  answered-is : (x : CallAnswer) → FitAnswer x → Placed (view r st).queue x → answered_by w (answer_of x) st (output_of x out) ≡ answered_in w x (view r st)
  unfolding view
  answered-is (session.refused x) f p = refl
  answered-is session.accepted f p = refl
  answered-is session.unchanged f p = refl
  answered-is (session.changed d) f p = ap (λ x. delta (as_delta (topic_in st) x)) (delta-back d out f)
  answered-is (session.replayed index place d) f p =
      ap₂ (λ a x. replay (as_replay (topic_in st) a x)) (ap (sheet_at st) p.0 ∙ sheet-entry index p.1) (delta-back d out f)

-- a result as bytes shows what the record and the store show when they are read
result-shows : (reader : ℕ) (st : List ℕ) (w : Call) (out : List ℕ) (x : session.Result) → Kept x.next (write_all x.writes st) → FitAnswer x.reply
    → Placed (view x.next (write_all x.writes st)).queue x.reply
    → port_shown reader w (effect_of x st out) ≡ shown_in reader w x.reply (view x.next (write_all x.writes st))
unfolding view
result-shows reader st w out x k f p = λ i.
    let s = view x.next (write_all x.writes st) in
    record {
      answered = answered-is x.next (write_all x.writes st) k w out x.reply f p i;
      assignment = (shown_in reader w x.reply s).assignment;
      epoch-floor = (shown_in reader w x.reply s).epoch-floor;
      incarnation = (shown_in reader w x.reply s).incarnation;
      registered = (shown_in reader w x.reply s).registered;
      invalidated = (shown_in reader w x.reply s).invalidated;
      waiting = (shown_in reader w x.reply s).waiting;
      undrained = (shown_in reader w x.reply s).undrained;
    }

pub bytes-show : (reader : ℕ) (r : SessionRecord) (st : List ℕ) (w : Call) → Follows r st (result_of (view r st) w)
    → port_shown reader w (effect_of (result_of (view r st) w) st (out_of w))
    ≡ shown_in reader w (result_of (view r st) w).reply (after (view r st) (result_of (view r st) w))
bytes-show reader r st w f =
    let x : session.Result = result_of (view r st) w in
    let p : Placed (view x.next (write_all x.writes st)).queue x.reply =
    subst (λ (s : Session). Placed s.queue x.reply) (sym f.session) (placed-call (view r st) (view-counted r st) w) in
    result-shows reader st w (out_of w) x f.kept f.reply p ∙ ap (shown_in reader w x.reply) f.session
