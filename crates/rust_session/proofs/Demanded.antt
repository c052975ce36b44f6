-- Demand 2: `demand-two-fed` and `demand-two`, of the statements in specs/Demand, by induction over the list of calls.
--
-- A call that one of ours refuses changes neither record nor store (`ours-still`), so it can be left out.
-- Assumes nothing.
use Rattle.std.specs.Prelude.{None}
use Prim.Native.Nat.{ℕ}
use mathlib.Core.Path.{◌≡◌, refl, ap, ap₂, sym, ◌∙◌, subst}
use mathlib.Core.Bool.{Bool, true, false, cond, not, false≢true}
use mathlib.Core.List.{List, [], ◌∷◌, map}
use mathlib.Core.Logic.{inl}
use lib.ListN.{length}
use lib.Dec.{ltb}
use borrow.Author.Tests.{not-true}
use Rattle.slice.specs.BoolLaws.{both_true}
use Rattle.keyed.proofs.KeyedLaws.{choose}
use Rattle.keyed.proofs.EachLaws.{Each}
use Rattle.packed_delta.specs.Join.{Proper}
use Rattle.session.specs.declared.SessionRecord.{SessionRecord}
use Rattle.packed_queue.specs.Entries.{decode_entries}
use Rattle.session.specs.Store.{identity_slot, slot, queue_in, write_all}
use Rattle.session.specs.Identity.{identity_topic, subscription_of, consumer_name_of, identity_kind}
use Rattle.session.specs.Session as session
use Rattle.session.specs.Session.{Session, CallAnswer, view}
use Rattle.session.specs.Drain.{Found, end, entry, drained, next_for}
use Rattle.session.specs.Calls.{CallOutcome, answer_of, effect_of}
use Rattle.session.specs.Trace.{Call, update, response, drain, begin, invalidate, step_of}
use Rattle.session.specs.DemandThree.{Fresh, AllOfBytes}
use Rattle.session.proofs.Model.{result_of}
use Rattle.session.proofs.CallLaws.{update-cases, response-cases, drain-cases}
use Rattle.session.proofs.ViewLaws.{Kept, kept_fresh, Follows}
use Rattle.session.proofs.TraceLaws.{out_of, follow-call, step_is}
use Rattle.rust_names.specs.Agree.{is_marked}
use Rattle.rust_session.specs.Values.{as_assignment, as_floor, as_type}
use Rattle.rust_session.specs.Demand.{topic_in, port_shown, port_run, Caller, rust_step, rust_run, opened, is_ours, none_ours, fed_calls}
use Rattle.rust_session.specs.Demand.{fed_shown, drains_by, one_reader, DemandTwoFed, DemandTwo}
use Rattle.rust_session.proofs.ReplayAgrees.{Registration, sess}
use Rattle.rust_session.proofs.Mirror.{ours_in, Mirror, Agrees}
use Rattle.rust_session.proofs.ShownAgrees.{fair-call, shown-agrees, view-counted, bytes-show}

-- ---- what one of ours refuses

pub ours-is : (x : CallAnswer) → is_ours (answer_of x) ≡ ours_in x
ours-is (session.refused x) = refl
ours-is session.accepted = refl
ours-is session.unchanged = refl
ours-is (session.changed d) = refl
ours-is (session.replayed index place d) = refl

-- the record is kept, and nothing is written
abbrev Still : Session → session.Result → Type 0
Still s x = ours_in x.reply ≡ true → (x.next ≡ s.state) × (x.writes ≡ [])

found-still : (s : Session) (by : ℕ) (f : Found) → Still s (drained s by f)
unfolding drained
found-still s by end = λ e. absurd (false≢true e)
found-still s by (entry i d) = λ e. absurd (false≢true e)

ours-still : (s : Session) (w : Call) → Still s (result_of s w)
ours-still s (update message link out) =
    update-cases s (Still s) (λ x e. (refl, refl)) message link (length out)
    (λ t u e. (refl, refl)) (λ t u e. absurd (false≢true e)) (λ t e. absurd (false≢true e))
ours-still s (response message link) = response-cases s (Still s) (λ x e. (refl, refl)) message link (λ t u e. absurd (false≢true e))
ours-still s (drain by out) =
    drain-cases s (Still s) (λ x e. (refl, refl)) by (length out) (λ t. found-still s by (next_for s by)) (λ t e. (refl, refl))
ours-still s (begin link) =
    choose (Still s) (ltb s.state.incarnation.0 link.0) (λ t e. absurd (false≢true e)) (λ t e. (refl, refl))
ours-still s invalidate = λ e. absurd (false≢true e)

-- ---- the run

state-view : (r : SessionRecord) (st : List ℕ) → (view r st).state ≡ r
unfolding view
state-view r st = refl

-- of a call with that outcome, and the calls behind it
abbrev FedFrom : (reader : ℕ) → Caller → Call → List Call → CallOutcome → Type 0
FedFrom reader c w ws o =
    cond (is_ours o.answer) (fed_shown reader o.next o.store ws) (port_shown reader w o ∷ fed_shown reader o.next o.store ws)
    ≡ rust_run c (cond (is_ours o.answer) (fed_calls o.next o.store ws) (w ∷ fed_calls o.next o.store ws))

module _ (n : Registration) where
  -- from every record, store and caller that are alike
  abbrev Feeds : List Call → Type 0
  Feeds calls =
      (r : SessionRecord) (st : List ℕ) (c : Caller) → Kept r st → Mirror n (view r st) c → AllOfBytes calls
      → one_reader n.reader calls ≡ true → fed_shown n.reader r st calls ≡ rust_run c (fed_calls r st calls)

  fed-call : (w : Call) (ws : List Call) → Feeds ws → (r : SessionRecord) (st : List ℕ) (c : Caller) → Kept r st → Mirror n (view r st) c
      → AllOfBytes (w ∷ ws) → one_reader n.reader (w ∷ ws) ≡ true
      → FedFrom n.reader c w ws (effect_of (result_of (view r st) w) st (out_of w))
  fed-call w ws rest r st c k m b o = go (is_ours (answer_of x.reply)) refl
    where
      x : session.Result
      x = result_of (view r st) w

      -- the drains are the reader's
      own : (drains_by n.reader w ≡ true) × (one_reader n.reader ws ≡ true)
      own = both_true (drains_by n.reader w) (one_reader n.reader ws) o

      behind : List ℕ
      behind = write_all x.writes st

      f : Follows r st (result_of (view r st) w)
      f = follow-call r st k w b.0

      agrees : is_ours (answer_of x.reply) ≡ false → Agrees n w (view r st) (result_of (view r st) w) (rust_step c w)
      agrees t = fair-call n w (view r st) c own.0 m (sym (ours-is x.reply) ∙ t)

      go : (t : Bool) → is_ours (answer_of x.reply) ≡ t
          → cond t (fed_shown n.reader x.next behind ws) (port_shown n.reader w (effect_of x st (out_of w)) ∷ fed_shown n.reader x.next behind ws)
          ≡ rust_run c (cond t (fed_calls x.next behind ws) (w ∷ fed_calls x.next behind ws))
      go true t =
          let e = ours-still (view r st) w (sym (ours-is x.reply) ∙ t) in
          let p : x.next ≡ r = e.0 ∙ state-view r st in
          let q : behind ≡ st = ap (λ l. write_all l st) e.1 in
          ap₂ (λ a s. fed_shown n.reader a s ws) p q ∙ rest r st c k m b.1 own.1 ∙ ap₂ (λ a s. rust_run c (fed_calls a s ws)) (sym p) (sym q)
      go false t =
          ap₂ ◌∷◌ (bytes-show n.reader r st w f ∙ shown-agrees n w (view r st) x (rust_step c w) (agrees t))
          (rest x.next behind (rust_step c w).next f.kept
          (subst (λ s. Mirror n s (rust_step c w).next) (sym f.session) (agrees t).mirror) b.1 own.1)

  fed-run : (calls : List Call) → Feeds calls
  fed-run [] r st c k m b o = refl
  fed-run (w ∷ ws) r st c k m b o = subst (FedFrom n.reader c w ws) (sym (step_is r st w)) (fed-call w ws (fed-run ws) r st c k m b o)

-- ---- a fresh record, and the Rust's new session

abbrev registration_of : (reader : ℕ) → List ℕ → Registration
registration_of reader st =
    record {
      reader = reader;
      subscription = subscription_of (slot st identity_slot);
      consumer-name = consumer_name_of (slot st identity_slot);
      consumer-type = as_type (identity_kind (slot st identity_slot));
    }

start : (reader : ℕ) (r : SessionRecord) → Fresh r → (st : List ℕ) → is_marked (topic_in st) ≡ false
    → Mirror (registration_of reader st) (view r st) (opened r st)
unfolding view queue_in decode_entries
start reader r f st unmarked =
    record {
      unmarked = unmarked;
      counted = view-counted r st;
      eight = ap length f.positions;
      state =
          inl (record {
            registered = f.unregistered;
            is = λ i.
                record {
                  session =
                      sess (registration_of reader st) r.consumer_id (identity_topic (slot st 0)) r.incarnation None
                      (as_floor (sym f.no-floor i))
                      (map (as_assignment (identity_topic (slot st 0))) (queue_in st (sym f.no-queue i))) [] (sym f.not-invalidated i);
                  taken = [];
                };
            proper = subst (λ m. Each Proper (queue_in st m)) (sym f.no-queue) tt;
          });
    }

pub demand-two-fed : DemandTwoFed
demand-two-fed r f st unmarked calls bytes reader o =
    fed-run (registration_of reader st) calls r st (opened r st) (kept_fresh r st f) (start reader r f st unmarked) bytes o

-- ---- where none of ours is due, all calls are fed

record AllFed (reader : ℕ) (r : SessionRecord) (st : List ℕ) (calls : List Call) : Type 0 where
  all : fed_calls r st calls ≡ calls
  shown : fed_shown reader r st calls ≡ port_run reader r st calls

all-fed : (reader : ℕ) (calls : List Call) (r : SessionRecord) (st : List ℕ) → none_ours r st calls ≡ true → AllFed reader r st calls
all-fed reader [] r st e = record { all = refl; shown = refl }
all-fed reader (w ∷ ws) r st e =
    let o : CallOutcome = step_of r st w in
    let p = both_true (not (is_ours o.answer)) (none_ours o.next o.store ws) e in
    let t : is_ours o.answer ≡ false = not-true (is_ours o.answer) p.0 in
    let h : AllFed reader o.next o.store ws = all-fed reader ws o.next o.store p.1 in
    record { all = rw t (ap (w ∷◌) h.all); shown = rw t (ap (port_shown reader w o ∷◌) h.shown) }

pub demand-two : DemandTwo
demand-two r f st unmarked calls bytes reader o e =
    let a : AllFed reader r st calls = all-fed reader calls r st e in
    sym a.shown ∙ demand-two-fed r f st unmarked calls bytes reader o ∙ ap (rust_run (opened r st)) a.all
