-- A record and a store, read as a session, behind the writes of a call.
--
-- In order: what a session that is not damaged has (`undamaged`); deltas of assignments that can be packed (`delta-fits`); a slot that holds one (`Stands`), behind a
-- write to a slot (`stands-written`, `stands-kept`, `queue-kept`); the invariant of a record and a store (`Kept`, `kept_fresh`, `sound-is`, `damaged-is`); for each
-- kind of result the view behind it is `after`, and the invariant is kept (`Follows`: `follow-still`, `follow-hold`, `follow-enqueue`, `follow-register`).
-- Assumes nothing.
use Prim.Native.Nat.{ℕ, ◌+◌, ◌*◌, ◌≤◌, ◌<◌}
use native.Mathlib.Omega.{arith}
use mathlib.Core.Path.{◌≡◌, refl, sym, ap, ap₂, ◌∙◌, subst}
use mathlib.Core.Bool.{Bool, true, false, cond, not, ◌&&◌, false≢true}
use mathlib.Core.List.{List, [], ◌∷◌, ◌++◌, append-nil}
use lib.ListN.{length, take, length-append}
use lib.Seq.{take_all}
use lib.Dec.{eqb, ltb, leb}
use borrow.Author.Tests.{ltb-false, eqb-true, eqb-false, le-ltb, not-false}
use Rattle.slice.specs.BoolLaws.{both_true}
use Rattle.packed.specs.Assignment.{ConsumerAssignment, decode_assignment, size_assignment, starts_assignment}
use Rattle.packed.proofs.RoundLaws.{FitAssignment}
use Rattle.packed_delta.specs.Change.{delta_between}
use Rattle.packed_delta.proofs.RoundLaws.{FitDelta}
use Rattle.packed_delta.proofs.ShortLaws.{delta-lost-few, delta-gained-few, delta-lost-fit, delta-gained-fit}
use Rattle.packed_queue.specs.Entries.{size_entry}
use Rattle.packed_queue.proofs.EntryLaws.{Packable, packable-size}
use Rattle.keyed.proofs.EachLaws.{Each}
use Rattle.session.specs.declared.SessionRecord.{SessionRecord}
use Rattle.session.specs.Store.{slot, list_in, queue_in, queue_reads, queue_end, to_slot, push, write_one, write_all}
use Rattle.session.specs.Identity.{identity_topic, is_identity}
use Rattle.session.specs.Session.{Session, lists_start, in_use, view, any_beyond, damaged, Result}
use Rattle.session.specs.Session.{CallAnswer, refused, accepted, unchanged, changed, replayed}
use Rattle.session.specs.Update.{enqueue, hold}
use Rattle.session.specs.Response.{last_list, register}
use Rattle.session.specs.DemandThree.{Fresh}
use Rattle.session.proofs.Model.{in_slot, pushes, after}
use Rattle.session.proofs.PositionLaws.{Within, within-start, within_more, none-beyond, or-false}
use Rattle.session.proofs.SlotLaws.{length-slotted, slot-other, list_same, starts-same, area-slotted}
use Rattle.session.proofs.SlotLaws.{Queued, queued-none, queued-lists, queued-reads, queued-front, queued-take, queued-same, queue-same}
use Rattle.session.proofs.SlotLaws.{length-pushed, slot_pushed, queued-push, queue-pushed}

-- ---- a session that is not damaged

pub record Undamaged (s : Session) : Type 0 where
  pub count : s.state.queue_count ≤ 1024
  pub positions : any_beyond 8 s.state.queue_count s.state.drain_positions ≡ false
  pub sound : s.sound ≡ true

pub undamaged : (s : Session) → damaged s ≡ false → Undamaged s
unfolding damaged
undamaged s e =
    let p = or-false (ltb 1024 s.state.queue_count) _ e in
    let q = or-false (any_beyond 8 s.state.queue_count s.state.drain_positions) _ p.1 in
    record { count = ltb-false _ _ p.0; positions = q.0; sound = not-false s.sound q.1 }

-- ---- the deltas of lists that can be packed

pub delta-fits : (a b : ConsumerAssignment) → Packable a → Packable b → FitDelta (delta_between a b)
unfolding delta_between
delta-fits a b p q =
    record {
      epoch = q.fits.epoch;
      lost-count = omega (arith, delta-lost-few a b (packable-size a p));
      gained-count = omega (arith, delta-gained-few a b (packable-size b q));
      lost = delta-lost-fit a b p.fits.segments;
      gained = delta-gained-fit a b q.fits.segments;
    }

pub last-packable : (b : ConsumerAssignment) (q : List ConsumerAssignment) → Packable b → Each Packable q → Packable (last_list b q)
unfolding last_list
last-packable b [] p e = p
last-packable b (a ∷ q) p e = last-packable a q e.0 e.1

-- ---- a slot that holds one

pub record Stands (st : List ℕ) (k : ℕ) : Type 0 where
  pub fits : FitAssignment (list_in st k)
  pub starts : starts_assignment (slot st k) ≡ true

pub stands-packable : (st : List ℕ) (k : ℕ) → Stands st k → Packable (list_in st k)
unfolding list_in starts_assignment
stands-packable st k s =
    let l : List ℕ = slot st k in
    record { fits = s.fits; ok = (both_true (leb (size_assignment (decode_assignment l)) (length l)) _ s.starts).1 }

pub stands_same : (st su : List ℕ) (k : ℕ) → slot su k ≡ slot st k → Stands st k → Stands su k
unfolding list_in
stands_same st su k e s =
    record { fits = subst (λ l. FitAssignment (decode_assignment l)) (sym e) s.fits; starts = ap starts_assignment e ∙ s.starts }

list-still : (st su : List ℕ) (k : ℕ) → slot su k ≡ slot st k → list_in su k ≡ list_in st k
unfolding list_in
list-still st su k e = ap decode_assignment e

-- ---- behind a write to a slot

-- a write into baseline or list of a store of that size
pub record Slotted (size k : ℕ) (a : ConsumerAssignment) : Type 0 where
  pub packable : Packable a
  pub big : 6144 ≤ size
  pub above : 0 < k
  pub below : k < 3

module _ (k : ℕ) (a : ConsumerAssignment) (st : List ℕ) (p : Slotted (length st) k a) where
  inside : 2048 * k + 2048 ≤ length st
  inside = omega (arith, p.below, p.big)

  length-kept : length (write_one (to_slot k a) st) ≡ length st
  length-kept = length-slotted k a st p.packable inside

  pub stands-written : Stands (write_one (to_slot k a) st) k
  stands-written =
      record {
        fits = subst FitAssignment (sym (list_same k a st p.packable inside)) p.packable.fits;
        starts = starts-same k a st p.packable inside;
      }

  identity-kept : slot (write_one (to_slot k a) st) 0 ≡ slot st 0
  identity-kept = slot-other k a st p.packable inside 0 (λ z. omega (arith, p.above))

  pub stands-kept : (j : ℕ) → Stands st j → Stands (write_one (to_slot k a) st) j
  stands-kept j s = go (eqb j k) refl
    where
      go : (b : Bool) → eqb j k ≡ b → Stands (write_one (to_slot k a) st) j
      go true t = subst (Stands (write_one (to_slot k a) st)) (sym (eqb-true j k t)) stands-written
      go false t = stands_same st (write_one (to_slot k a) st) j (slot-other k a st p.packable inside j (eqb-false j k t)) s

  list-kept : (j : ℕ) → list_in (write_one (to_slot k a) st) j ≡ cond (eqb k j) a (list_in st j)
  unfolding list_in
  list-kept j = go (eqb k j) refl
    where
      go : (b : Bool) → eqb k j ≡ b → list_in (write_one (to_slot k a) st) j ≡ cond b a (list_in st j)
      go true t = subst (λ i. list_in (write_one (to_slot k a) st) i ≡ a) (eqb-true k j t) (list_same k a st p.packable inside)
      go false t = ap decode_assignment (slot-other k a st p.packable inside j (λ e. eqb-false k j t (sym e)))

  lists-kept : (n : ℕ) → queue_in (write_one (to_slot k a) st) n ≡ queue_in st n
  lists-kept n = queue-same st n (write_one (to_slot k a) st) (area-slotted k a st p.packable inside p.below)

  pub queue-kept : (n : ℕ) → Queued st n → Queued (write_one (to_slot k a) st) n
  queue-kept n q = queued-same st n q (write_one (to_slot k a) st) (area-slotted k a st p.packable inside p.below)

-- ---- the invariant

-- Every list in use stands in its slot, and the counts are in order. A fresh record uses no list, so this holds of it on any store: one that
-- is too short or has no identity is refused by the calls.
pub record Kept (r : SessionRecord) (st : List ℕ) : Type 0 where
  pub baseline : r.registered ≡ true → Stands st 1
  pub list : r.registered ≡ true → Stands st 2
  pub queue : Queued st r.queue_count
  pub count : r.queue_count ≤ 1024
  pub positions : Within r.queue_count r.drain_positions

pub kept_fresh : (r : SessionRecord) (st : List ℕ) → Fresh r → Kept r st
kept_fresh r st f =
    record {
      baseline = λ t. absurd (false≢true (sym f.unregistered ∙ t));
      list = λ t. absurd (false≢true (sym f.unregistered ∙ t));
      queue = subst (Queued st) (sym f.no-queue) (queued-none st);
      count = omega (arith, f.no-queue);
      positions = subst (Within r.queue_count) (sym f.positions) (within-start r.queue_count);
    }

-- the identity alone decides whether the store is sound
pub sound-is : (r : SessionRecord) (st : List ℕ) → Kept r st → in_use r st ≡ is_identity (slot st 0)
unfolding in_use
sound-is r st k =
    let q : queue_reads st r.queue_count ≡ true = queued-reads st r.queue_count k.queue in
    ap₂ (λ a b. is_identity (slot st 0) && (a && b)) (lists r.registered (λ t. (k.baseline t).starts) (λ t. (k.list t).starts)) q
    ∙ alone (is_identity (slot st 0))
  where
    lists : (b : Bool) → (b ≡ true → starts_assignment (slot st 1) ≡ true) → (b ≡ true → starts_assignment (slot st 2) ≡ true)
        → lists_start b st ≡ true
    lists true f g = simp (f refl, g refl)
    lists false f g = refl

    alone : (b : Bool) → (b && (true && true)) ≡ b
    alone true = refl
    alone false = refl

-- and whether it is damaged
pub damaged-is : (r : SessionRecord) (st : List ℕ) → Kept r st → damaged (view r st) ≡ not (is_identity (slot st 0))
unfolding damaged view
damaged-is r st k =
    simp (
      le-ltb 1024 r.queue_count k.count,
      none-beyond 8 r.queue_count r.drain_positions k.positions,
      sound-is r st k,
    )

-- ---- what a result leaves

-- the delta of a reply can be packed
abbrev pub FitAnswer : CallAnswer → Type 0
FitAnswer (refused x) = Unit {0}
FitAnswer accepted = Unit {0}
FitAnswer unchanged = Unit {0}
FitAnswer (changed d) = FitDelta d
FitAnswer (replayed index place d) = FitDelta d

pub record Follows (r : SessionRecord) (st : List ℕ) (x : Result) : Type 0 where
  pub kept : Kept x.next (write_all x.writes st)
  pub session : view x.next (write_all x.writes st) ≡ after (view r st) x
  pub reply : FitAnswer x.reply

module _ (r : SessionRecord) (st : List ℕ) (k : Kept r st) where
  abbrev queued : List ConsumerAssignment
  queued = queue_in st r.queue_count

  -- from the invariant behind the writes, and what they leave
  view-after : (x : Result) → Kept x.next (write_all x.writes st) → length (write_all x.writes st) ≡ length st
      → slot (write_all x.writes st) 0 ≡ slot st 0
      → list_in (write_all x.writes st) 1 ≡ in_slot 1 x.writes (list_in st 1)
      → list_in (write_all x.writes st) 2 ≡ in_slot 2 x.writes (list_in st 2)
      → queue_in (write_all x.writes st) x.next.queue_count ≡ take x.next.queue_count (queued ++ pushes x.writes)
      → view x.next (write_all x.writes st) ≡ after (view r st) x
  unfolding view
  view-after x n z e b l q =
      let s : in_use x.next (write_all x.writes st) ≡ in_use r st =
      sound-is x.next (write_all x.writes st) n ∙ ap is_identity e ∙ sym (sound-is r st k) in
      λ i.
      record { state = x.next; size = z i; sound = s i; topic = identity_topic (e i); baseline = b i; list = l i; queue = q i }

  -- the queue, or its front, where no list joined it
  queue-still : (m : ℕ) → m ≤ r.queue_count → queue_in st m ≡ take m (queued ++ [])
  queue-still m h = queued-take st r.queue_count k.queue m h ∙ ap (take m) (sym (append-nil queued))

  -- nothing is written
  pub follow-still : (reply : CallAnswer) (next : SessionRecord) → FitAnswer reply → (next.registered ≡ true → r.registered ≡ true)
      → next.queue_count ≤ r.queue_count → Within next.queue_count next.drain_positions
      → Follows r st (record { reply = reply; next = next; writes = [] })
  follow-still reply next f g h p =
      let n : Kept next st =
      record {
        baseline = λ t. k.baseline (g t);
        list = λ t. k.list (g t);
        queue = queued-front st r.queue_count k.queue next.queue_count h;
        count = omega (arith, k.count);
        positions = p;
      } in
      record {
        kept = n;
        session =
            view-after (record { reply = reply; next = next; writes = [] }) n refl refl refl refl (queue-still next.queue_count h);
        reply = f;
      }

  module _ (big : 6144 ≤ length st) where
    slotted : (i : ℕ) → 0 < i → i < 3 → (a : ConsumerAssignment) → Packable a → Slotted (length st) i a
    slotted i h l a p = record { packable = p; big = big; above = h; below = l }

    pub follow-hold : r.registered ≡ true → (a : ConsumerAssignment) → Packable a → Follows r st (hold (view r st) a)
    unfolding view
    follow-hold t a p =
        let u : Slotted (length st) 2 a = slotted 2 (omega arith) (omega arith) a p in
        let q : Queued (write_one (to_slot 2 a) st) r.queue_count = queue-kept 2 a st u r.queue_count k.queue in
        let n : Kept (hold (view r st) a).next (write_one (to_slot 2 a) st) =
        record {
          baseline = λ e. stands-kept 2 a st u 1 (k.baseline t);
          list = λ e. stands-written 2 a st u;
          queue = q;
          count = k.count;
          positions = k.positions;
        } in
        record {
          kept = n;
          session =
              view-after (hold (view r st) a) n (length-kept 2 a st u) (identity-kept 2 a st u) (list-kept 2 a st u 1) (list-kept 2 a st u 2)
              (lists-kept 2 a st u r.queue_count ∙ queue-still r.queue_count (omega arith));
          reply = delta-fits (list_in st 2) a (stands-packable st 2 (k.list t)) p;
        }

    -- the queue, or its front, is left to be drained
    pub follow-register : (b l : ConsumerAssignment) → Packable b → Packable l → Follows r st (register (view r st) b l)
    unfolding view
    follow-register b l p q =
        let c : ℕ = cond r.registered 0 r.queue_count in
        let less : c ≤ r.queue_count = fewer r.registered in
        let u : Slotted (length st) 1 b = slotted 1 (omega arith) (omega arith) b p in
        let su : List ℕ = write_one (to_slot 1 b) st in
        let same : length su ≡ length st = length-kept 1 b st u in
        let v : Slotted (length su) 2 l = record { packable = q; big = omega arith; above = omega arith; below = omega arith } in
        let front : Queued st c = queued-front st r.queue_count k.queue c less in
        let left : Queued (write_one (to_slot 2 l) su) c = queue-kept 2 l su v c (queue-kept 1 b st u c front) in
        let n : Kept (register (view r st) b l).next (write_one (to_slot 2 l) su) =
        record {
          baseline = λ e. stands-kept 2 l su v 1 (stands-written 1 b st u);
          list = λ e. stands-written 2 l su v;
          queue = left;
          count = omega (arith, k.count);
          positions = within-start c;
        } in
        record {
          kept = n;
          session =
              view-after (register (view r st) b l) n (length-kept 2 l su v ∙ same) (identity-kept 2 l su v ∙ identity-kept 1 b st u)
              (list-kept 2 l su v 1 ∙ list-kept 1 b st u 1) (list-kept 2 l su v 2)
              (lists-kept 2 l su v c ∙ lists-kept 1 b st u c ∙ queue-still c less);
          reply = tt;
        }
      where
        fewer : (b : Bool) → cond b 0 r.queue_count ≤ r.queue_count
        fewer true = omega arith
        fewer false = omega arith

    pub follow-enqueue : r.queue_count < 1024 → (a : ConsumerAssignment) → Packable a → queue_end queued + size_entry a ≤ length st
        → Follows r st (enqueue (view r st) a)
    unfolding view
    follow-enqueue h a p room =
        let n : ℕ = r.queue_count in
        let su : List ℕ = write_one (push (queue_end queued) a) st in
        let q : Queued su (n + 1) = queued-push st n k.queue a p big room in
        let still : (j : ℕ) → j < 3 → slot su j ≡ slot st j = slot_pushed st n k.queue a p big room in
        let o : Kept (enqueue (view r st) a).next su =
        record {
          baseline = λ t. stands_same st su 1 (still 1 (omega arith)) (k.baseline t);
          list = λ t. stands_same st su 2 (still 2 (omega arith)) (k.list t);
          queue = q;
          count = omega arith;
          positions = within_more n (n + 1) r.drain_positions (omega arith) k.positions;
        } in
        let z : length (queued ++ (a ∷ [])) ≤ n + 1 =
        rw length-append (omega (arith, k.queue.counted, ap length (queued-lists st n k.queue))) in
        record {
          kept = o;
          session =
              view-after (enqueue (view r st) a) o (length-pushed st n k.queue a p big room) (still 0 (omega arith))
              (list-still st su 1 (still 1 (omega arith))) (list-still st su 2 (still 2 (omega arith)))
              (queue-pushed st n k.queue a p big room ∙ sym (take_all (n + 1) (queued ++ (a ∷ [])) z));
          reply = tt;
        }
