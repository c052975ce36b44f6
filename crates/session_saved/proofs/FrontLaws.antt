-- Stores with the same front, up to where the queue of one ends: the other holds the same session.
--
-- In order: lists with the same front (`front-shorter`, `front-behind`); entries (`entries-alike`); how long a queue is (`end-most`); the
-- session on a store (`same-session`, `undamaged`).
-- Assumes nothing.
use Prim.Native.Nat.{ℕ, zero, suc, ◌+◌, ◌*◌, ◌≤◌}
use native.Mathlib.Omega.{arith}
use mathlib.Core.Path.{◌≡◌, refl, sym, ap, ap₂, ◌∙◌}
use mathlib.Core.Bool.{Bool, true, false, not, ◌&&◌, ◌||◌}
use mathlib.Core.List.{List, ◌∷◌}
use lib.ListN.{length, take, drop, length-take, length-drop}
use lib.Seq.{take-take, length-take-le}
use lib.Dec.{ltb}
use borrow.Author.Tests.{le-leb}
use Rattle.slice.specs.BoolLaws.{both_true}
use Rattle.slice.proofs.PartLaws.{drop-take}
use Rattle.slice_int.specs.Be.{be}
use Rattle.packed.specs.Assignment.{ConsumerAssignment, num, decode_assignment, starts_assignment}
use Rattle.packed_queue.specs.Entries.{sheet_in, entry_end, decode_entries, entries_end, starts_entry, start_entries}
use Rattle.packed_queue.proofs.WalkLaws.{ends-inside, ends-by-size, entry-inside, entry_whole}
use Rattle.session.specs.declared.SessionRecord.{SessionRecord}
use Rattle.session.specs.Store.{slot, list_in, queue_in, queue_reads, queue_end}
use Rattle.session.specs.Identity.{identity_topic, is_identity}
use Rattle.session.specs.Session.{lists_start, in_use, view, any_beyond, damaged}
use Rattle.session_store.specs.Places.{QueueEnds}
use Rattle.session_store.proofs.StoreLaws.{sheet-few, count_most, queue-starts}
use Rattle.session_saved.specs.Restores.{SameSession}

-- ---- lists with the same front

front-shorter : (a b : List ℕ) (j k : ℕ) → j ≤ k → take k a ≡ take k b → take j a ≡ take j b
front-shorter a b j k h e = sym (take-take j k a h) ∙ ap (take j) e ∙ take-take j k b h

front-behind : (a b : List ℕ) (j n : ℕ) → take (j + n) a ≡ take (j + n) b → take n (drop j a) ≡ take n (drop j b)
front-behind a b j n e = sym (drop-take j n a) ∙ ap (drop j) e ∙ drop-take j n b

front_long : (a b : List ℕ) (k : ℕ) → k ≤ length a → take k a ≡ take k b → k ≤ length b
front_long a b k h e = omega (arith, ap length e, length-take-le k a h, length-take k b)

-- ---- entries

module _ (l m : List ℕ) (h : starts_entry l ≡ true) (e : take (entry_end l) l ≡ take (entry_end l) m) where
  length-alike : num 2 m ≡ num 2 l
  unfolding num
  length-alike = ap be (sym (front-shorter l m 2 (entry_end l) (omega arith) e))

  sheet-alike : sheet_in m ≡ sheet_in l
  unfolding sheet_in
  sheet-alike = ap (λ (n : ℕ). take n (drop 2 m)) length-alike ∙ sym (front-behind l m 2 (num 2 l) e)

  starts-alike : starts_entry m ≡ true
  unfolding starts_entry
  starts-alike =
      let k : entry_end m ≤ length m = omega (arith, length-alike, front_long l m (entry_end l) (entry-inside l h) e) in
      simp (le-leb (entry_end m) (length m) k, sheet-alike, entry_whole l h)

pub entries-alike : (n : ℕ) (l m : List ℕ) → start_entries n l ≡ true → take (entries_end n l) l ≡ take (entries_end n l) m
    → (start_entries n m ≡ true) × (decode_entries n m ≡ decode_entries n l)
unfolding start_entries entries_end decode_entries
entries-alike zero l m h e = (refl, refl)
entries-alike (suc n) l m h e =
    let p = both_true (starts_entry l) _ h in
    let rest = drop (entry_end l) l in
    let f : take (entry_end l) l ≡ take (entry_end l) m =
    front-shorter l m (entry_end l) (entry_end l + entries_end n rest) (omega arith) e in
    let d : drop (entry_end m) m ≡ drop (entry_end l) m = ap (λ (k : ℕ). drop (2 + k) m) (length-alike l m p.0 f) in
    let q = entries-alike n rest (drop (entry_end l) m) p.1 (front-behind l m (entry_end l) (entries_end n rest) e) in (
      simp (starts-alike l m p.0 f, d, q.0),
      ap₂ (λ (x : List ℕ) (y : List ConsumerAssignment). decode_assignment x ∷ y) (sheet-alike l m p.0 f) (ap (decode_entries n) d ∙ q.1),
    )

-- ---- how long a queue is

entries-most : (n : ℕ) (l : List ℕ) → start_entries n l ≡ true → entries_end n l ≤ n * 2050
unfolding start_entries entries_end
entries-most zero l h = omega arith
entries-most (suc n) l h =
    let p = both_true (starts_entry l) _ h in
    omega (arith, sheet-few l p.0, entries-most n (drop (entry_end l) l) p.1)

module _ (r : SessionRecord) (st : List ℕ) (valid : damaged (view r st) ≡ false) where
  sound : not (damaged (view r st)) ≡ true
  sound = ap not valid

  -- where the queue ends, by the bytes
  end_is : (end : ℕ) → QueueEnds st r.queue_count end → end ≡ 6144 + entries_end r.queue_count (drop 6144 st)
  unfolding queue_in queue_reads
  end_is end q = q.at ∙ ap (6144 +◌) (ends-by-size r.queue_count (drop 6144 st) (queue-starts r st sound))

  pub end-most : (end : ℕ) → QueueEnds st r.queue_count end → end ≤ 2105344
  unfolding queue_reads
  end-most end q =
      omega (
        arith,
        end_is end q,
        entries-most r.queue_count (drop 6144 st) (queue-starts r st sound),
        count_most r st sound,
      )

  pub end-least : (end : ℕ) → QueueEnds st r.queue_count end → 6144 ≤ end
  end-least end q = omega (arith, end_is end q)

  pub ends : 6144 ≤ length st → QueueEnds st r.queue_count (queue_end (queue_in st r.queue_count))
  unfolding queue_in queue_reads
  ends big =
      record {
        at = refl;
        inside =
            omega (
              arith,
              ends-by-size r.queue_count (drop 6144 st) (queue-starts r st sound),
              ends-inside r.queue_count (drop 6144 st) (queue-starts r st sound),
              length-drop 6144 st,
            );
      }

  -- ---- the session on a store with the same front

  module _ (b : List ℕ) (end : ℕ) (q : QueueEnds st r.queue_count end) (e : take end st ≡ take end b) where
    slot-alike : (k : ℕ) → k ≤ 2 → slot b k ≡ slot st k
    unfolding slot
    slot-alike k h =
        sym (front-behind st b (2048 * k) 2048 (front-shorter st b (2048 * k + 2048) end (omega (arith, end-least end q)) e))

    queue-alike : (queue_reads b r.queue_count ≡ true) × (queue_in b r.queue_count ≡ queue_in st r.queue_count)
    unfolding queue_reads queue_in
    queue-alike =
        let n = r.queue_count in
        let E = entries_end n (drop 6144 st) in
        let f : take (6144 + E) st ≡ take (6144 + E) b =
        ap (λ (k : ℕ). take k st) (sym (end_is end q)) ∙ e ∙ ap (λ (k : ℕ). take k b) (end_is end q) in
        entries-alike n (drop 6144 st) (drop 6144 b) (queue-starts r st sound) (front-behind st b 6144 E f)

    lists-alike : (t : Bool) → lists_start t b ≡ lists_start t st
    lists-alike true =
        ap₂ (λ (x y : List ℕ). starts_assignment x && starts_assignment y) (slot-alike 1 (omega arith)) (slot-alike 2 (omega arith))
    lists-alike false = refl

    use-alike : in_use r b ≡ in_use r st
    unfolding in_use
    use-alike =
        ap₂ (λ (x : List ℕ) (y : Bool). is_identity x && y) (slot-alike 0 (omega arith))
        (ap₂ (λ (x y : Bool). x && y) (lists-alike r.registered) (queue-alike.0 ∙ sym (queue-starts r st sound)))

    pub same-session : SameSession (view r b) (view r st)
    unfolding view list_in
    same-session =
        record {
          state = refl;
          sound = use-alike;
          topic = ap identity_topic (slot-alike 0 (omega arith));
          baseline = ap decode_assignment (slot-alike 1 (omega arith));
          list = ap decode_assignment (slot-alike 2 (omega arith));
          queue = queue-alike.1;
        }

    pub undamaged : damaged (view r b) ≡ false
    unfolding damaged view
    undamaged =
        ap
        (λ (t : Bool). ltb 1024 r.queue_count || (any_beyond 8 r.queue_count r.drain_positions || not t))
        use-alike
        ∙ valid
