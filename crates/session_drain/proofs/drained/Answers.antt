-- `session_drain::drained` meets its contract: a test after the other, then what the walk over the queue found.
-- Assumes nothing.
use Prim.Native.Nat.{◌+◌, ◌<◌}
use native.Mathlib.Omega.{arith}
use mathlib.Core.Path.{◌≡◌, sym, ap, ◌∙◌}
use mathlib.Core.Bool.{not}
use Rattle.session_store.proofs.StoreLaws.{position_in}
use Rattle.session_drain.specs.Entries.{found_at}
use Rattle.session_drain.proofs.DrainLaws.{next-length, next-lies, next-inside}
use Rattle.session_drain.proofs.DrainLaws.{told, store-short, output-short, reader-unknown, store-bad}
use Rattle.session_drain.proofs.DrainLaws.{next_of, Taken, unregistered, queue-there, none_left, replayed}
use Rattle.session_drain.proofs.drained.Goals.{After-next_change-found, Else-found-n, Else-not-is_sound}
use Rattle.session_drain.proofs.drained.Goals as goal

-- no refusal
taken : (c : Else-not-is_sound) → let s = c in Taken s.args.r s.args.store.now s.args.reader s.args.out.now
taken c =
    record {
      store = c.if-store-lt-MIN_STORE.false;
      output = c.if-out-lt-LONGEST.false;
      known = c.if-reader-ge-READERS.false;
      sound = sym c.is_sound.ensures ∙ c.if-not-is_sound.false;
    }

-- what was found, from the reader's position on
there : (c : After-next_change-found) → let s = (c) in
    next_of s.args.r s.args.store.now s.args.reader ≡ found_at s.args.store.now s.args.r.queue_count c.next_change-found.result.i
there c = rw c.position.ensures at c.next_change-found.ensures.from_value

low : (c : Else-found-n) → let m = c in m.next_change-found.result.i < ((m)).args.r.queue_count
low c = omega (arith, c.next_change-found.ensures.reaches.1, c.if-found-n.false)

pub returns-then-store-lt-MIN_STORE : goal.returns-then-store-lt-MIN_STORE
returns-then-store-lt-MIN_STORE c =
    let s = c in
    told s.args.r s.args.store.now s.args.reader s.args.out.now c.refuse.ensures
    (store-short s.args.r s.args.store.now s.args.reader s.args.out.now c.if-store-lt-MIN_STORE.true)

pub returns-then-out-lt-LONGEST : goal.returns-then-out-lt-LONGEST
returns-then-out-lt-LONGEST c =
    let s = c in
    told s.args.r s.args.store.now s.args.reader s.args.out.now c.refuse-then-out-lt-LONGEST.ensures
    (output-short s.args.r s.args.store.now s.args.reader s.args.out.now c.if-store-lt-MIN_STORE.false c.if-out-lt-LONGEST.true)

pub returns-then-reader-ge-READERS : goal.returns-then-reader-ge-READERS
returns-then-reader-ge-READERS c =
    let e = c in
    let s = e in
    told s.args.r s.args.store.now s.args.reader s.args.out.now c.refuse-then-reader-ge-READERS.ensures
    (reader-unknown s.args.r s.args.store.now s.args.reader s.args.out.now e.if-store-lt-MIN_STORE.false (omega arith)
    c.if-reader-ge-READERS.true)

pub returns-then-not-is_sound : goal.returns-then-not-is_sound
returns-then-not-is_sound c =
    let k = c in
    let s = k in
    told s.args.r s.args.store.now s.args.reader s.args.out.now c.refuse-then-not-is_sound.ensures
    (store-bad s.args.r s.args.store.now s.args.reader s.args.out.now k.if-store-lt-MIN_STORE.false
    k.if-out-lt-LONGEST.false k.if-reader-ge-READERS.false k.is_sound.result k.is_sound.ensures (ap not c.if-not-is_sound.true))

pub returns-then-not-r : goal.returns-then-not-r
returns-then-not-r c =
    let k = c in
    let s = k in
    told s.args.r s.args.store.now s.args.reader s.args.out.now c.unchanged.ensures
    (unregistered s.args.r s.args.store.now s.args.reader s.args.out.now (taken (goal.at.returns-then-not-r c).Else-not-is_sound) c.if-not-r.true)

pub position-requires : goal.position-requires
position-requires c = (taken (goal.at.position-requires c).Else-not-is_sound).known

pub next_change-found-requires : goal.next_change-found-requires
next_change-found-requires c =
    let s = c in
    let t = taken (goal.at.next_change-found-requires c).Else-not-is_sound in
    record {
      entries = queue-there s.args.r s.args.store.now s.args.reader s.args.out.now t c.if-not-r.false;
      from_le_n = rw c.position.ensures (position_in s.args.r s.args.store.now t.sound s.args.reader t.known);
    }

pub with_position-next-requires : goal.with_position-next-requires
with_position-next-requires c = (taken (goal.at.with_position-next-requires c).Else-not-is_sound).known

pub returns-then-found-n : goal.returns-then-found-n
returns-then-found-n c =
    let m = c in
    let k = m in
    let s = k in
    told s.args.r s.args.store.now s.args.reader s.args.out.now c.unchanged-then-found-n.ensures
    (rw c.with_position-next.ensures
    (none_left s.args.r s.args.store.now s.args.reader s.args.out.now (taken (goal.at.returns-then-found-n c).Else-not-is_sound) k.if-not-r.false
    m.next_change-found.result.i (there (goal.at.returns-then-found-n c).After-next_change-found) c.if-found-n.true))

pub read_u16-size-requires : goal.read_u16-size-requires
read_u16-size-requires c =
    let s = c in
    let q = queue-there s.args.r s.args.store.now s.args.reader s.args.out.now (taken (goal.at.read_u16-size-requires c).Else-not-is_sound) s.if-not-r.false in
    next-length _ _ s.next_change-found.result s.next_change-found.ensures.reaches.0 q (low (goal.at.read_u16-size-requires c).Else-found-n)

pub overflow_add-place : goal.overflow_add-place
overflow_add-place c =
    let s = c in
    let q = queue-there s.args.r s.args.store.now s.args.reader s.args.out.now (taken (goal.at.overflow_add-place c).Else-not-is_sound) s.if-not-r.false in
    let n = next-length _ _ s.next_change-found.result s.next_change-found.ensures.reaches.0 q (low (goal.at.overflow_add-place c).Else-found-n) in
    record { fits = omega (arith, n, s.well_formed) }

pub overflow_add-end : goal.overflow_add-end
overflow_add-end c =
    let s = c in
    let q = queue-there s.args.r s.args.store.now s.args.reader s.args.out.now (taken (goal.at.overflow_add-end c).Else-not-is_sound) s.if-not-r.false in
    let n = next-inside _ _ s.next_change-found.result s.next_change-found.ensures.reaches.0 q (low (goal.at.overflow_add-end c).Else-found-n) s.read_u16-size.result s.read_u16-size.ensures in
    record { fits = omega (arith, n, s.well_formed) }

pub slice_bounds-write_delta-end : goal.slice_bounds-write_delta-end
slice_bounds-write_delta-end c = let w = c.next_change-found.ensures.reaches.0 in omega (arith, w.rises, w.lies.inside)

pub slice_bounds-write_delta-end-2 : goal.slice_bounds-write_delta-end-2
slice_bounds-write_delta-end-2 c =
    let s = c in
    let q = queue-there s.args.r s.args.store.now s.args.reader s.args.out.now (taken (goal.at.slice_bounds-write_delta-end-2 c).Else-not-is_sound) s.if-not-r.false in
    let n = next-inside _ _ s.next_change-found.result s.next_change-found.ensures.reaches.0 q (low (goal.at.slice_bounds-write_delta-end-2 c).Else-found-n) s.read_u16-size.result s.read_u16-size.ensures in
    n

pub write_delta-len-requires : goal.write_delta-len-requires
write_delta-len-requires c =
    let m = c in
    let t = taken (goal.at.write_delta-len-requires c).Else-not-is_sound in
    let q = queue-there m.args.r m.args.store.now m.args.reader m.args.out.now t m.if-not-r.false in
    let w = m.next_change-found.ensures.reaches.0 in
    let n = next-lies _ _ m.next_change-found.result w q (low (goal.at.write_delta-len-requires c).Else-found-n) m.read_u16-size.result m.read_u16-size.ensures in
    record { value = w.lies.starts; value_2 = n.starts; longest_delta_in_bounds = m.if-out-lt-LONGEST.false }

pub overflow_add-found : goal.overflow_add-found
overflow_add-found c =
    let s = c in
    let q = queue-there s.args.r s.args.store.now s.args.reader s.args.out.now (taken (goal.at.overflow_add-found c).Else-not-is_sound) s.if-not-r.false in
    record { fits = omega (arith, low (goal.at.overflow_add-found c).Else-found-n, q.few) }

pub with_position-next-requires-2 : goal.with_position-next-requires-2
with_position-next-requires-2 c =
    (taken (goal.at.with_position-next-requires-2 c).Else-not-is_sound).known

pub returns : goal.returns
returns c =
    let m = c in
    let s = m in
    let y = m.next_change-found.ensures.reaches.0 in
    let t = taken (goal.at.returns c).Else-not-is_sound in
    let q = queue-there s.args.r s.args.store.now s.args.reader s.args.out.now t m.if-not-r.false in
    let n = next-lies _ _ m.next_change-found.result y q (low (goal.at.returns c).Else-found-n) m.read_u16-size.result m.read_u16-size.ensures in
    replayed s.args.r s.args.store.now s.args.reader s.args.out.now t m.if-not-r.false
    m.next_change-found.result.i (there (goal.at.returns c).After-next_change-found) (low (goal.at.returns c).Else-found-n) _ (ap (◌+ 2) y.here) _ _ y.lies.holds n.holds
    _ c.write_delta-len.ensures.0 _ c.write_delta-len.ensures.1 _ c.with_position-next-2.ensures
