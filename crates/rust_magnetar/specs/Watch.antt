-- Public: scalable_consumer.rs: `ScalableTopicsWatch`, `TopicsChange`, `TopicsWatchError`.
--
-- The message's struct is that of the crate readers: `pb::CommandWatchScalableTopicsUpdate` is `WireWatchUpdate`, whose event is a snapshot or a diff by its fields; the lists
-- of the part are its fields 1 and 2. The field namespace, which no method here reads or writes, is left out.
-- Assumes nothing.
use Rattle.std.specs.Prelude.{ℕ, cond, not, List, [], ◌∷◌, ◌++◌, ℤ, ◌==◌, Option, Some, None}
use Rattle.wire_readers.specs.Messages.{WireEvent, none, snapshot, diff, WireWatchUpdate}
use Rattle.wire_values.specs.Values.{parts_of}
use Rattle.rust_magnetar.specs.Result.{Result, Ok, Err}
use Rattle.rust_magnetar.specs.Text.{Text}
use Rattle.rust_magnetar.specs.Order.{is_le, str-cmp}
use Rattle.rust_magnetar.specs.Collections.{sort-by}
use Rattle.rust_magnetar.specs.BTree.{BTreeSet-contains, BTreeSet-insert, BTreeSet-is-new, BTreeSet-remove, BTreeSet-from-iter}

pub data TopicsChange : Type 0 where
  Snapshot : (topics : List Text) → TopicsChange
  Diff : (added removed : List Text) → TopicsChange

pub data TopicsWatchError : Type 0 where
  WatchMismatch : (got expected : ℕ) → TopicsWatchError
  Broker : (code : ℤ) (message : Text) → TopicsWatchError
  Empty : (watch-id : ℕ) → TopicsWatchError

-- its topics: BTreeSet<String>
pub record ScalableTopicsWatch : Type 0 where
  pub watch-id : ℕ
  pub topics : List Text

-- the watch after, and the result
pub record WatchDid : Type 0 where
  pub after : ScalableTopicsWatch
  pub result : Result TopicsChange TopicsWatchError

abbrev pub fails : ScalableTopicsWatch → TopicsWatchError → WatchDid
fails self e = record { after = self; result = Err e }

-- the set, and the vector that is pushed to
pub record Loop : Type 0 where
  pub topics : List Text
  pub pushed : List Text

abbrev pub loop : List Text → List Text → Loop
loop topics pushed = record { topics = topics; pushed = pushed }

-- for t in &diff.removed { if self.topics.remove(t) { removed.push(t.clone()); } }
abbrev pub removed-loop : List Text → Loop → Loop
removed-loop [] l = l
removed-loop (t ∷ rest) l =
    removed-loop rest
    (cond (BTreeSet-contains str-cmp t l.topics) (loop (BTreeSet-remove str-cmp t l.topics) (l.pushed ++ (t ∷ []))) l)

-- for t in &diff.added { if self.topics.insert(t.clone()) { added.push(t.clone()); } }
abbrev pub added-loop : List Text → Loop → Loop
added-loop [] l = l
added-loop (t ∷ rest) l =
    added-loop rest
    (cond (BTreeSet-is-new str-cmp t l.topics) (loop (BTreeSet-insert str-cmp t l.topics) (l.pushed ++ (t ∷ []))) l)

-- .sort() of strings
abbrev pub sort : List Text → List Text
sort texts = sort-by (λ a b. is_le (str-cmp a b)) texts

-- Event::Snapshot(snap): self.topics = snap.topics.iter().cloned().collect()
abbrev pub handle-snapshot : List Text → ScalableTopicsWatch → WatchDid
handle-snapshot topics self =
    let set = BTreeSet-from-iter str-cmp topics in
    record { after = record { watch-id = self.watch-id; topics = set }; result = Ok (Snapshot set) }

-- Event::Diff(diff)
abbrev pub handle-diff : (added removed : List Text) → ScalableTopicsWatch → WatchDid
handle-diff added removed self =
    let gone = removed-loop removed (loop self.topics []) in
    let new = added-loop added (loop gone.topics []) in
    record {
      after = record { watch-id = self.watch-id; topics = new.topics };
      result = Ok (Diff (sort new.pushed) (sort gone.pushed));
    }

-- if let Some(code) = upd.error { return Err(Broker { code, message }) } return Err(Empty { watch_id })
abbrev pub without-event : WireWatchUpdate → Option ℤ → TopicsWatchError
without-event upd (Some code) = Broker code upd.message
without-event upd None = Empty upd.watch_id

abbrev pub handle-event : WireWatchUpdate → WireEvent → ScalableTopicsWatch → WatchDid
handle-event upd none self = fails self (without-event upd upd.error)
handle-event upd (snapshot fs) self = handle-snapshot (parts_of 1 fs) self
handle-event upd (diff fs) self = handle-diff (parts_of 1 fs) (parts_of 2 fs) self

-- handle_update
abbrev pub handle-update : WireWatchUpdate → ScalableTopicsWatch → WatchDid
handle-update upd self =
    cond (not (upd.watch_id == self.watch-id)) (fails self (WatchMismatch upd.watch_id self.watch-id))
    (handle-event upd upd.event self)
