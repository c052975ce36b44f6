-- The Rust's two loops over a diff give our lists (`diff_is`): the set after the removals and the insertions, and what was pushed, sorted.
--
-- The loops are said over this port's sets first (`removed-said`, `added-said`). A loop is said from any set and vector
-- on: the set behind it, the members of the vector, and that none comes twice (`Gone`, `New`).
-- Assumes nothing.
use Prim.Native.Nat.{ℕ}
use mathlib.Core.Path.{◌≡◌, refl, sym, ap, ap₂, ◌∙◌}
use mathlib.Core.Bool.{Bool, true, false, cond, not, ◌&&◌, ◌||◌, and-true, and-false, or-false, false≢true, true≢false}
use mathlib.Core.List.{List, [], ◌∷◌, ◌++◌}
use Rattle.slice.specs.Same.{same_bytes}
use Rattle.slice.proofs.SameLaws.{same-eq}
use Rattle.keyed.proofs.KeyedLaws.{choose}
use Rattle.watch_topics.specs.Topics.{has, insert, insert_all, sorted, rising}
use Rattle.watch_topics.proofs.SetLaws.{has-insert, rising-insert, insert-there, rising-sorted, has-sorted, has-filter, rising-filter}
use Rattle.watch_topics.proofs.SetLaws.{extensional}
use Rattle.watch_window.specs.declared.Listing.TheVariants.{Added, Removed}
use Rattle.watch_window.specs.Lists.{kept, is_listed, added_of, removed_of}
use Rattle.rust_magnetar.specs.Result.{Ok}
use Rattle.rust_magnetar.specs.Text.{Text}
use Rattle.rust_magnetar.specs.Watch.{TopicsChange, Snapshot, Diff, WatchDid, Loop, loop, removed-loop, added-loop, sort, handle-snapshot, handle-diff}
use Rattle.rust_watch.proofs.SetAgrees.{contains-agrees, insert-agrees, extend-agrees, remove, remove-agrees}
use Rattle.rust_watch.proofs.SortLaws.{same-sym, Distinct, has-snoc, distinct_snoc, sort-is}

-- ---- the loops, over this port's sets

abbrev removed_loop : List Text → Loop → Loop
removed_loop [] l = l
removed_loop (t ∷ rest) l = removed_loop rest (cond (has t l.topics) (loop (remove t l.topics) (l.pushed ++ (t ∷ []))) l)

abbrev added_loop : List Text → Loop → Loop
added_loop [] l = l
added_loop (t ∷ rest) l = added_loop rest (cond (has t l.topics) l (loop (insert t l.topics) (l.pushed ++ (t ∷ []))))

removed-said : (rest : List Text) (l : Loop) → removed-loop rest l ≡ removed_loop rest l
removed-said [] l = refl
removed-said (t ∷ rest) l =
    removed-said rest _ ∙ ap (removed_loop rest) (rw (contains-agrees t l.topics, remove-agrees t l.topics))

turned : {A : Type 0} (b : Bool) (x y : A) → cond (not b) x y ≡ cond b y x
turned true x y = refl
turned false x y = refl

added-said : (rest : List Text) (l : Loop) → added-loop rest l ≡ added_loop rest l
added-said [] l = refl
added-said (t ∷ rest) l =
    added-said rest _
    ∙ ap (added_loop rest)
    (rw (contains-agrees t l.topics, insert-agrees t l.topics)
    (turned (has t l.topics) (loop (insert t l.topics) (l.pushed ++ (t ∷ []))) l))

-- ---- tests of one topic against two lists

took : (p r h s : Bool) → (s ≡ true → h ≡ true) → ((p || s) || (r && (h && not s))) ≡ (p || ((s || r) && h))
took true r h s e = refl
took false r h true e = sym (e refl)
took false true h false e = and-true h
took false false h false e = refl

left_out : (p r h s : Bool) → (s ≡ true → h ≡ false) → (p || (r && h)) ≡ (p || ((s || r) && h))
left_out true r h s e = refl
left_out false r h false e = refl
left_out false r true true e = absurd (true≢false (e refl))
left_out false r false true e = and-false r

put_in : (p r h s : Bool) → (s ≡ true → h ≡ false) → ((p || s) || (r && not (s || h))) ≡ (p || ((s || r) && not h))
put_in true r h s e = refl
put_in false r h false e = refl
put_in false r true true e = absurd (true≢false (e refl))
put_in false r false true e = refl

was-in : (p r h s : Bool) → (s ≡ true → h ≡ true) → (p || (r && not h)) ≡ (p || ((s || r) && not h))
was-in p r h s e = left_out p r (not h) s (λ f. ap not (e f))

keeps-both : (h s r : Bool) → ((h && not s) && not r) ≡ (h && not (s || r))
keeps-both false s r = refl
keeps-both true true r = refl
keeps-both true false r = refl

keeps-other : (h s r : Bool) → (s ≡ true → h ≡ false) → (h && not r) ≡ (h && not (s || r))
keeps-other false s r e = refl
keeps-other true true r e = absurd (true≢false (e refl))
keeps-other true false r e = refl

-- what is said of t is said of a topic equal to it
said : (l : List Text) (u t : Text) (b : Bool) → has t l ≡ b → same_bytes u t ≡ true → has u l ≡ b
said l u t b e s = ap (λ (x : Text). has x l) (same-eq u t s) ∙ e

-- ---- one list after the removals

has_kept : (u : Text) (topics rest : List Text) → has u (kept topics rest) ≡ (has u topics && not (has u rest))
unfolding kept
has_kept u topics rest = has-filter (λ t. not (has t rest)) u topics

rising-kept : (topics rest : List Text) → rising topics ≡ true → rising (kept topics rest) ≡ true
unfolding kept
rising-kept topics rest r = rising-filter (λ t. not (has t rest)) topics r

has-remove : (u t : Text) (topics : List Text) → has u (remove t topics) ≡ (has u topics && not (same_bytes u t))
has-remove u t topics =
    has-filter (λ v. not (same_bytes t v)) u topics ∙ ap (λ (b : Bool). has u topics && not b) (same-sym t u)

rising-remove : (t : Text) (topics : List Text) → rising topics ≡ true → rising (remove t topics) ≡ true
rising-remove t topics r = rising-filter (λ v. not (same_bytes t v)) topics r

kept-none : (topics : List Text) → rising topics ≡ true → topics ≡ kept topics []
unfolding has
kept-none topics r =
    extensional topics (kept topics []) r (rising-kept topics [] r) (λ u. sym (has_kept u topics [] ∙ and-true (has u topics)))

-- ---- the removals

-- none of the first is in the second
abbrev Apart : List Text → List Text → Type 0
Apart a b = (u : Text) → has u a ≡ true → has u b ≡ false

record Gone (rest topics pushed : List Text) (x : Loop) : Type 0 where
  topics-is : x.topics ≡ kept topics rest
  pushed-has : (u : Text) → has u x.pushed ≡ (has u pushed || (has u rest && has u topics))
  once : Distinct x.pushed

module _ (t : Text) (rest topics pushed : List Text) (r : rising topics ≡ true) (x : Loop) where
  gone-took : has t topics ≡ true → Gone rest (remove t topics) (pushed ++ (t ∷ [])) x → Gone (t ∷ rest) topics pushed x
  unfolding has
  gone-took h g =
      record {
        topics-is =
            g.topics-is
            ∙ extensional (kept (remove t topics) rest) (kept topics (t ∷ rest))
            (rising-kept (remove t topics) rest (rising-remove t topics r)) (rising-kept topics (t ∷ rest) r)
            (λ u. has_kept u (remove t topics) rest
            ∙ ap (λ (b : Bool). b && not (has u rest)) (has-remove u t topics)
            ∙ keeps-both (has u topics) (same_bytes u t) (has u rest)
            ∙ sym (has_kept u topics (t ∷ rest)));
        pushed-has = λ u.
            g.pushed-has u
            ∙ ap₂ (λ (a b : Bool). a || (has u rest && b)) (has-snoc u t pushed) (has-remove u t topics)
            ∙ took (has u pushed) (has u rest) (has u topics) (same_bytes u t) (said topics u t true h);
        once = g.once;
      }

  gone-left : has t topics ≡ false → Gone rest topics pushed x → Gone (t ∷ rest) topics pushed x
  unfolding has
  gone-left h g =
      record {
        topics-is =
            g.topics-is
            ∙ extensional (kept topics rest) (kept topics (t ∷ rest)) (rising-kept topics rest r) (rising-kept topics (t ∷ rest) r)
            (λ u. has_kept u topics rest
            ∙ keeps-other (has u topics) (same_bytes u t) (has u rest) (said topics u t false h)
            ∙ sym (has_kept u topics (t ∷ rest)));
        pushed-has = λ u.
            g.pushed-has u ∙ left_out (has u pushed) (has u rest) (has u topics) (same_bytes u t) (said topics u t false h);
        once = g.once;
      }

-- the topic is pushed, and is no more in the set
apart-took : (t : Text) (topics pushed : List Text) → Apart pushed topics → Apart (pushed ++ (t ∷ [])) (remove t topics)
apart-took t topics pushed a u e = has-remove u t topics ∙ go (has u pushed) refl (same_bytes u t) refl (sym (has-snoc u t pushed) ∙ e)
  where
    go : (p : Bool) → has u pushed ≡ p → (s : Bool) → same_bytes u t ≡ s → (has u pushed || same_bytes u t) ≡ true
        → (has u topics && not (same_bytes u t)) ≡ false
    go p f true g k = rw g (and-false (has u topics))
    go true f false g k = rw (a u f)
    go false f false g k = absurd (false≢true (sym (rw (f, g)) ∙ k))

not-pushed : (t : Text) (topics pushed : List Text) → Apart pushed topics → has t topics ≡ true → has t pushed ≡ false
not-pushed t topics pushed a h = go (has t pushed) refl
  where
    go : (b : Bool) → has t pushed ≡ b → has t pushed ≡ false
    go true e = absurd (false≢true (sym (a t e) ∙ h))
    go false e = e

removals : (rest topics pushed : List Text) → rising topics ≡ true → Distinct pushed → Apart pushed topics
    → Gone rest topics pushed (removed_loop rest (loop topics pushed))
unfolding has
removals [] topics pushed r d a =
    record { topics-is = kept-none topics r; pushed-has = λ u. sym (or-false (has u pushed)); once = d }
removals (t ∷ rest) topics pushed r d a =
    choose (λ x. Gone (t ∷ rest) topics pushed (removed_loop rest x)) (has t topics)
    (λ h. gone-took t rest topics pushed r _ h
    (removals rest (remove t topics) (pushed ++ (t ∷ [])) (rising-remove t topics r)
    (distinct_snoc pushed t d (not-pushed t topics pushed a h)) (apart-took t topics pushed a)))
    (λ h. gone-left t rest topics pushed r _ h (removals rest topics pushed r d a))

-- ---- the insertions

-- each of the first is in the second
abbrev Inside : List Text → List Text → Type 0
Inside a b = (u : Text) → has u a ≡ true → has u b ≡ true

record New (rest topics pushed : List Text) (x : Loop) : Type 0 where
  topics-is : x.topics ≡ insert_all rest topics
  pushed-has : (u : Text) → has u x.pushed ≡ (has u pushed || (has u rest && not (has u topics)))
  once : Distinct x.pushed

module _ (t : Text) (rest topics pushed : List Text) (r : rising topics ≡ true) (x : Loop) where
  new-put : has t topics ≡ false → New rest (insert t topics) (pushed ++ (t ∷ [])) x → New (t ∷ rest) topics pushed x
  unfolding has insert_all
  new-put h g =
      record {
        topics-is = g.topics-is;
        pushed-has = λ u.
            g.pushed-has u
            ∙ ap₂ (λ (a b : Bool). a || (has u rest && not b)) (has-snoc u t pushed) (has-insert u t topics)
            ∙ put_in (has u pushed) (has u rest) (has u topics) (same_bytes u t) (said topics u t false h);
        once = g.once;
      }

  new-there : has t topics ≡ true → New rest topics pushed x → New (t ∷ rest) topics pushed x
  unfolding has insert_all
  new-there h g =
      record {
        topics-is = g.topics-is ∙ ap (insert_all rest) (sym (insert-there t topics r h));
        pushed-has = λ u.
            g.pushed-has u ∙ was-in (has u pushed) (has u rest) (has u topics) (same_bytes u t) (said topics u t true h);
        once = g.once;
      }

inside-put : (t : Text) (topics pushed : List Text) → Inside pushed topics → Inside (pushed ++ (t ∷ [])) (insert t topics)
inside-put t topics pushed a u e = has-insert u t topics ∙ go (has u pushed) refl (same_bytes u t) refl (sym (has-snoc u t pushed) ∙ e)
  where
    go : (p : Bool) → has u pushed ≡ p → (s : Bool) → same_bytes u t ≡ s → (has u pushed || same_bytes u t) ≡ true
        → (same_bytes u t || has u topics) ≡ true
    go p f true g k = rw g
    go true f false g k = rw g (a u f)
    go false f false g k = absurd (false≢true (sym (rw (f, g)) ∙ k))

not-inside : (t : Text) (topics pushed : List Text) → Inside pushed topics → has t topics ≡ false → has t pushed ≡ false
not-inside t topics pushed a h = go (has t pushed) refl
  where
    go : (b : Bool) → has t pushed ≡ b → has t pushed ≡ false
    go true e = absurd (false≢true (sym h ∙ a t e))
    go false e = e

insertions : (rest topics pushed : List Text) → rising topics ≡ true → Distinct pushed → Inside pushed topics
    → New rest topics pushed (added_loop rest (loop topics pushed))
unfolding has insert_all
insertions [] topics pushed r d a = record { topics-is = refl; pushed-has = λ u. sym (or-false (has u pushed)); once = d }
insertions (t ∷ rest) topics pushed r d a =
    choose (λ x. New (t ∷ rest) topics pushed (added_loop rest x)) (has t topics)
    (λ h. new-there t rest topics pushed r _ h (insertions rest topics pushed r d a))
    (λ h. new-put t rest topics pushed r _ h
    (insertions rest (insert t topics) (pushed ++ (t ∷ [])) (rising-insert t topics r)
    (distinct_snoc pushed t d (not-inside t topics pushed a h)) (inside-put t topics pushed a)))

-- ---- the diff

-- the Rust's watch with that set, and the change
abbrev pub did : ℕ → List Text → TopicsChange → WatchDid
did id topics change = record { after = record { watch-id = id; topics = topics }; result = Ok change }

module _ (id : ℕ) (old added removed : List Text) (r : rising old ≡ true) where
  gone : Gone removed old [] (removed_loop removed (loop old []))
  unfolding has
  gone = removals removed old [] r tt (λ u e. absurd (false≢true e))

  new : New added (kept old removed) [] (added_loop added (loop (kept old removed) []))
  unfolding has
  new = insertions added (kept old removed) [] (rising-kept old removed r) tt (λ u e. absurd (false≢true e))

  removed-is : sort (removed_loop removed (loop old [])).pushed ≡ removed_of old removed
  unfolding has removed_of is_listed
  removed-is =
      let p = (removed_loop removed (loop old [])).pushed in
      sort-is p gone.once
      ∙ extensional (sorted p) (removed_of old removed) (rising-sorted p)
      (rising-filter (is_listed Removed old removed) (sorted removed) (rising-sorted removed))
      (λ u. has-sorted u p
      ∙ gone.pushed-has u
      ∙ ap (λ (b : Bool). b && has u old) (sym (has-sorted u removed))
      ∙ sym (has-filter (is_listed Removed old removed) u (sorted removed)))

  added_is : sort (added_loop added (loop (kept old removed) [])).pushed ≡ added_of old removed added
  unfolding has added_of is_listed
  added_is =
      let p = (added_loop added (loop (kept old removed) [])).pushed in
      sort-is p new.once
      ∙ extensional (sorted p) (added_of old removed added) (rising-sorted p)
      (rising-filter (is_listed Added old removed) (sorted added) (rising-sorted added))
      (λ u. has-sorted u p
      ∙ new.pushed-has u
      ∙ ap (λ (b : Bool). b && not (has u (kept old removed))) (sym (has-sorted u added))
      ∙ sym (has-filter (is_listed Added old removed) u (sorted added)))

  -- the removals, and the change that they and the insertions make
  abbrev first : Loop
  first = removed_loop removed (loop old [])

  abbrev changed : Loop → Loop → WatchDid
  changed gone new = did id new.topics (Diff (sort new.pushed) (sort gone.pushed))

  pub diff_is : handle-diff added removed (record { watch-id = id; topics = old })
      ≡ did id (insert_all added (kept old removed)) (Diff (added_of old removed added) (removed_of old removed))
  diff_is =
      ap (λ (l : Loop). changed l (added-loop added (loop l.topics []))) (removed-said removed (loop old []))
      ∙ ap (changed first) (added-said added (loop first.topics []))
      ∙ ap (λ (topics : List Text). changed first (added_loop added (loop topics []))) gone.topics-is
      ∙ λ i. did id (new.topics-is i) (Diff (added_is i) (removed-is i))

-- ---- the snapshot

pub snapshot-is : (id : ℕ) (old topics : List Text)
    → handle-snapshot topics (record { watch-id = id; topics = old }) ≡ did id (sorted topics) (Snapshot (sorted topics))
snapshot-is id old topics = ap (λ (set : List Text). did id set (Snapshot set)) (extend-agrees topics [])
