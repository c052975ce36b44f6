-- Laws of the event that the walk over a watch update keeps.
--
-- In order: the fields of a singular message, with one field more (`merged-skip`, `merged-more`); an event by its place (`base_of`, `so_far`); one
-- more field (`event_step`); a walk's event (`EventKept`), and its cases from `event-start` on. The event is gone over as the member of a oneof.
-- Assumes nothing.
use Rattle.std.specs.Prelude.{Option, Some, None}
use Prim.Native.Nat.{ℕ, ◌+◌, ◌≤◌}
use native.Mathlib.Omega.{arith}
use mathlib.Core.Path.{◌≡◌, refl, sym, ap, ◌∙◌}
use mathlib.Core.List.{List, [], ◌∷◌, ◌++◌, foldl, append-nil, append_assoc}
use lib.ListN.{length, take, drop}
use lib.Seq.{append_snoc}
use borrow.Author.Tests.{eq-eqb, ne_eqb}
use Rattle.wire.specs.Fields.{number, bytes, fixed, cut, Field, bad_key, field, fields_of}
use Rattle.wire_values.specs.Values.{parts_of, join_fields, merged_fields, Member, absent, holds, member_behind, member_by, member_after, member_of}
use Rattle.wire_values.proofs.ValueLaws.{parts-append}
use Rattle.wire_values.proofs.FrontLaws.{NumberAt, PartAt, FixedAt, BrokenRow, bad-key, cut_short, BrokenAt, fields-end}
use Rattle.wire_values.proofs.WalkLaws.{Kept, kept-done, kept_next}
use Rattle.wire_readers.specs.declared.Event.{Event}
use Rattle.wire_readers.specs.declared.Event.TheVariants as event
use Rattle.wire_readers.specs.Messages.{event_fields, event_by, read_event}
use Rattle.wire_readers.specs.Places.{EventIs, snapshot_from, diff_from}

-- ---- one field more

join-snoc : (ps : List (List ℕ)) (p : List ℕ) → join_fields (ps ++ (p ∷ [])) ≡ join_fields ps ++ fields_of p
join-snoc [] p = append-nil (fields_of p)
join-snoc (q ∷ ps) p = ap (λ (fs : List Field). fields_of q ++ fs) (join-snoc ps p) ∙ sym (append_assoc (fields_of q) (join_fields ps) (fields_of p))

module _ (k : ℕ) (fs gs : List Field) where
  -- that holds no part of field k
  merged-skip : parts_of k gs ≡ [] → merged_fields k (fs ++ gs) ≡ merged_fields k fs
  merged-skip e =
      ap join_fields (parts-append k fs gs ∙ ap (λ (ps : List (List ℕ)). parts_of k fs ++ ps) e ∙ append-nil (parts_of k fs))

  -- that holds one
  merged-more : (p : List ℕ) → parts_of k gs ≡ p ∷ [] → merged_fields k (fs ++ gs) ≡ merged_fields k fs ++ fields_of p
  merged-more p e =
      ap join_fields (parts-append k fs gs ∙ ap (λ (ps : List (List ℕ)). parts_of k fs ++ ps) e) ∙ join-snoc (parts_of k fs) p

-- ---- an event by its place

abbrev pub base_of : Option Event → ℕ
base_of None = 0
base_of (Some (event.Snapshot base)) = base
base_of (Some (event.Diff base)) = base

-- the event of the fields from its place on
abbrev pub so_far : Option Event → List Field → Member
so_far None fs = absent
so_far (Some (event.Snapshot base)) fs = holds 2 (merged_fields 2 fs)
so_far (Some (event.Diff base)) fs = holds 3 (merged_fields 3 fs)

event-is : (m : List ℕ) (v : Option Event) (e : Member) → base_of v ≤ length m → so_far v (fields_of (drop (base_of v) m)) ≡ e
    → EventIs m (event_by e) v
event-is m None e i g = ap event_by (sym g)
event-is m (Some (event.Snapshot base)) e i g = (i, ap event_by (sym g))
event-is m (Some (event.Diff base)) e i g = (i, ap event_by (sym g))

-- fields that hold neither a snapshot nor a diff
far-skip : (v : Option Event) (fs gs : List Field) → parts_of 2 gs ≡ [] → parts_of 3 gs ≡ [] → so_far v (fs ++ gs) ≡ so_far v fs
far-skip None fs gs a b = refl
far-skip (Some (event.Snapshot base)) fs gs a b = ap (holds 2) (merged-skip 2 fs gs a)
far-skip (Some (event.Diff base)) fs gs a b = ap (holds 3) (merged-skip 3 fs gs b)

-- ---- one more field

abbrev event_step : Member → Field → Member
event_step e bad_key = e
event_step e (field f w (number v)) = e
event_step e (field f w (bytes p)) = member_by event_fields e f p
event_step e (field f w fixed) = e
event_step e (field f w cut) = e

event-fold : (e : Member) (fs : List Field) → member_after event_fields e fs ≡ foldl event_step e fs
event-fold e [] = refl
event-fold e (bad_key ∷ fs) = event-fold e fs
event-fold e (field f w (number v) ∷ fs) = event-fold e fs
event-fold e (field f w (bytes p) ∷ fs) = event-fold (member_by event_fields e f p) fs
event-fold e (field f w fixed ∷ fs) = event-fold e fs
event-fold e (field f w cut ∷ fs) = event-fold e fs

-- a snapshot, and a diff
snapshot-by : (e : Member) (f : ℕ) (p : List ℕ) → f ≡ 2 → member_by event_fields e f p ≡ member_behind e 2 (fields_of p)
snapshot-by e f p g = rw g

diff-by : (e : Member) (f : ℕ) (p : List ℕ) → f ≡ 3 → member_by event_fields e f p ≡ member_behind e 3 (fields_of p)
diff-by e f p g = rw g

-- ---- a walk's event

pub record EventKept (m : List ℕ) (at : ℕ) (v : Option Event) : Type 0 where
  pub inside : base_of v ≤ length m
  pub within : at ≤ length m
  pub seen : List Field
  pub split : fields_of (drop (base_of v) m) ≡ seen ++ fields_of (drop at m)
  pub kept : Kept event_step (member_of event_fields (fields_of m)) (so_far v seen) (fields_of (drop at m))

pub event-start : (m : List ℕ) → EventKept m 0 None
event-start m =
    record { inside = omega arith; within = omega arith; seen = []; split = refl; kept = record { is = event-fold absent (fields_of m) } }

module _ {m : List ℕ} {at : ℕ} {v : Option Event} (k : EventKept m at v) where
  -- the same event, with one more field
  same : {x : Field} {to : ℕ} → to ≤ length m → fields_of (drop at m) ≡ x ∷ fields_of (drop to m)
      → so_far v (k.seen ++ (x ∷ [])) ≡ event_step (so_far v k.seen) x → EventKept m to v
  same {x} {to} h e g =
      record {
        inside = k.inside;
        within = h;
        seen = k.seen ++ (x ∷ []);
        split = k.split ∙ ap (λ (fs : List Field). k.seen ++ fs) e ∙ sym (append_snoc k.seen x (fields_of (drop to m)));
        kept = kept_next e g k.kept;
      }

  -- another event, which starts with this field
  anew : {x : Field} {to : ℕ} (y : Option Event) → base_of y ≡ at → to ≤ length m → fields_of (drop at m) ≡ x ∷ fields_of (drop to m)
      → so_far y (x ∷ []) ≡ event_step (so_far v k.seen) x → EventKept m to y
  anew {x} {to} y b h e g =
      record {
        inside = rw b k.within;
        within = h;
        seen = x ∷ [];
        split = rw b e;
        kept = kept_next e g k.kept;
      }

  pub event-number : {f n size : ℕ} → NumberAt m at f n size → EventKept m (at + size) v
  event-number q = same q.inside q.fields (far-skip v k.seen _ refl refl)

  pub event-fixed : {size : ℕ} → FixedAt m at size → EventKept m (at + size) v
  event-fixed q = same q.inside q.fields (far-skip v k.seen _ refl refl)

-- ---- behind a part

module _ {m : List ℕ} {at f start len : ℕ} (q : PartAt m at f start len) where
  abbrev part : List ℕ
  part = take len (drop (at + start) m)

  -- the field by itself, and behind others, as member f
  alone : {n : ℕ} → f ≡ n → holds n (merged_fields n (field f q.type (bytes part) ∷ [])) ≡ holds n (fields_of part)
  alone {n} e = rw (eq-eqb f n e) (ap (holds n) (append-nil (fields_of part)))

  more : {n : ℕ} (seen : List Field) → f ≡ n
      → holds n (merged_fields n (seen ++ (field f q.type (bytes part) ∷ []))) ≡ holds n (merged_fields n seen ++ fields_of part)
  more {n} seen e = ap (holds n) (merged-more n seen _ part (rw (eq-eqb f n e)))

  pub event-other : {v y : Option Event} → EventKept m at v → (f ≡ 2 → ⊥) → (f ≡ 3 → ⊥) → y ≡ v → EventKept m (at + start + len) y
  event-other {v} k a b g =
      rw g
      (same k q.inside q.fields
      (far-skip v k.seen _ (rw (ne_eqb f 2 a)) (rw (ne_eqb f 3 b)) ∙ rw (ne_eqb f 2 a, ne_eqb f 3 b)))

  pub event-snapshot : (v y : Option Event) → EventKept m at v → f ≡ 2 → y ≡ snapshot_from v at → EventKept m (at + start + len) y
  event-snapshot v y k e g = rw g (go v k)
    where
      go : (v : Option Event) → EventKept m at v → EventKept m (at + start + len) (snapshot_from v at)
      go None k = anew k (Some (event.Snapshot at)) refl q.inside q.fields (alone e ∙ sym (snapshot-by (so_far None k.seen) f part e))
      go (Some (event.Snapshot base)) k = same k q.inside q.fields (more k.seen e ∙ sym (snapshot-by (so_far (Some (event.Snapshot base)) k.seen) f part e))
      go (Some (event.Diff base)) k = anew k (Some (event.Snapshot at)) refl q.inside q.fields (alone e ∙ sym (snapshot-by (so_far (Some (event.Diff base)) k.seen) f part e))

  pub event-diff : (v y : Option Event) → EventKept m at v → f ≡ 3 → y ≡ diff_from v at → EventKept m (at + start + len) y
  event-diff v y k e g = rw g (go v k)
    where
      go : (v : Option Event) → EventKept m at v → EventKept m (at + start + len) (diff_from v at)
      go None k = anew k (Some (event.Diff at)) refl q.inside q.fields (alone e ∙ sym (diff-by (so_far None k.seen) f part e))
      go (Some (event.Snapshot base)) k = anew k (Some (event.Diff at)) refl q.inside q.fields (alone e ∙ sym (diff-by (so_far (Some (event.Snapshot base)) k.seen) f part e))
      go (Some (event.Diff base)) k = same k q.inside q.fields (more k.seen e ∙ sym (diff-by (so_far (Some (event.Diff base)) k.seen) f part e))

-- ---- the end

broken-parts : (n : ℕ) {fs : List Field} → BrokenRow fs → parts_of n fs ≡ []
broken-parts n bad-key = refl
broken-parts n (cut_short f w) = refl

broken-done : {total x : Member} {fs : List Field} → BrokenRow fs → Kept event_step total x fs → x ≡ total
broken-done bad-key k = sym k.is
broken-done (cut_short f w) k = sym k.is

module _ {m : List ℕ} {at : ℕ} {v : Option Event} (k : EventKept m at v) where
  pub event-broken : BrokenAt m at → EventIs m (read_event (fields_of m)) v
  unfolding read_event
  event-broken q =
      event-is m v (member_of event_fields (fields_of m)) k.inside
      (ap (so_far v) k.split ∙ far-skip v k.seen _ (broken-parts 2 q.fields) (broken-parts 3 q.fields) ∙ broken-done q.fields k.kept)

  pub event-done : length m ≤ at → EventIs m (read_event (fields_of m)) v
  unfolding read_event
  event-done h =
      let e = fields-end m at h in
      event-is m v (member_of event_fields (fields_of m)) k.inside
      (ap (so_far v) (k.split ∙ ap (λ (fs : List Field). k.seen ++ fs) e ∙ append-nil k.seen) ∙ kept-done e k.kept)
