-- The claim of specs/Scalars (`read-by-schema`): from the innermost message out.
-- Assumes nothing.
use Rattle.std.specs.Prelude.{Option, Some, None}
use Prim.Native.Nat.{ℕ}
use native.Mathlib.Omega.{arith}
use mathlib.Core.Path.{◌≡◌, refl, sym, ap₂}
use mathlib.Core.Bool.{Bool, true, false, cond, true≢false}
use mathlib.Core.List.{List, [], ◌∷◌, ◌++◌, map}
use lib.Dec.{eqb}
use borrow.Author.Tests.{eqb-true}
use Rattle.wire.specs.Fields.{number, bytes, fixed, cut, Field, bad_key, field, fields_of}
use Rattle.wire_values.specs.Values.{numbers_of, parts_of, last_of, join_fields, merged_fields, present}
use Rattle.wire_values.specs.Values.{Member, member_behind, is_member, member_by, member_after, member_of}
use Rattle.wire_values.specs.Integers.{int32_of}
use Rattle.wire_readers.specs.Messages.{int_range_of, read_segment, read_assignment, code_of, update_of, response_of}
use Rattle.wire_readers.specs.Messages.{snapshot, diff, event_fields, event_by, read_event, watch_update_of}
use Rattle.wire_schema.specs.declared.MessageKind.TheVariants.{CommandScalableTopicAssignmentUpdate, CommandScalableTopicSubscribeResponse}
use Rattle.wire_schema.specs.declared.MessageKind.TheVariants.{ScalableConsumerAssignment, ScalableAssignedSegment, IntRange}
use Rattle.wire_schema.specs.declared.MessageKind.TheVariants.{CommandWatchScalableTopicsUpdate, ScalableTopicsSnapshot, ScalableTopicsDiff}
use Rattle.wire_schema.specs.Scalars.{Value, absent, signed, row, messages, ◌and◌, each, last_value, member_value, merged_value, message_within, message_by}
use Rattle.wire_schema.specs.Scalars.{range_value, segment_value, assignment_value, error_value, update_value, response_value}
use Rattle.wire_schema.specs.Scalars.{snapshot_value, diff_value, watch_update_value, ReadBySchema}

module _ {A B : Type 0} (f : B → Value) (g : A → B) (h : A → Value) (e : (x : A) → f (g x) ≡ h x) where
  each_map : (l : List A) → each f (map g l) ≡ each h l
  each_map [] = refl
  each_map (x ∷ l) = ap₂ ◌and◌ (e x) (each_map l)

range-by : (p : List ℕ) → range_value (int_range_of p) ≡ message_within 1 IntRange (fields_of p)
unfolding int_range_of
range-by p = refl

segment-by : (p : List ℕ) → segment_value (read_segment p) ≡ message_within 2 ScalableAssignedSegment (fields_of p)
unfolding read_segment
segment-by p = rw (each_map range_value int_range_of (λ q. message_within 1 IntRange (fields_of q)) range-by (parts_of 5 (fields_of p)))

assignment-by : (fs : List Field) → assignment_value (read_assignment fs) ≡ message_within 3 ScalableConsumerAssignment fs
unfolding read_assignment
assignment-by fs = rw (each_map segment_value read_segment (λ q. message_within 2 ScalableAssignedSegment (fields_of q)) segment-by (parts_of 2 fs))

-- an error code
error-by : (x : Option ℕ) → error_value (code_of x) ≡ last_value (λ v. signed (int32_of v)) x
error-by (Some v) = refl
error-by None = refl

update-by : (m : List ℕ) → update_value (update_of m) ≡ message_by CommandScalableTopicAssignmentUpdate (fields_of m)
unfolding update_of
update-by m = rw (assignment-by (merged_fields 2 (fields_of m)))

-- ---- the event

module _ (ks : List ℕ) where
  -- a message has no member but these
  abbrev Known : Member → Type 0
  Known Member.absent = Unit {0}
  Known (Member.holds n fs) = is_member n ks ≡ true

  known_behind : (m : Member) (n : ℕ) (fs : List Field) → is_member n ks ≡ true → Known (member_behind m n fs)
  known_behind Member.absent n fs e = e
  known_behind (Member.holds k before) n fs e = go (eqb k n)
    where
      go : (b : Bool) → Known (cond b (Member.holds n (before ++ fs)) (Member.holds n fs))
      go true = e
      go false = e

  known_by : (m : Member) (f : ℕ) (p : List ℕ) → Known m → Known (member_by ks m f p)
  known_by m f p k = go (is_member f ks) refl
    where
      go : (b : Bool) → is_member f ks ≡ b → Known (cond b (member_behind m f (fields_of p)) m)
      go true e = known_behind m f (fields_of p) e
      go false e = k

  known-after : (m : Member) (fs : List Field) → Known m → Known (member_after ks m fs)
  known-after m [] k = k
  known-after m (bad_key ∷ fs) k = known-after m fs k
  known-after m (field f w (number v) ∷ fs) k = known-after m fs k
  known-after m (field f w (bytes p) ∷ fs) k = known-after (member_by ks m f p) fs (known_by m f p k)
  known-after m (field f w fixed ∷ fs) k = known-after m fs k
  known-after m (field f w cut ∷ fs) k = known-after m fs k

snapshot-by : (m : Member) → snapshot_value (event_by m) ≡ member_value 2 (messages ScalableTopicsSnapshot) m
snapshot-by Member.absent = refl
snapshot-by (Member.holds n fs) = go (eqb n 2)
  where
    go : (b : Bool) → snapshot_value (cond b (snapshot fs) (diff fs)) ≡ cond b (row ScalableTopicsSnapshot fs) absent
    go true = refl
    go false = refl

diff-by : (m : Member) → Known event_fields m → diff_value (event_by m) ≡ member_value 3 (messages ScalableTopicsDiff) m
diff-by Member.absent k = refl
diff-by (Member.holds n fs) k = go (eqb n 2) refl (eqb n 3) refl k
  where
    go : (b : Bool) → eqb n 2 ≡ b → (c : Bool) → eqb n 3 ≡ c → cond b true (cond c true false) ≡ true
        → diff_value (cond b (snapshot fs) (diff fs)) ≡ cond c (row ScalableTopicsDiff fs) absent
    go true e true f h = let p = eqb-true n 2 e in let q = eqb-true n 3 f in absurd (omega arith)
    go true e false f h = refl
    go false e true f h = refl
    go false e false f h = absurd (true≢false (sym h))

watch-by : (m : List ℕ) → watch_update_value (watch_update_of m) ≡ message_by CommandWatchScalableTopicsUpdate (fields_of m)
unfolding watch_update_of read_event
watch-by m =
    let e = member_of event_fields (fields_of m) in
    rw (error-by (last_of (numbers_of 4 (fields_of m))), snapshot-by e, diff-by e (known-after event_fields Member.absent (fields_of m) tt))

-- an assignment that may be absent
optional-by : (ps : List (List ℕ))
    → cond (present ps) (assignment_value (read_assignment (join_fields ps))) absent ≡ merged_value (message_within 3) ScalableConsumerAssignment ps
optional-by [] = refl
optional-by (p ∷ ps) = assignment-by (join_fields (p ∷ ps))

response-by : (m : List ℕ) → response_value (response_of m) ≡ message_by CommandScalableTopicSubscribeResponse (fields_of m)
unfolding response_of
response-by m = rw (error-by (last_of (numbers_of 2 (fields_of m))), optional-by (parts_of 4 (fields_of m)))

pub read-by-schema : ReadBySchema
read-by-schema = record { updates = update-by; responses = response-by; watch-updates = watch-by }
