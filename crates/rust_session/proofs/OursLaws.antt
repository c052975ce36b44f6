-- Which refusals are ours: those of the reader are (`fault-ours`); those of the floor and of a replay are not, and none of these is the
-- broker's (`Theirs`: `theirs-floor`, `theirs-stale`); of those of an assignment's content 34 is (`OursOrTheirs`: `either-content`).
-- Assumes nothing.
use Rattle.std.specs.Prelude.{Option, Some, None, ⊤, Result, Ok, Err}
use Prim.Native.Nat.{ℕ, ◌+◌}
use mathlib.Core.Path.{◌≡◌, refl}
use mathlib.Core.Bool.{true, false}
use mathlib.Core.List.{List, [], ◌∷◌}
use mathlib.Core.Logic.{◌⊎◌, inl, inr}
use lib.Dec.{eqb, ltb}
use Rattle.topic_types.specs.declared.SegmentId.{SegmentId}
use Rattle.topic_types.specs.KeyRanges.{key_range, new_key_range}
use Rattle.refusal.specs.declared.Refusal.{Refusal}
use Rattle.refusal.specs.Refusals.{number_of}
use Rattle.slice.specs.Same.{same_bytes}
use Rattle.ranges.specs.Overlap.{any_overlap}
use Rattle.name_parents.specs.Parents.{is_parent}
use Rattle.wire_schema.specs.declared.MessageKind.{MessageKind}
use Rattle.wire_schema.specs.FirstFault.{first_fault}
use Rattle.wire_readers.specs.declared.IntRange.{IntRange}
use Rattle.wire_readers.specs.Messages.{WireSegment}
use Rattle.keyed.specs.Keyed.{or_else, self, holds}
use Rattle.keyed.proofs.KeyedLaws.{choose}
use Rattle.packed.specs.Assignment.{ConsumerAssignment}
use Rattle.intake_content.specs.Content.{wire_id, range_fault_by, range_fault, bucket_ok, bucket_fault, buckets_of, overlap_fault, expected_topic}
use Rattle.intake_content.specs.Content.{first_outside, outside_fault_by, outside_fault, name_fault, segment_fault, duplicate_fault, first_refusal}
use Rattle.session.specs.Session.{floor_fault}
use Rattle.session.specs.Response.{stale_fault}
use Rattle.rust_names.proofs.FaultLaws.{IfRefused, fault-if}
use Rattle.rust_session.specs.Demand.{ours}
use Rattle.topic_types.specs.declared.KeyRange.{KeyRange}
use Rattle.topic_types.specs.declared.KeyRangeError.{KeyRangeError}

-- a refusal for a reason of this port's own
abbrev pub Ours : Refusal → Type 0
Ours x = ours x ≡ true

-- ---- 3 to 7

abbrev pub OursIf : Result ⊤ Refusal → Type 0
OursIf = IfRefused Ours

pub fault-ours : (k : MessageKind) (l : List ℕ) → OursIf (first_fault k l)
fault-ours = fault-if Ours refl refl refl refl

-- ---- 9 to 14, 26, 27, 34

abbrev pub Theirs : Option Refusal → Type 0
Theirs None = Unit {0}
Theirs (Some x) = (ours x ≡ false) × (eqb (number_of x) 16 ≡ false)

-- ours, or theirs
abbrev pub OursOrTheirs : Option Refusal → Type 0
OursOrTheirs None = Unit {0}
OursOrTheirs (Some x) = Ours x ⊎ Theirs (Some x)

either-theirs : (o : Option Refusal) → Theirs o → OursOrTheirs o
either-theirs None t = tt
either-theirs (Some x) t = inr t

either-or : (o p : Option Refusal) → OursOrTheirs o → OursOrTheirs p → OursOrTheirs (or_else o p)
either-or None p a b = b
either-or (Some x) p a b = a

theirs-range : (id : SegmentId) (r : Result KeyRange KeyRangeError) → Theirs (range_fault_by id r)
theirs-range id (Ok r) = tt
theirs-range id (Err e) = (refl, refl)

theirs-buckets : (id : SegmentId) (index : ℕ) (rs : List IntRange) → Theirs (bucket_fault id index rs)
unfolding bucket_fault
theirs-buckets id index [] = tt
theirs-buckets id index (r ∷ rs) = choose Theirs (bucket_ok r) (λ t. theirs-buckets id (index + 1) rs) (λ t. (refl, refl))

theirs-name : (parent : List ℕ) (w : WireSegment) → Theirs (name_fault parent w)
unfolding name_fault
theirs-name parent w =
    choose Theirs (is_parent parent)
    (λ t. choose Theirs (same_bytes w.segment_topic (expected_topic parent w)) (λ u. tt) (λ u. (refl, refl))) (λ t. (refl, refl))

either-outside : (id : SegmentId) (o : Option ℕ) → OursOrTheirs (outside_fault_by id o)
either-outside id None = tt
either-outside id (Some i) = inl refl

either-segment : (parent : List ℕ) (w : WireSegment) → OursOrTheirs (segment_fault parent w)
unfolding segment_fault
either-segment parent w =
    either-or (range_fault w) _ (either-theirs (range_fault w) (theirs-range (wire_id w) (new_key_range w.hash_start w.hash_end)))
    (either-or (bucket_fault (wire_id w) 0 w.bucket_ranges) _
    (either-theirs (bucket_fault (wire_id w) 0 w.bucket_ranges) (theirs-buckets (wire_id w) 0 w.bucket_ranges))
    (either-or (overlap_fault w) _
    (either-theirs (overlap_fault w) (choose Theirs (any_overlap (buckets_of w)) (λ t. (refl, refl)) (λ t. tt)))
    (either-or (outside_fault w) _ (either-outside (wire_id w) (first_outside (key_range w.hash_start w.hash_end) 0 (buckets_of w)))
    (either-theirs (name_fault parent w) (theirs-name parent w)))))

pub either-content : (parent seen : List ℕ) (ws : List WireSegment) → OursOrTheirs (first_refusal parent seen ws)
unfolding first_refusal
either-content parent seen [] = tt
either-content parent seen (w ∷ ws) =
    either-or (segment_fault parent w) _ (either-segment parent w)
    (either-or (duplicate_fault seen w) _
    (either-theirs (duplicate_fault seen w) (choose Theirs (holds self w.segment_id seen) (λ t. (refl, refl)) (λ t. tt)))
    (either-content parent (w.segment_id ∷ seen) ws))

pub theirs-floor : (epoch : ℕ) (f : Option ℕ) → Theirs (floor_fault epoch f)
theirs-floor epoch None = tt
theirs-floor epoch (Some f) = choose Theirs (ltb epoch f) (λ t. (refl, refl)) (λ t. tt)

pub theirs-stale : (b : ConsumerAssignment) (q : List ConsumerAssignment) → Theirs (stale_fault b q)
unfolding stale_fault
theirs-stale b [] = tt
theirs-stale b (a ∷ q) = choose Theirs (ltb a.layout_epoch b.layout_epoch) (λ t. (refl, refl)) (λ t. theirs-stale a q)
