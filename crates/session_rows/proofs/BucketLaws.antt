-- Row H's buckets: a segment with n buckets of one value each is taken where it fits a slot, else refused for its size, without comparing
-- them two by two, because they rise. The rest of the run is computed.
-- Assumes nothing.
use Rattle.std.specs.Prelude.{None, Ok}
use Prim.Native.Nat.{ℕ, zero, suc, ◌+◌, ◌≤◌, ◌<◌}
use native.Mathlib.Omega.{arith}
use mathlib.Core.Path.{◌≡◌, refl, sym, ap, ◌∙◌, subst}
use mathlib.Core.Bool.{true}
use mathlib.Core.List.{List, [], ◌∷◌, map}
use lib.IntN.{pos}
use borrow.Author.Tests.{le-leb, le-ltb}
use Rattle.topic_types.specs.declared.SegmentId.{SegmentId}
use Rattle.topic_types.specs.declared.KeyRange.{KeyRange}
use Rattle.topic_types.specs.KeyRanges.{key_range, max_hash, new_key_range}
use Rattle.refusal.specs.declared.Refusal.TheVariants.{AssignmentTooLong}
use Rattle.slice.specs.Same.{same_bytes, starts_with}
use Rattle.slice.proofs.SameLaws.{same_refl}
use Rattle.ranges.specs.Overlap.{rising_from, any_overlap}
use Rattle.ranges.proofs.OverlapLaws.{rising-apart}
use Rattle.name_parents.specs.Classes.{class_of}
use Rattle.name_parents.specs.Parents.{before_slash, behind_slash, clean, has_three_parts, front_clean, is_path, is_parent}
use Rattle.utf8.specs.Table.{table, fits, sequence_in, sequence_of, text_after, is_utf8}
use Rattle.name_topic.specs.Names.{hex4, decimal_within, decimal, descriptor, segment_topic}
use Rattle.wire.specs.Varints.{varint_of}
use Rattle.wire.specs.Field.{key_read, number_body, part_of}
use Rattle.wire.specs.Fields.{fields_of}
use Rattle.wire_writer.specs.Encode.{varint_bytes, number_field, part_head, part_field}
use Rattle.wire_schema.specs.declared.MessageKind.TheVariants.{CommandScalableTopicAssignmentUpdate}
use Rattle.wire_schema.specs.Schema.{value_for}
use Rattle.wire_schema.specs.Required.{is_complete}
use Rattle.wire_schema.specs.FirstFault.{first_fault}
use Rattle.wire_values.specs.Integers.{int32_of}
use Rattle.wire_readers.specs.declared.IntRange.{IntRange}
use Rattle.wire_readers.specs.Messages as readers
use Rattle.wire_readers.specs.Messages.{int_range_of, WireSegment, WireAssignment, WireUpdate, update_of}
use Rattle.writer_message.specs.Message.{range_message, bucket_fields, segment_message, segment_fields, assignment_message, update_message}
use Rattle.slice_int.specs.Be.{be_from, be, be_at, bytes_of}
use Rattle.slice_int.specs.Put.{put}
use Rattle.packed_queue.specs.Entries.{decode_entries, start_entries}
use Rattle.packed_delta.specs.Delta.{encode_ids, encode_delta, size_delta}
use Rattle.packed_delta.specs.Change.{has_same, without, delta_between}
use Rattle.packed.specs.Equal.{same_ranges, same_segment, same_segments, same_assignment}
use Rattle.packed.specs.Assignment as packed
use Rattle.packed.specs.Assignment.{encode_range, encode_ranges, encode_segment, encode_segments, encode_assignment, size_segment, size_segments}
use Rattle.packed.specs.Assignment.{num, decode_segments, ok_from, ok_assignment, starts_assignment}
use Rattle.packed.specs.Assignment.{ConsumerAssignment, slot_size, size_assignment}
use Rattle.packed.specs.Rows.{half, of_three, points, bucketed}
use Rattle.intake_content.specs.Content.{bucket_of, bucket_fault, first_outside, segment_fault, first_refusal, assigned_segment, in_id_order, consumer_assignment}
use Rattle.intake_content.specs.Content.{Content, refused, taken, content_of}
use Rattle.intake_content.specs.Rows.{parent, named, buckets_of_one, range}
use Rattle.intake_content.proofs.SoundLaws.{passes}
use Rattle.intake_content.proofs.OrderLaws.{refusal-next}
use Rattle.intake_content.proofs.ContentLaws.{content-long, content-taken}
use Rattle.session.specs.Store.{min_output, slot, list_in, queue_in, queue_reads, write_one}
use Rattle.session.specs.Identity.{identity_topic, subscription_of, consumer_name_of, is_identity}
use Rattle.session.specs.Session.{Session, in_use, view, any_beyond, damaged}
use Rattle.session.specs.Update.{update_registered, update_call}
use Rattle.session.specs.Tails.{update_content, update_valid, update_checked}
use Rattle.session.specs.Calls.{effect_of, update_outcome}
use Rattle.session.specs.Trace.{step_of}
use Rattle.session_rows.specs.Rows.{written, link, zeros, pushed, registered, holds, refuses}

-- n buckets of one value each, from the value v on, as they come
abbrev wire_points : ℕ → ℕ → List IntRange
wire_points zero v = []
wire_points (suc n) v = range (pos v) (pos v) ∷ wire_points n (suc v)

-- as they come, and as they are held
points-of : (n v : ℕ) → map bucket_of (wire_points n v) ≡ points n v
points-of zero v = refl
points-of (suc n) v = let p = points-of n (suc v) in cc

points-rise : (n v : ℕ) → rising_from v (points n v) ≡ true
unfolding rising_from
points-rise zero v = refl
points-rise (suc n) v = simp (le-leb v v (omega arith)) (points-rise n (suc v))

-- each lies in the key space
points-pass : (id : SegmentId) (i n v : ℕ) → v + n ≤ suc max_hash → bucket_fault id i (wire_points n v) ≡ None
unfolding bucket_fault new_key_range
points-pass id i zero v h = refl
points-pass id i (suc n) v h =
    simp (le-ltb max_hash v (omega arith), le-ltb v v (omega arith)) (points-pass id (i + 1) n (suc v) (omega arith))

-- and in the segment's range
points-inside : (i n v : ℕ) → v + n ≤ 0x8000 → first_outside (key_range 0 0x7fff) i (points n v) ≡ None
unfolding first_outside
points-inside i zero v h = refl
points-inside i (suc n) v h =
    simp (le-leb 0 v (omega arith), le-leb v 0x7fff (omega arith)) (points-inside (i + 1) n (suc v) (omega arith))

module _ (n : ℕ) (h : n ≤ 0x8000) where
  abbrev segment : WireSegment
  segment = named 0 (wire_points n 0)

  abbrev whole : WireAssignment
  whole = record { layout_epoch = 3; segments = segment ∷ [] }

  segment-passes : segment_fault parent segment ≡ None
  unfolding new_key_range same_bytes starts_with class_of before_slash behind_slash clean has_three_parts front_clean is_path is_parent
  segment-passes =
      passes parent segment
      (record {
        range = refl;
        buckets = points-pass (record { 0 = 0 }) 0 n 0 (omega arith);
        apart = ap any_overlap (points-of n 0) ∙ rising-apart 0 (points n 0) (points-rise n 0);
        inside = ap (first_outside (key_range 0 0x7fff) 0) (points-of n 0) ∙ points-inside 0 n 0 (omega arith);
        parent-ok = refl;
        topic = same_refl segment.segment_topic;
      })

  no-refusal : first_refusal parent [] (segment ∷ []) ≡ None
  unfolding first_refusal
  no-refusal = refusal-next parent [] segment [] segment-passes refl

  whole_is : consumer_assignment whole ≡ bucketed n
  unfolding consumer_assignment in_id_order assigned_segment
  whole_is = ap (λ (rs : List KeyRange). of_three (half 0 rs ∷ [])) (points-of n 0)

  buckets-taken : size_assignment (bucketed n) ≤ slot_size → buckets_of_one (wire_points n 0) ≡ taken (bucketed n)
  buckets-taken f =
      content-taken parent whole no-refusal (subst (λ (a : ConsumerAssignment). size_assignment a ≤ slot_size) (sym whole_is) f)
      ∙ ap taken whole_is

  buckets-long : slot_size < size_assignment (bucketed n) → buckets_of_one (wire_points n 0) ≡ refused AssignmentTooLong
  buckets-long f =
      content-long parent whole no-refusal (subst (λ (a : ConsumerAssignment). slot_size < size_assignment a) (sym whole_is) f)

-- ---- a push over the registered session, by what its content comes to

abbrev over : Session
over = view registered.next registered.store

push-by : (m : List ℕ) (w : WireAssignment) (c : Content) → first_fault CommandScalableTopicAssignmentUpdate m ≡ Ok record {}
    → update_of m ≡ record { consumer_id = 7; assignment = w } → content_of parent w ≡ c
    → step_of registered.next registered.store (pushed m) ≡ effect_of (update_content over c) registered.store (zeros min_output)
unfolding be_from be be_at bytes_of put table fits sequence_in sequence_of text_after is_utf8 encode_range encode_ranges encode_segment
    encode_segments encode_assignment size_segment size_segments size_assignment num decode_segments packed.decode_assignment ok_from ok_assignment
    starts_assignment same_ranges same_segment same_segments same_assignment decode_entries start_entries encode_ids encode_delta size_delta
    has_same without delta_between slot list_in queue_in queue_reads write_one identity_topic subscription_of consumer_name_of is_identity in_use
    view any_beyond damaged update_registered update_content update_valid update_call update_outcome
push-by m w c v u e =
    ap (λ f. effect_of (update_checked over link m f) registered.store (zeros min_output)) v
    ∙ ap (λ (x : WireUpdate). effect_of (update_valid over link x) registered.store (zeros min_output)) u
    ∙ ap (λ x. effect_of (update_content over x) registered.store (zeros min_output)) e

pub record Buckets : Type 0 where
  pub most : step_of registered.next registered.store (pushed (written (bucketed 506))) ≡ holds (bucketed 506)
  pub more : step_of registered.next registered.store (pushed (written (bucketed 507))) ≡ refuses AssignmentTooLong

pub buckets : Buckets
unfolding be_from be be_at bytes_of put table fits sequence_in sequence_of text_after is_utf8 encode_range encode_ranges encode_segment
    encode_segments encode_assignment size_segment size_segments size_assignment num decode_segments packed.decode_assignment ok_from ok_assignment
    starts_assignment same_ranges same_segment same_segments same_assignment decode_entries start_entries encode_ids encode_delta size_delta
    has_same without delta_between slot list_in queue_in queue_reads write_one identity_topic subscription_of consumer_name_of is_identity in_use
    view any_beyond damaged update_registered update_content update_valid update_call update_outcome varint_of key_read number_body part_of
    fields_of value_for is_complete first_fault int32_of int_range_of readers.read_segment readers.read_assignment update_of hex4 decimal_within
    decimal descriptor segment_topic varint_bytes number_field part_head part_field range_message bucket_fields segment_message
    segment_fields assignment_message update_message
buckets =
    record {
      most =
          push-by (written (bucketed 506)) (whole 506 (omega arith)) (taken (bucketed 506)) refl refl (buckets-taken 506 (omega arith) (omega arith))
          ∙ refl;
      more =
          push-by (written (bucketed 507)) (whole 507 (omega arith)) (refused AssignmentTooLong) refl refl (buckets-long 507 (omega arith) (omega arith))
          ∙ refl;
    }
