-- The worked rows, proved: by computation, a run call by call (proofs/RunLaws); row I by induction over the pushes (proofs/FullLaws), the
-- overlap of row H's buckets by a law (proofs/BucketLaws).
-- Assumes nothing.
use Rattle.std.specs.Prelude.{None}
use Prim.Native.Nat.{ℕ}
use mathlib.Core.Path.{◌≡◌, refl}
use mathlib.Core.Bool.{false}
use mathlib.Core.List.{List, [], ◌∷◌, ◌++◌}
use Rattle.topic_types.specs.KeyRanges.{key_range, new_key_range}
use Rattle.refusal.specs.declared.Refusal.TheVariants.{OverlappingBucketRanges, AssignmentTooLong}
use Rattle.ranges.specs.Overlap.{overlaps_any, any_overlap}
use Rattle.slice.specs.Same.{same_bytes, starts_with}
use Rattle.utf8.specs.Table.{table, fits, sequence_in, sequence_of, text_after, is_utf8}
use Rattle.name_parents.specs.Classes.{class_of}
use Rattle.name_parents.specs.Parents.{before_slash, behind_slash, clean, has_three_parts, front_clean, is_path, is_parent}
use Rattle.name_topic.specs.Names.{hex4, decimal_within, decimal, descriptor, segment_topic}
use Rattle.wire.specs.Varints.{varint_of}
use Rattle.wire.specs.Field.{key_read, number_body, part_of}
use Rattle.wire.specs.Fields.{fields_of}
use Rattle.wire_writer.specs.Encode.{varint_bytes, number_field, part_head, part_field}
use Rattle.wire_schema.specs.Schema.{value_for}
use Rattle.wire_schema.specs.Required.{is_complete}
use Rattle.wire_schema.specs.FirstFault.{first_fault}
use Rattle.wire_values.specs.Integers.{int32_of}
use Rattle.wire_readers.specs.Messages as readers
use Rattle.wire_readers.specs.Messages.{int_range_of, update_of, response_of}
use Rattle.writer_message.specs.Message.{range_message, bucket_fields, segment_message, segment_fields, assignment_message, update_message}
use Rattle.slice_int.specs.Be.{be_from, be, be_at, bytes_of}
use Rattle.slice_int.specs.Put.{put}
use Rattle.packed.specs.Assignment as packed
use Rattle.packed.specs.Assignment.{encode_range, encode_ranges, encode_segment, encode_segments, encode_assignment, size_segment, size_segments}
use Rattle.packed.specs.Assignment.{num, decode_range, decode_ranges, decode_segments, all_in_order, ok_buckets, ok_segment, ok_from, ok_assignment, starts_assignment}
use Rattle.packed.specs.Assignment.{size_assignment, is_assignment}
use Rattle.packed.specs.Rows.{half, of_three, rising, bucketed}
use Rattle.packed.specs.Equal.{same_ranges, same_segment, same_segments, same_assignment}
use Rattle.packed_queue.specs.Entries.{encode_entry, encode_entries, size_entries, sheet_in, decode_entries, starts_entry, start_entries}
use Rattle.packed_delta.specs.Delta.{encode_ids, encode_delta, size_delta}
use Rattle.packed_delta.specs.Change.{has_same, without, delta_between}
use Rattle.intake_content.specs.Content.{bucket_fault, first_outside, name_fault, segment_fault, first_refusal}
use Rattle.intake_content.specs.Content.{assigned_segment, in_id_order, consumer_assignment, content_of}
use Rattle.session.specs.Store.{min_store, slot, list_in, queue_in, queue_reads, write_one}
use Rattle.session.specs.Identity.{encode_identity, identity_topic, subscription_of, consumer_name_of, is_identity}
use Rattle.session.specs.Session.{in_use, view, any_beyond, damaged}
use Rattle.session.specs.Update.{update_unregistered, update_registered, update_call}
use Rattle.session.specs.Tails.{update_content, update_valid, response_assignment, response_content, response_valid}
use Rattle.session.specs.Response.{stale_fault, last_list, response_call}
use Rattle.session.specs.Drain as session
use Rattle.session.specs.Drain.{next_change, drain_call}
use Rattle.session.specs.Calls.{CallOutcome, open_outcome, update_outcome, response_outcome, drain_outcome}
use Rattle.session.specs.Trace.{step_of}
use Rattle.session_rows.specs.Rows.{message_at, message_a, bucket, message_of_two, written, zeros, opened, responded, pushed, drained, record_of, store_of}
use Rattle.session_rows.specs.Rows.{entry_at, epoch_alone, gains_half, registered, holds, refuses, holds_a, still_a, holds_next, stale_a, over_two, joins}
use Rattle.session_rows.specs.Rows.{no_room, replays, replayed, Rows}
use Rattle.session_rows.proofs.RunLaws.{opened_on, run_is}
use Rattle.session_rows.proofs.BucketLaws.{buckets}
use Rattle.session_rows.proofs.FullLaws.{queued, count, full}

pub rows : Rows
unfolding new_key_range overlaps_any any_overlap same_bytes starts_with table fits sequence_in sequence_of text_after is_utf8 class_of before_slash
    behind_slash clean has_three_parts front_clean is_path is_parent hex4 decimal_within decimal descriptor segment_topic varint_of key_read number_body
    part_of fields_of value_for is_complete first_fault readers.read_segment readers.read_assignment update_of response_of be_from be be_at bytes_of put
    encode_range encode_ranges encode_segment encode_segments encode_assignment size_segment size_segments size_assignment num decode_range decode_ranges
    packed.decode_segment decode_segments packed.decode_assignment all_in_order ok_buckets ok_segment ok_from ok_assignment starts_assignment is_assignment
    same_ranges same_segment same_segments same_assignment encode_entry encode_entries size_entries sheet_in decode_entries starts_entry start_entries
    encode_ids encode_delta size_delta has_same without delta_between bucket_fault first_outside name_fault segment_fault first_refusal
    assigned_segment in_id_order consumer_assignment content_of slot list_in queue_in queue_reads write_one encode_identity identity_topic subscription_of
    consumer_name_of is_identity in_use view any_beyond damaged update_unregistered update_registered update_content update_valid update_call
    stale_fault last_list response_assignment response_content response_valid response_call next_change session.drained drain_call open_outcome update_outcome
    response_outcome drain_outcome int32_of int_range_of varint_bytes number_field part_head part_field range_message bucket_fields segment_message
    segment_fields assignment_message update_message
rows =
    let opens : opened min_store ≡ opened_on (store_of [] []) = refl in
    let wide : opened 6196 ≡ opened_on (store_of [] [] ++ zeros 52) = refl in
    let short : opened 6195 ≡ opened_on (store_of [] [] ++ zeros 51) = refl in
    let registers : step_of (record_of false None 0) (store_of [] []) (responded 2) ≡ registered = refl in
    let held : step_of registered.next registered.store (pushed message_a) ≡ holds_a = refl in
    let joined : step_of (record_of false None 0) (store_of [] [] ++ zeros 52) (pushed message_a) ≡ joins 1 (entry_at 3 ++ zeros 26) = refl in
    let over : (m : List ℕ) (x : CallOutcome) → step_of registered.next registered.store (pushed m) ≡ x → over_two m ≡ registered ∷ x ∷ [] =
    λ m x e. run_is min_store (store_of [] []) opens (responded 2 ∷ pushed m ∷ []) (registered ∷ x ∷ []) (registers, (e, tt)) in
    record {
      a-valid = refl;
      a_read = refl;
      b-taken = refl;
      b-bytes = refl;
      opens = opens;
      c-d-e =
          run_is min_store (store_of [] []) opens (responded 2 ∷ pushed message_a ∷ pushed message_a ∷ pushed (message_at 4) ∷ [])
          (registered ∷ holds_a ∷ still_a ∷ holds_next ∷ []) (registers, (held, (refl, (refl, tt))));
      f-stale =
          run_is min_store (store_of [] []) opens (responded 2 ∷ pushed message_a ∷ pushed (message_at 2) ∷ [])
          (registered ∷ holds_a ∷ stale_a ∷ []) (registers, (held, (refl, tt)));
      g-shared = over (message_of_two (bucket 0 5) (bucket 5 9)) (refuses (OverlappingBucketRanges (record { 0 = 0 }))) refl;
      g-apart =
          over (message_of_two (bucket 0 5) (bucket 6 9)) (holds (of_three (half 0 (key_range 0 5 ∷ key_range 6 9 ∷ []) ∷ []))) refl;
      h-written = refl;
      h-segments = over (written (of_three (rising 145 0))) (holds (of_three (rising 145 0))) refl;
      h-segments-more = over (written (of_three (rising 146 0))) (refuses AssignmentTooLong) refl;
      h-buckets = over (written (bucketed 506)) (holds (bucketed 506)) buckets.most;
      h-buckets-more = over (written (bucketed 507)) (refuses AssignmentTooLong) buckets.more;
      i-queued = queued;
      i-count = count;
      i-full = full;
      i-any = λ s a q e. simp (q, e);
      j-valid = refl;
      j-not-valid = refl;
      j-any = λ w. refl;
      j-refused = refl;
      marked-tenant = refl;
      marked-namespace = refl;
      marked-any = λ w. refl;
      marked_refused = refl;
      close-fits =
          run_is 6196 (store_of [] [] ++ zeros 52) wide (pushed message_a ∷ pushed message_a ∷ [])
          (joins 1 (entry_at 3 ++ zeros 26) ∷ joins 2 (entry_at 3 ++ entry_at 3) ∷ []) (joined, (refl, tt));
      close-short =
          run_is 6195 (store_of [] [] ++ zeros 51) short (pushed message_a ∷ pushed message_a ∷ [])
          (joins 1 (entry_at 3 ++ zeros 25) ∷ no_room (entry_at 3 ++ zeros 25) ∷ []) (refl, (refl, tt));
      close-places =
          run_is 6196 (store_of [] [] ++ zeros 52) wide (pushed message_a ∷ pushed (message_at 4) ∷ responded 2 ∷ drained ∷ drained ∷ [])
          (joins 1 (entry_at 3 ++ zeros 26) ∷ joins 2 (entry_at 3 ++ entry_at 4) ∷ replayed ∷ replays 6146 26 1 (gains_half 3)
          ∷ replays 6172 12 2 (epoch_alone 4) ∷ [])
          (joined, (refl, (refl, (refl, (refl, tt)))));
    }
