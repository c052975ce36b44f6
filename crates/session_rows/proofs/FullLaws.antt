-- Row I: 1,024 pushes of row A's message from a fresh record on a store with room for them, by induction over the pushes. It is shown of the
-- session in values, where nothing is computed twice, and carried to bytes by the crate session's `same`.
-- Assumes nothing.
use Rattle.std.specs.Prelude.{None, Ok, Err}
use Prim.Native.Nat.{ℕ, zero, suc, ◌+◌, ◌*◌, ◌≤◌, ◌<◌}
use native.Mathlib.Omega.{arith}
use mathlib.Core.Path.{◌≡◌, refl, ap, ap₂, sym, ◌∙◌, subst}
use mathlib.Core.Bool.{true, false}
use mathlib.Core.List.{List, [], ◌∷◌, ◌++◌, map}
use lib.ListN.{length, replicate, length-append}
use lib.Seq.{take_all}
use borrow.Author.Tests.{le-ltb, ne_eqb}
use Rattle.topic_types.specs.KeyRanges.{new_key_range}
use Rattle.slice.specs.Same.{same_bytes, starts_with}
use Rattle.ranges.specs.Overlap.{any_overlap}
use Rattle.utf8.specs.Table.{table, fits, sequence_in, sequence_of, text_after, is_utf8}
use Rattle.name_parents.specs.Classes.{class_of}
use Rattle.name_parents.specs.Parents.{before_slash, behind_slash, clean, has_three_parts, front_clean, is_path, is_parent}
use Rattle.name_topic.specs.Names.{hex4, decimal_within, decimal, descriptor, segment_topic}
use Rattle.wire.specs.Varints.{varint_of}
use Rattle.wire.specs.Field.{key_read, number_body, part_of}
use Rattle.wire.specs.Fields.{fields_of}
use Rattle.wire_schema.specs.Schema.{value_for}
use Rattle.wire_schema.specs.Required.{is_complete}
use Rattle.wire_schema.specs.FirstFault.{first_fault}
use Rattle.wire_readers.specs.Messages.{read_segment, read_assignment, update_of}
use Rattle.slice_int.specs.Be.{be_from, be, be_at, bytes_of}
use Rattle.slice_int.specs.Put.{put}
use Rattle.packed.specs.Assignment.{ConsumerAssignment, size_segment, size_segments, size_assignment}
use Rattle.packed_queue.specs.Entries.{size_entries, decode_entries, start_entries}
use Rattle.packed_delta.specs.Rows.{one_half}
use Rattle.intake_content.specs.Content.{bucket_fault, first_outside, name_fault, segment_fault, first_refusal}
use Rattle.intake_content.specs.Content.{assigned_segment, in_id_order, consumer_assignment, content_of}
use Rattle.intake_content.specs.Rows.{parent}
use Rattle.refusal.specs.declared.Refusal.TheVariants.{PreBaselineBufferFull}
use Rattle.session.specs.declared.SessionRecord.{SessionRecord}
use Rattle.session.specs.declared.Answer.TheVariants.{Accepted}
use Rattle.session.specs.Store.{min_output, slot, list_in, queue_in, queue_reads}
use Rattle.session.specs.Identity.{encode_identity, identity_topic, subscription_of, consumer_name_of, is_identity}
use Rattle.session.specs.Session.{Session, Result, in_use, view, any_beyond, damaged, refuse}
use Rattle.session.specs.Update.{enqueue, update_unregistered, update_call}
use Rattle.session.specs.Tails.{update_content, update_valid}
use Rattle.session.specs.Calls.{call_outcome, effect_of, OpenOutcome, open_outcome, update_outcome}
use Rattle.session.specs.Trace.{step_of, Event, trace, final}
use Rattle.session.specs.DemandThree.{Fresh, AllOfBytes}
use Rattle.session.proofs.Model.{after, is_unchanged, value_trace, value_final}
use Rattle.session.proofs.ViewLaws.{kept_fresh}
use Rattle.session.proofs.TraceLaws.{bytes-of, Same, same}
use Rattle.session_rows.specs.Rows.{message_a, link, zeros, identity, opened, pushed, record_of, pushes, roomy, behind_pushes}

-- ---- the message is made of bytes

all-of-bytes : (k : ℕ) → AllOfBytes (replicate k (pushed message_a))
all-of-bytes zero = tt
all-of-bytes (suc k) = (bytes-of message_a refl, all-of-bytes k)

-- ---- in values

-- the queue with k pushes behind it
abbrev grown : List ConsumerAssignment → ℕ → List ConsumerAssignment
grown q zero = q
grown q (suc k) = grown (q ++ (one_half 3 ∷ [])) k

size-more : (q : List ConsumerAssignment) → size_entries (q ++ (one_half 3 ∷ [])) ≡ size_entries q + 26
unfolding size_entries size_assignment size_segments size_segment
size-more [] = refl
size-more (a ∷ q) = omega (arith, size-more q)

module _ (baseline list : ConsumerAssignment) where
  -- not registered, with n pushes in the queue q
  abbrev queuing : ℕ → List ConsumerAssignment → Session
  queuing n q =
      record {
        state = record_of false None n;
        size = roomy;
        sound = true;
        topic = parent;
        baseline = baseline;
        list = list;
        queue = q;
      }

  module _ (n : ℕ) (q : List ConsumerAssignment) (h : n ≤ 1024) where
    not-damaged : damaged (queuing n q) ≡ false
    unfolding damaged any_beyond
    not-damaged = simp (le-ltb 1024 n h, le-ltb n 0 (omega arith))

    push-is : update_call (queuing n q) message_a link min_output ≡ update_unregistered (queuing n q) (one_half 3)
    unfolding new_key_range any_overlap same_bytes starts_with table fits sequence_in sequence_of text_after is_utf8 class_of before_slash behind_slash
        clean has_three_parts front_clean is_path is_parent hex4 decimal_within decimal descriptor segment_topic varint_of key_read number_body part_of
        fields_of value_for is_complete first_fault read_segment read_assignment update_of size_segment size_segments size_assignment bucket_fault
        first_outside name_fault segment_fault first_refusal assigned_segment in_id_order consumer_assignment content_of update_content update_valid
        update_call
    push-is = rw not-damaged refl

  -- a push joins the queue
  module _ (n : ℕ) (q : List ConsumerAssignment) (h : n < 1024) (s : size_entries q ≡ 26 * n) where
    joins : update_call (queuing n q) message_a link min_output ≡ enqueue (queuing n q) (one_half 3)
    unfolding update_unregistered size_assignment size_segments size_segment
    joins = push-is n q (omega arith) ∙ simp (ne_eqb n 1024 (λ e. omega arith), le-ltb roomy (6144 + size_entries q + 26) (omega arith))

    joined : length q ≡ n → after (queuing n q) (enqueue (queuing n q) (one_half 3)) ≡ queuing (n + 1) (q ++ (one_half 3 ∷ []))
    joined e = ap (queuing (n + 1)) (take_all (n + 1) (q ++ (one_half 3 ∷ [])) (omega (arith, e, length-append q (one_half 3 ∷ []))))

  -- k pushes join it, and each answers none
  record Pushed (n k : ℕ) (q : List ConsumerAssignment) : Type 0 where
    ends : value_final (queuing n q) (replicate k (pushed message_a)) ≡ queuing (n + k) (grown q k)
    nones : map (λ (e : Event). e.none) (value_trace (queuing n q) (replicate k (pushed message_a))) ≡ replicate k true

  pushed-from : (k n : ℕ) (q : List ConsumerAssignment) → n + k ≤ 1024 → length q ≡ n → size_entries q ≡ 26 * n → Pushed n k q
  pushed-from zero n q h e s = let p : n ≡ n + zero = omega arith in record { ends = ap (λ m. queuing m q) p; nones = refl }
  pushed-from (suc k) n q h e s =
      let x = joins n q (omega arith) s in
      let next = ap (after (queuing n q)) x ∙ joined n q (omega arith) s e in
      let more : length (q ++ (one_half 3 ∷ [])) ≡ n + 1 = omega (arith, e, length-append q (one_half 3 ∷ [])) in
      let larger : size_entries (q ++ (one_half 3 ∷ [])) ≡ 26 * (n + 1) = omega (arith, s, size-more q) in
      let r = pushed-from k (n + 1) (q ++ (one_half 3 ∷ [])) (omega arith) more larger in
      let p : n + 1 + k ≡ n + suc k = omega arith in
      record {
        ends = ap (λ s'. value_final s' (replicate k (pushed message_a))) next ∙ r.ends ∙ ap (λ m. queuing m (grown q (suc k))) p;
        nones =
            ap₂ ◌∷◌ (ap (λ (y : Result). is_unchanged y.reply) x)
            (ap (λ s'. map (λ (v : Event). v.none) (value_trace s' (replicate k (pushed message_a)))) next ∙ r.nones);
      }

  -- one more is 28
  full-value : (q : List ConsumerAssignment)
      → update_call (queuing 1024 q) message_a link min_output ≡ refuse (PreBaselineBufferFull 1024) (queuing 1024 q)
  unfolding update_unregistered
  full-value q = push-is 1024 q (omega arith)

  full_at : (r : SessionRecord) (st : List ℕ) (q : List ConsumerAssignment) → view r st ≡ queuing 1024 q
      → step_of r st (pushed message_a) ≡ call_outcome (Err (PreBaselineBufferFull 1024)) r st (zeros min_output)
  unfolding update_outcome view
  full_at r st q e =
      ap (λ x. effect_of x st (zeros min_output))
      (subst (λ (s : Session). update_call s message_a link min_output ≡ refuse (PreBaselineBufferFull 1024) s) (sym e) (full-value q))

-- ---- on bytes

module _ (r : SessionRecord) (st : List ℕ) (f : Fresh r) (baseline list : ConsumerAssignment) (starts : view r st ≡ queuing baseline list 0 []) where
  module _ (k : ℕ) (h : k ≤ 1024) where
    run : Same r st (replicate k (pushed message_a))
    run = same (replicate k (pushed message_a)) r st (kept_fresh r st f) (all-of-bytes k)

    there : Pushed baseline list 0 k []
    unfolding size_entries
    there = pushed-from baseline list k 0 [] (omega arith) refl refl

    queued-on : map (λ (e : Event). e.none) (trace r st (replicate k (pushed message_a))) ≡ replicate k true
    queued-on =
        ap (map (λ (e : Event). e.none)) (run.events ∙ ap (λ s. value_trace s (replicate k (pushed message_a))) starts) ∙ there.nones

    ends_on : view (final r st (replicate k (pushed message_a))).state (final r st (replicate k (pushed message_a))).store
        ≡ queuing baseline list k (grown [] k)
    ends_on =
        let p : 0 + k ≡ k = omega arith in
        run.ends ∙ ap (λ s. value_final s (replicate k (pushed message_a))) starts ∙ there.ends ∙ ap (λ n. queuing baseline list n (grown [] k)) p

    count-on : (final r st (replicate k (pushed message_a))).state ≡ record_of false None k
    unfolding view
    count-on = ap (λ (s : Session). s.state) ends_on

    full-on : k ≡ 1024
        → step_of (final r st (replicate k (pushed message_a))).state (final r st (replicate k (pushed message_a))).store (pushed message_a)
        ≡ call_outcome (Err (PreBaselineBufferFull 1024)) (final r st (replicate k (pushed message_a))).state
        (final r st (replicate k (pushed message_a))).store (zeros min_output)
    full-on e =
        full_at baseline list _ _ (grown [] k) (ends_on ∙ ap (λ n. queuing baseline list n (grown [] k)) e)

-- ---- behind open

abbrev written : List ℕ
written = put (zeros roomy) 0 (encode_identity identity)

opens : opened roomy ≡ record { answer = (Ok Accepted); next = record_of false None 0; store = written }
unfolding table fits sequence_in sequence_of text_after is_utf8 open_outcome
opens = refl

fresh : Fresh (record_of false None 0)
fresh = record { unregistered = refl; no-floor = refl; not-invalidated = refl; no-queue = refl; positions = refl }

begins : view (record_of false None 0) written ≡ queuing (list_in written 1) (list_in written 2) 0 []
unfolding be_from be be_at bytes_of put table fits sequence_in sequence_of text_after is_utf8 decode_entries start_entries slot queue_in queue_reads
    encode_identity identity_topic subscription_of consumer_name_of is_identity in_use view
begins = refl

-- what holds behind every open that comes to that holds behind this one
abbrev Opened : (OpenOutcome → Type 0) → Type 0
Opened P = P (record { answer = (Ok Accepted); next = record_of false None 0; store = written }) → P (opened roomy)

behind : (P : OpenOutcome → Type 0) → Opened P
behind P h = subst P (sym opens) h

pub queued : map (λ (e : Event). e.none) (trace (opened roomy).next (opened roomy).store pushes) ≡ replicate 1024 true
queued =
    behind (λ o. map (λ (e : Event). e.none) (trace o.next o.store pushes) ≡ replicate 1024 true)
    (queued-on (record_of false None 0) written fresh (list_in written 1) (list_in written 2) begins 1024 (omega arith))

pub count : behind_pushes.state ≡ record_of false None 1024
count =
    behind (λ o. (final o.next o.store pushes).state ≡ record_of false None 1024)
    (count-on (record_of false None 0) written fresh (list_in written 1) (list_in written 2) begins 1024 (omega arith))

pub full : step_of behind_pushes.state behind_pushes.store (pushed message_a)
    ≡ call_outcome (Err (PreBaselineBufferFull 1024)) behind_pushes.state behind_pushes.store (zeros min_output)
full =
    behind
    (λ o.
    step_of (final o.next o.store pushes).state (final o.next o.store pushes).store (pushed message_a)
    ≡ call_outcome (Err (PreBaselineBufferFull 1024)) (final o.next o.store pushes).state (final o.next o.store pushes).store
    (zeros min_output))
    (full-on (record_of false None 0) written fresh (list_in written 1) (list_in written 2) begins 1024 (omega arith) refl)
