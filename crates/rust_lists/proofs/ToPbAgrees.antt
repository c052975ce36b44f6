-- What the writer writes is the Rust's `to_pb` (`to-pb-agrees`), and the Rust's `try_from_pb` makes the assignment of
-- it (`read-agrees`).
--
-- In order: a written segment as the readers say it is the Rust's (`segment-agrees`); what stands at the output's
-- front, read (`written_is`); the theorems.
-- Assumes nothing.
use Rattle.std.specs.Prelude as std
use Prim.Native.Nat.{ℕ, ◌<◌, ◌^◌}
use native.Mathlib.Omega.{arith}
use mathlib.Core.Logic.{◌⊎◌, inl, inr}
use mathlib.Core.Path.{◌≡◌, refl, ap, ap₂, ◌∙◌}
use mathlib.Core.Bool.{true, false}
use mathlib.Core.List.{List, [], ◌∷◌, map}
use lib.ListN.{length, take}
use lib.Dec.{leb}
use borrow.Author.Tests.{lt-ltb}
use Rattle.slice.specs.BoolLaws.{both_true}
use Rattle.topic_types.specs.declared.KeyRange.{KeyRange}
use Rattle.slice.specs.Same.{starts_with}
use Rattle.slice.proofs.PartLaws.{Bytes}
use Rattle.utf8.specs.Table.{is_utf8}
use Rattle.name_parents.specs.Parents.{topic_scheme, has_three_parts, front_clean, is_path, is_parent, path_of}
use Rattle.wire.specs.Fields.{fields_of}
use Rattle.wire_readers.specs.Messages.{WireSegment, WireAssignment}
use Rattle.packed.specs.Assignment as port
use Rattle.packed.specs.Assignment.{slot_size, size_assignment, ok_from, ok_assignment, decode_assignment}
use Rattle.packed.proofs.RoundLaws.{FitRange, FitRanges, FitSegment, FitSegments, fit-assignment}
use Rattle.intake_content.specs.Content.{taken, content_of}
use Rattle.keyed.proofs.EachLaws.{Each, each_map}
use Rattle.intake_content.proofs.OrderLaws.{Passing}
use Rattle.writer_message.specs.Message.{assignment_message}
use Rattle.writer_message.proofs.RowLaws.{segments-within, assignment-row}
use Rattle.writer_message.proofs.WireLaws as wire
use Rattle.writer_message.proofs.WireLaws.{wire_range, wire_segment, wire_assignment, each-written, written-passes, assignment-says}
use Rattle.writer_message.proofs.WireLaws.{content-says}
use Rattle.writer.specs.Write.{write_outcome}
use Rattle.writer.proofs.WrittenReads.{Passed, passed, front}
use Rattle.rust_magnetar.specs.Result.{Ok}
use Rattle.rust_magnetar.specs.Assignment.{range-to-pb, AssignedSegment-to-pb, ConsumerAssignment-try-from-pb}
use Rattle.rust_names.specs.Agree.{is_marked}
use Rattle.rust_session.specs.Values.{as_segment, as_assignment}
use Rattle.rust_session.proofs.ContentAgrees.{taken-agrees}
use Rattle.rust_lists.specs.Agree.{written_of, ToPbAgrees, ReadAgrees}

-- ---- a segment

range-agrees : (r : KeyRange) → FitRange r → wire_range r ≡ range-to-pb r
range-agrees r f = rw (lt-ltb r.start (2 ^ 31) (omega (arith, f.start)), lt-ltb r.end (2 ^ 31) (omega (arith, f.end)))

ranges-agree : (rs : List KeyRange) → FitRanges rs → map wire_range rs ≡ map range-to-pb rs
ranges-agree [] f = refl
ranges-agree (r ∷ rs) f = ap₂ ◌∷◌ (range-agrees r f.0) (ranges-agree rs f.1)

module _ (parent : List ℕ) where
  segment-agrees : (g : port.AssignedSegment) → FitSegment g → wire_segment (path_of parent) g ≡ AssignedSegment-to-pb (as_segment parent g)
  segment-agrees g f = λ i. record {
    segment_id = g.segment_id;
    hash_start = g.range.start;
    hash_end = g.range.end;
    segment_topic = (as_segment parent g).segment-topic;
    bucket_ranges = ranges-agree g.buckets f.buckets i;
  }

  segments-agree : (gs : List port.AssignedSegment) → FitSegments gs
      → map (wire_segment (path_of parent)) gs ≡ map AssignedSegment-to-pb (map (as_segment parent) gs)
  segments-agree [] f = refl
  segments-agree (g ∷ gs) f = ap₂ ◌∷◌ (segment-agrees g f.0) (segments-agree gs f.1)

-- ---- what stands at the output's front

-- a parent that this port takes has no `?` or `#`
parent-unmarked : (t : List ℕ) → is_parent t ≡ true → is_marked t ≡ false
unfolding is_parent is_path
parent-unmarked t e =
    let p = both_true (starts_with topic_scheme t) (is_path (path_of t)) e in
    let q = both_true (has_three_parts (path_of t)) (front_clean (path_of t)) p.1 in
    rw (p.0, q.0, q.1)

module _ (s parent o : List ℕ) (n : ℕ) (b : Bytes s) (short : length o < 2 ^ 64) (e : (write_outcome s parent o).answer ≡ std.Ok n) where
  abbrev a : port.ConsumerAssignment
  a = decode_assignment s

  abbrev message : List ℕ
  message = assignment_message (path_of parent) a

  P : Passed s parent o
  P = passed s parent o n e

  message-short : length message < 2 ^ 64
  message-short = omega (arith, P.room)

  rises : ok_from 0 a.segments ≡ true
  unfolding ok_assignment
  rises = (both_true (leb (size_assignment a) slot_size) (ok_from 0 a.segments) P.ok).1

  each : Each (wire.Written parent) a.segments
  each = go P.named
    where
      go : (a.segments ≡ []) ⊎ ((is_parent parent ≡ true) × (is_utf8 parent ≡ true)) → Each (wire.Written parent) a.segments
      go (inl q) = rw q tt
      go (inr q) =
          each-written parent q.0 q.1 0 a.segments (fit-assignment s b).segments rises P.inside
          (omega (arith, message-short, segments-within (path_of parent) a))

  written_is : written_of s parent o n ≡ wire_assignment (path_of parent) a
  written_is =
      assignment-says parent a each (fields_of (take n (write_outcome s parent o).out))
      (ap fields_of (front s parent o n P e) ∙ assignment-row (path_of parent) a (fit-assignment s b).epoch message-short)

  content-is : content_of parent (wire_assignment (path_of parent) a) ≡ taken a
  content-is =
      content-says parent a P.ok
      (each_map (wire.Written parent) (Passing parent) (wire_segment (path_of parent)) (written-passes parent) a.segments each)

  made : ConsumerAssignment-try-from-pb (wire_assignment (path_of parent) a) parent ≡ Ok (as_assignment parent a)
  made = go P.named
    where
      go : (a.segments ≡ []) ⊎ ((is_parent parent ≡ true) × (is_utf8 parent ≡ true))
          → ConsumerAssignment-try-from-pb (wire_assignment (path_of parent) a) parent ≡ Ok (as_assignment parent a)
      go (inl q) = rw q
      go (inr q) = taken-agrees parent (wire_assignment (path_of parent) a) a (parent-unmarked parent q.0) content-is

-- ---- the theorems

pub to-pb-agrees : ToPbAgrees
to-pb-agrees s parent o n b short e =
    written_is s parent o n b short e
    ∙ ap (λ (l : List WireSegment). record { layout_epoch = (decode_assignment s).layout_epoch; segments = l })
    (segments-agree parent (decode_assignment s).segments (fit-assignment s b).segments)

pub read-agrees : ReadAgrees
read-agrees s parent o n b short e =
    ap (λ (w : WireAssignment). ConsumerAssignment-try-from-pb w parent) (written_is s parent o n b short e) ∙ made s parent o n b short e
