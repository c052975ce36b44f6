-- Messages that have the rows of written ones, and the written ones, have no fault by their schema.
--
-- In order: fields that each hold a message without fault (`parts-valid`, `parts_whole`); a segment and an assignment by their rows
-- (`segment-row-valid`, `assignment-row-valid`), and as they are written (`segment-valid`, `assignment-valid`).
-- Not here: a range, and the messages that hold an assignment (SoundLaws of the crate schema).
-- Assumes nothing.
use Rattle.std.specs.Prelude.{Ok}
use Prim.Native.Nat.{ℕ, suc, ◌^◌, ◌<◌}
use mathlib.Core.Path.{◌≡◌, refl, ap, ◌∙◌}
use mathlib.Core.Bool.{true}
use mathlib.Core.List.{List, [], ◌∷◌, map}
use lib.ListN.{length}
use borrow.Author.Tests.{eq-eqb}
use Rattle.topic_types.specs.declared.KeyRange.{KeyRange}
use Rattle.utf8.specs.Table.{is_utf8}
use Rattle.name_parents.specs.Parents.{path_of}
use Rattle.wire.specs.Fields.{fields_of}
use Rattle.wire_schema.specs.declared.MessageKind.{MessageKind}
use Rattle.wire_schema.specs.declared.MessageKind.TheVariants.{ScalableConsumerAssignment, ScalableAssignedSegment, IntRange}
use Rattle.wire_schema.specs.declared.ValueKind.TheVariants as value
use Rattle.wire_schema.specs.Schema.{value_for}
use Rattle.wire_schema.specs.Required.{all_complete, complete_within}
use Rattle.wire_schema.specs.FirstFault.{check_fields, fault_within, Sound}
use Rattle.wire_schema.proofs.SoundLaws.{range-sound}
use Rattle.wire_values.specs.Values.{parts_of}
use Rattle.packed.specs.Assignment.{AssignedSegment, ConsumerAssignment}
use Rattle.packed.proofs.RoundLaws.{FitRanges}
use Rattle.keyed.proofs.EachLaws.{Each, each_map}
use Rattle.writer_message.specs.Message.{range_message, segment_topic_of, segment_message, assignment_message}
use Rattle.writer_message.proofs.TextLaws.{topic-utf8}
use Rattle.writer_message.proofs.RowLaws.{numbered, part_row, range-row, segment_row_of, segment-row, assignment-row}
use Rattle.writer_message.proofs.WireLaws.{Written}

-- a field of messages that may come again
module _ (d : ℕ) (k j : MessageKind) (f : ℕ) where
  pub parts-valid : value_for k f ≡ value.Message j → (ps : List (List ℕ)) → Each (Sound d j) ps
      → check_fields (fault_within d) k (part_row f ps) ≡ Ok record {}
  parts-valid r [] v = refl
  parts-valid r (p ∷ ps) v = rw (r, v.0.read) (parts-valid r ps v.1)

  pub parts_whole : (ps : List (List ℕ)) → Each (Sound d j) ps → all_complete (complete_within d) j (parts_of f (part_row f ps)) ≡ true
  parts_whole [] v = refl
  parts_whole (p ∷ ps) v = rw (eq-eqb f f refl, v.0.whole) (parts_whole ps v.1)

-- by their rows, whatever they are nested in
pub segment-row-valid : (d : ℕ) (p path : List ℕ) (g : AssignedSegment) (ps : List (List ℕ)) → fields_of p ≡ segment_row_of path g ps
    → is_utf8 (segment_topic_of path g) ≡ true → Each (Sound d IntRange) ps → Sound (suc d) ScalableAssignedSegment p
unfolding value_for
segment-row-valid d p path g ps e u v =
    record {
      read =
          ap (check_fields (fault_within d) ScalableAssignedSegment) e
          ∙ rw u (parts-valid d ScalableAssignedSegment IntRange 5 refl ps v);
      whole = ap (complete_within (suc d) ScalableAssignedSegment) e ∙ rw (parts_whole d ScalableAssignedSegment IntRange 5 ps v);
    }

pub assignment-row-valid : (d : ℕ) (s : List ℕ) (epoch : ℕ) (ps : List (List ℕ)) → fields_of s ≡ numbered 1 epoch ∷ part_row 2 ps
    → Each (Sound d ScalableAssignedSegment) ps → Sound (suc d) ScalableConsumerAssignment s
unfolding value_for
assignment-row-valid d s epoch ps e v =
    record {
      read =
          ap (check_fields (fault_within d) ScalableConsumerAssignment) e
          ∙ parts-valid d ScalableConsumerAssignment ScalableAssignedSegment 2 refl ps v;
      whole =
          ap (complete_within (suc d) ScalableConsumerAssignment) e
          ∙ rw (parts_whole d ScalableConsumerAssignment ScalableAssignedSegment 2 ps v);
    }

-- ---- as they are written

ranges-valid : (rs : List KeyRange) → FitRanges rs → Each (Sound 1 IntRange) (map range_message rs)
ranges-valid [] f = tt
ranges-valid (r ∷ rs) f = (range-sound 1 (range_message r) r.start r.end (range-row r f.0), ranges-valid rs f.1)

segment-valid : (parent : List ℕ) (g : AssignedSegment) → Written parent g
    → Sound 2 ScalableAssignedSegment (segment_message (path_of parent) g)
segment-valid parent g w =
    let path : List ℕ = path_of parent in
    segment-row-valid 1 (segment_message path g) path g (map range_message g.buckets) (segment-row path g w.fit w.short)
    (topic-utf8 parent w.parent-ok w.text g.range (record { 0 = g.segment_id })) (ranges-valid g.buckets w.fit.buckets)

pub assignment-valid : (parent : List ℕ) (a : ConsumerAssignment) → Each (Written parent) a.segments → a.layout_epoch < 256 ^ 8
    → length (assignment_message (path_of parent) a) < 2 ^ 64 → Sound 3 ScalableConsumerAssignment (assignment_message (path_of parent) a)
assignment-valid parent a w e s =
    let path : List ℕ = path_of parent in
    assignment-row-valid 2 (assignment_message path a) a.layout_epoch (map (segment_message path) a.segments) (assignment-row path a e s)
    (each_map (Written parent) (Sound 2 ScalableAssignedSegment) (segment_message path) (segment-valid parent) a.segments w)
