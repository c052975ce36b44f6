-- The source of a segment and its topic are the Rust's (`source-agrees`, `topics-agree`).
--
-- A segment of a packed assignment has a range of the key space and an id below 2 ^ 64 (`Sound`, `all_sound`), so the
-- reader of names reads the name that is built of them, and the name builder builds it.
-- Assumes nothing.
use Prim.Native.Nat.{ℕ, suc, ◌≤◌, ◌<◌, ◌^◌}
use native.Mathlib.Omega.{arith}
use mathlib.Core.Path.{◌≡◌, refl, ap₂}
use mathlib.Core.Bool.{true}
use mathlib.Core.List.{List, [], ◌∷◌, map}
use lib.ListN.{length}
use lib.Dec.{eqb, leb}
use borrow.Author.Tests.{leb-true, eq-eqb}
use Rattle.slice.specs.BoolLaws.{both_true}
use Rattle.topic_types.specs.KeyRanges.{max_hash}
use Rattle.topic_types.proofs.KeyRangeLaws.{valid-new}
use Rattle.slice.specs.Same.{starts_with}
use Rattle.slice.proofs.PartLaws.{Bytes}
use Rattle.utf8.specs.Table.{is_utf8}
use Rattle.name_parents.specs.Parents.{topic_scheme, is_path, is_parent, path_of}
use Rattle.name_topic.specs.Build as build
use Rattle.name_topic.specs.Build.{build_name, canonical_segment_topic}
use Rattle.name_source.specs.Parse.{parse_text, source_stage, segment_source}
use Rattle.name_source.proofs.RoundTrip.{reads-built}
use Rattle.packed.specs.Assignment as port
use Rattle.packed.specs.Assignment.{is_in_order, ok_buckets, ok_segment, size_assignment, slot_size, ok_from, ok_assignment, decode_assignment, starts_assignment}
use Rattle.packed.specs.Assignment.{is_assignment}
use Rattle.packed.proofs.AssignmentLaws.{ok-segment, ok-tail}
use Rattle.packed.proofs.RoundLaws.{FitSegment, FitSegments, fit-assignment}
use Rattle.keyed.proofs.EachLaws.{Each}
use Rattle.writer_message.proofs.TextLaws.{topic-utf8}
use Rattle.rust_magnetar.specs.Result.{Ok}
use Rattle.rust_magnetar.specs.Text.{Text}
use Rattle.rust_magnetar.specs.Assignment.{AssignedSegment, source}
use Rattle.rust_session.specs.Values.{as_id, as_segment}
use Rattle.rust_lists.specs.Agree.{source_by, SourceAgrees, topic_by, TopicsAgrees}

-- ---- the segments of a packed assignment

record Sound (g : port.AssignedSegment) : Type 0 where
  order : g.range.start ≤ g.range.end
  bound : g.range.end ≤ max_hash
  id : g.segment_id < 2 ^ 64

sound : (g : port.AssignedSegment) → FitSegment g → ok_segment g ≡ true → Sound g
unfolding ok_segment
sound g f o =
    let p = both_true (is_in_order g.range) (ok_buckets g.buckets) o in
    record {
      order = leb-true g.range.start g.range.end p.0;
      bound = omega (arith, f.range.end);
      id = omega (arith, f.id);
    }

each-sound : (low : ℕ) (gs : List port.AssignedSegment) → FitSegments gs → ok_from low gs ≡ true → Each Sound gs
each-sound low [] f o = tt
each-sound low (g ∷ gs) f o =
    (sound g f.0 (ok-segment low g gs o), each-sound (suc g.segment_id) gs f.1 (ok-tail low g gs o))

all_sound : (s : List ℕ) → Bytes s → is_assignment s ≡ true → Each Sound (decode_assignment s).segments
unfolding is_assignment starts_assignment ok_assignment
all_sound s b e =
    let a = decode_assignment s in
    let starts = (both_true (starts_assignment s) (eqb (size_assignment a) (length s)) e).0 in
    let ok = (both_true (leb (size_assignment a) (length s)) (ok_assignment a) starts).1 in
    each-sound 0 a.segments (fit-assignment s b).segments (both_true (leb (size_assignment a) slot_size) (ok_from 0 a.segments) ok).1

-- ---- one segment

module _ (parent : List ℕ) (p : is_parent parent ≡ true) (u : is_utf8 parent ≡ true) where
  path-valid : is_path (path_of parent) ≡ true
  unfolding is_parent
  path-valid = (both_true (starts_with topic_scheme parent) (is_path (path_of parent)) p).1

  source_is : (g : port.AssignedSegment) → Sound g → source_by parent g ≡ Ok (source (as_segment parent g))
  unfolding segment_source parse_text source_stage
  source_is g S =
      let t : Text = (as_segment parent g).segment-topic in
      let text : is_utf8 t ≡ true = topic-utf8 parent p u g.range (as_id g.segment_id) in
      let read = reads-built (path_of parent) g.range.start g.range.end (as_id g.segment_id) path-valid S.order S.bound S.id in
      rw (text, read, eq-eqb g.segment_id g.segment_id refl)

  topic-is : (out : List ℕ) (g : port.AssignedSegment) → Sound g
      → topic_by parent out g ≡ build.written (as_segment parent g).segment-topic out
  unfolding canonical_segment_topic build_name
  topic-is out g S = rw (u, valid-new g.range.start g.range.end S.order S.bound, p)

  -- ---- each segment

  sources-are : (gs : List port.AssignedSegment) → Each Sound gs
      → map (source_by parent) gs ≡ map (λ (r : AssignedSegment). Ok (source r)) (map (as_segment parent) gs)
  sources-are [] S = refl
  sources-are (g ∷ gs) S = ap₂ ◌∷◌ (source_is g S.0) (sources-are gs S.1)

  topics-are : (out : List ℕ) (gs : List port.AssignedSegment) → Each Sound gs
      → map (topic_by parent out) gs
      ≡ map (λ (t : Text). build.written t out) (map (λ (r : AssignedSegment). r.segment-topic) (map (as_segment parent) gs))
  topics-are out [] S = refl
  topics-are out (g ∷ gs) S = ap₂ ◌∷◌ (topic-is out g S.0) (topics-are out gs S.1)

pub source-agrees : SourceAgrees
source-agrees s parent b e p u = sources-are parent p u (decode_assignment s).segments (all_sound s b e)

pub topics-agree : TopicsAgrees
topics-agree s parent out b e p u = topics-are parent p u out (decode_assignment s).segments (all_sound s b e)
