-- Laws of the name builder.
--
-- In order: a name put piece by piece (`put-name`); a name that does not fit, and one that does (`name-no-room`, `name-written`);
-- the cases of `canonical_segment_topic` (`canonical-not-utf8`, `canonical-no-range`, `canonical-no-parent`, `canonical-written`).
-- Assumes nothing.
use Rattle.std.specs.Prelude.{Ok, Err}
use Prim.Native.Nat.{ℕ, ◌+◌, ◌≤◌, ◌<◌}
use native.Mathlib.Omega.{arith}
use mathlib.Core.Path.{◌≡◌, ap, ◌∙◌}
use mathlib.Core.Bool.{true, false}
use mathlib.Core.List.{List, ◌++◌}
use lib.ListN.{length, length-append}
use borrow.Author.Tests.{le-leb, lt-leb}
use Rattle.topic_types.specs.declared.KeyRange.{KeyRange}
use Rattle.topic_types.specs.declared.KeyRangeError.{KeyRangeError}
use Rattle.topic_types.specs.declared.SegmentId.{SegmentId}
use Rattle.topic_types.specs.KeyRanges.{new_key_range}
use Rattle.refusal.specs.declared.Refusal.TheVariants.{InvalidUtf8, InvalidKeyRange, InvalidParent, ResultTooLong}
use Rattle.slice_int.specs.Put.{put}
use Rattle.slice_int.proofs.PutLaws.{put-after}
use Rattle.utf8.specs.Table.{is_utf8}
use Rattle.name_parents.specs.Parents.{is_parent, path_of}
use Rattle.name_topic.specs.Names.{segment_scheme, descriptor, segment_topic}
use Rattle.name_topic.specs.Build.{name_outcome, refuse, written, build_name, canonical_segment_topic}
use Rattle.name_topic.proofs.NameLaws.{segment_topic-length}

-- ---- a name put into an output

module _ (path : List ℕ) (range : KeyRange) (id : SegmentId) (o : List ℕ) where
  pub put-name : length (segment_topic path range id) ≤ length o
      → put (put (put o 0 segment_scheme) 10 path) (10 + length path) (descriptor range id) ≡ put o 0 (segment_topic path range id)
  unfolding segment_topic
  put-name h =
      let D : List ℕ = descriptor range id in
      let k : length (segment_scheme ++ (path ++ D)) ≡ 10 + length path + length D = segment_topic-length range id path in
      let e : 10 + length path ≡ 0 + length (segment_scheme ++ path) = omega (arith, length-append segment_scheme path) in
      ap (λ (l : List ℕ). put l (10 + length path) D) (put-after o 0 segment_scheme path (omega arith))
      ∙ ap (λ (n : ℕ). put (put o 0 (segment_scheme ++ path)) n D) e
      ∙ put-after o 0 (segment_scheme ++ path) D (omega arith)

  -- n is the length of scheme and descriptor
  module _ (n : ℕ) (e : n ≡ 10 + length (descriptor range id)) where
    pub name-no-room : length o < n + length path → written (segment_topic path range id) o ≡ refuse ResultTooLong o
    unfolding written
    name-no-room h =
        let k = segment_topic-length range id path in
        rw (lt-leb (length (segment_topic path range id)) (length o) (omega arith))

    pub name-written : n + length path ≤ length o
        → written (segment_topic path range id) o
        ≡ name_outcome (Ok (n + length path)) (put (put (put o 0 segment_scheme) 10 path) (10 + length path) (descriptor range id))
    unfolding written
    name-written h =
        let k = segment_topic-length range id path in
        let l : length (segment_topic path range id) ≡ n + length path = omega arith in
        let m : length (segment_topic path range id) ≤ length o = omega arith in
        rw (le-leb (length (segment_topic path range id)) (length o) m, l, put-name m)

-- ---- the cases of the builder

module _ (parent : List ℕ) (start end : ℕ) (id : SegmentId) (o : List ℕ) where
  pub canonical-not-utf8 : is_utf8 parent ≡ false → canonical_segment_topic parent start end id o ≡ refuse InvalidUtf8 o
  unfolding canonical_segment_topic
  canonical-not-utf8 u = rw u

  module _ (u : is_utf8 parent ≡ true) where
    pub canonical-no-range : (e : KeyRangeError) → new_key_range start end ≡ Err e
        → canonical_segment_topic parent start end id o ≡ refuse (InvalidKeyRange e) o
    unfolding canonical_segment_topic build_name
    canonical-no-range e r = rw (u, r)

    module _ (range : KeyRange) (r : new_key_range start end ≡ Ok range) where
      pub canonical-no-parent : is_parent parent ≡ false → canonical_segment_topic parent start end id o ≡ refuse InvalidParent o
      unfolding canonical_segment_topic build_name
      canonical-no-parent p = rw (u, r, p)

      pub canonical-written : is_parent parent ≡ true
          → canonical_segment_topic parent start end id o ≡ written (segment_topic (path_of parent) range id) o
      unfolding canonical_segment_topic build_name
      canonical-written p = rw (u, r, p)
