-- Laws of the name of a segment: lengths, a loop over decimal digits, and a text compared with a name piece by piece.
--
-- In order: lengths (`hex4-length`, `decimal-length`, `decimal_nonempty`, `descriptor-length`, `descriptor-short`,
-- `segment_topic-length`); the digits of a number from its last on (`decimal-next`, `decimal-end`, `digits-fewer`); a text that has another
-- scheme or path than the name, or the same (`name-other-scheme`, `name-other-path`, `name-same-path`).
-- Assumes nothing.
use Prim.Native.Nat.{ℕ, zero, suc, ◌+◌, ◌/◌, ◌%◌, ◌^◌, ◌≤◌, ◌<◌}
use native.Mathlib.Omega.{arith}
use mathlib.Core.Path.{◌≡◌, refl, ◌∙◌}
use mathlib.Core.Bool.{Bool, true, false, cond}
use mathlib.Core.List.{List, [], ◌∷◌, ◌++◌, append_assoc}
use lib.ListN.{length, drop, length-append}
use lib.Seq.{drop-drop}
use lib.Dec.{ltb}
use borrow.Author.Tests.{lt-ltb, le-ltb}
use Rattle.topic_types.specs.declared.KeyRange.{KeyRange}
use Rattle.topic_types.specs.declared.SegmentId.{SegmentId}
use Rattle.slice.specs.Same.{same_bytes, starts_with}
use Rattle.slice.proofs.SameLaws.{same-append}
use Rattle.name_topic.specs.Names.{segment_scheme, hex4, decimal_within, decimal, descriptor, segment_topic}

-- ---- lengths

pub hex4-length : (v : ℕ) → length (hex4 v) ≡ 4
unfolding hex4
hex4-length v = refl

digits-length : (last : Bool) (l : List ℕ) (b k : ℕ) → length l ≤ k → length (cond last [] l ++ (b ∷ [])) ≤ suc k
digits-length true l b k h = omega arith
digits-length false l b k h = simp length-append (omega arith)

decimal_within-length : (k v : ℕ) → length (decimal_within k v) ≤ k
unfolding decimal_within
decimal_within-length zero v = omega arith
decimal_within-length (suc k) v =
    digits-length (ltb v 10) (decimal_within k (v / 10)) (0x30 + v % 10) k (decimal_within-length k (v / 10))

pub decimal-length : (v : ℕ) → length (decimal v) ≤ 20
unfolding decimal
decimal-length v = decimal_within-length 20 v

pub decimal_nonempty : (v : ℕ) → 1 ≤ length (decimal v)
unfolding decimal decimal_within
decimal_nonempty v = simp length-append (omega arith)

module _ (range : KeyRange) (id : SegmentId) where
  pub descriptor-length : length (descriptor range id) ≡ 11 + length (decimal id.0)
  unfolding descriptor
  descriptor-length = simp (length-append, hex4-length) (omega arith)

  pub descriptor-short : length (descriptor range id) ≤ 31
  descriptor-short = omega (arith, descriptor-length, decimal-length id.0)

  pub segment_topic-length : (path : List ℕ) → length (segment_topic path range id) ≡ 10 + length path + length (descriptor range id)
  unfolding segment_topic
  segment_topic-length path = simp length-append (omega arith)

-- ---- decimal digits, the last one first

pub decimal-next : (k v : ℕ) (t u : List ℕ) → 10 ≤ v → u ≡ (0x30 + v % 10) ∷ t
    → decimal_within (suc k) v ++ t ≡ decimal_within k (v / 10) ++ u
unfolding decimal_within
decimal-next k v t u h e = rw (le-ltb v 10 h, append_assoc, e)

pub decimal-end : (k v : ℕ) → v < 10 → decimal_within (suc k) v ≡ (0x30 + v) ∷ []
unfolding decimal_within
decimal-end k v h = let m : v % 10 ≡ v = omega arith in rw (lt-ltb v 10 h, m)

pub digits-fewer : (k v : ℕ) → 10 ≤ v → v < 10 ^ suc k → (0 < k) × (v / 10 < 10 ^ k)
digits-fewer zero v h b = absurd (omega arith)
digits-fewer (suc k) v h b = (omega arith, omega arith)

-- ---- a text compared with a name

module _ (text path : List ℕ) (range : KeyRange) (id : SegmentId) where
  pub name-other-scheme : starts_with segment_scheme text ≡ false → same_bytes text (segment_topic path range id) ≡ false
  unfolding segment_topic
  name-other-scheme h = same-append segment_scheme (path ++ descriptor range id) text ∙ rw h

  module _ (h : starts_with segment_scheme text ≡ true) where
    behind-scheme : same_bytes text (segment_topic path range id) ≡ same_bytes (drop 10 text) (path ++ descriptor range id)
    unfolding segment_topic
    behind-scheme = same-append segment_scheme (path ++ descriptor range id) text ∙ rw h

    pub name-other-path : starts_with path (drop 10 text) ≡ false → same_bytes text (segment_topic path range id) ≡ false
    name-other-path k = behind-scheme ∙ same-append path (descriptor range id) (drop 10 text) ∙ rw k

    pub name-same-path : starts_with path (drop 10 text) ≡ true
        → same_bytes text (segment_topic path range id) ≡ same_bytes (drop (10 + length path) text) (descriptor range id)
    name-same-path k = behind-scheme ∙ same-append path (descriptor range id) (drop 10 text) ∙ rw (k, drop-drop (length path) 10 text)
