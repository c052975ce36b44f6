-- Parents and the names built of them are the Rust's (`parent-agrees`, `segment-topic-agrees`), those that 02 h forbids excepted
-- (`marked_differs`).
--
-- In order: a prefix stripped (`strip-agrees`); the split at the first '/' (`split-once-agrees`); the tests of a path's parts; a path
-- (`path-agrees`, `path-unmarked`); the theorems.
-- Assumes nothing.
use Rattle.std.specs.Prelude.{Option, Some, None, option_map}
use Prim.Native.Nat.{ℕ, suc, ◌-◌, ◌<◌}
use native.Mathlib.Omega.{arith}
use mathlib.Core.Path.{◌≡◌, refl, sym, ap, ◌∙◌}
use mathlib.Core.Bool.{Bool, true, false, cond, not, ◌&&◌, ◌||◌, and-true, and-false, true≢false}
use mathlib.Core.List.{List, [], ◌∷◌, ◌++◌, append_assoc}
use lib.ListN.{length, take, drop}
use lib.Dec.{eqb}
use borrow.Author.Tests.{eq-eqb, ne_eqb, eqb-true, eqb-false, lt-ltb, not-true}
use Rattle.slice.specs.BoolLaws.{both_true}
use Rattle.slice.specs.Same.{same_bytes, starts_with}
use Rattle.name_parents.specs.Classes.{class_of, is_slash}
use Rattle.name_parents.specs.Parents.{topic_scheme, before_slash, behind_slash, clean, non_empty, ends_in_slash, is_local_name, has_three_parts, front_clean}
use Rattle.name_parents.specs.Parents.{is_path, is_parent, path_of}
use Rattle.name_topic.specs.Names.{segment_scheme, hex4, decimal, descriptor, segment_topic}
use Rattle.name_source.specs.Parse.{has_slash}
use Rattle.topic_types.specs.declared.KeyRange.{KeyRange}
use Rattle.topic_types.specs.declared.SegmentId.{SegmentId}
use Rattle.rust_magnetar.specs.Result.{Result, Ok, Err, ◌>>=◌, ok_or}
use Rattle.rust_magnetar.specs.Text.{Text, is-empty, strip-prefix, contains-any, ends_with, Split, longer, split-once, splitn-from, splitn}
use Rattle.rust_magnetar.specs.Numerals.{display}
use Rattle.rust_magnetar.specs.SegmentTopic.{SegmentTopicError, InvalidParent, slash, dash, question, hash, next-and, parts-valid}
use Rattle.rust_magnetar.specs.SegmentTopic.{to-hex-string, canonical-segment-topic}
use Rattle.rust_names.specs.Agree.{is_marked, is_marked_path, MarkedDiffers, ParentAgrees, SegmentTopicAgrees}
use Rattle.rust_names.proofs.ClassTests.{slash-test, mark-test}
use Rattle.rust_names.proofs.NumeralAgrees.{display-agrees, hex-agrees}
use Rattle.rust_names.proofs.RangeAgrees.{new-bounds}

-- ---- a prefix

eqb-sym : (a b : ℕ) → eqb a b ≡ eqb b a
eqb-sym a b = go (eqb b a) refl
  where
    go : (t : Bool) → eqb b a ≡ t → eqb a b ≡ t
    go true e = eq-eqb a b (sym (eqb-true b a e))
    go false e = ne_eqb a b (λ q. eqb-false b a e (sym q))

pub strip-agrees : (p s : Text) → strip-prefix p s ≡ cond (starts_with p s) (Some (drop (length p) s)) None
unfolding starts_with same_bytes
strip-agrees [] s = refl
strip-agrees (x ∷ p) [] = refl
strip-agrees (x ∷ p) (b ∷ s) = rw (eqb-sym x b) (go (eqb b x) (strip-agrees p s))
  where
    go : (t : Bool) → strip-prefix p s ≡ cond (same_bytes (take (length p) s) p) (Some (drop (length p) s)) None
        → cond t (strip-prefix p s) None ≡ cond (t && same_bytes (take (length p) s) p) (Some (drop (length p) s)) None
    go true e = e
    go false e = refl

-- ---- the first '/'

abbrev at_first : Text → Split
at_first s = record { before = before_slash s; behind = behind_slash s }

split-once-agrees : (s : Text) → split-once slash s ≡ cond (has_slash s) (Some (at_first s)) None
unfolding has_slash before_slash behind_slash
split-once-agrees [] = refl
split-once-agrees (b ∷ s) = rw (← slash-test b, split-once-agrees s) (go (is_slash b) (has_slash s))
  where
    go : (t u : Bool)
        → cond t (Some (record { before = []; behind = s })) (option_map (longer b) (cond u (Some (at_first s)) None))
        ≡ cond (t || u) (Some (record { before = cond t [] (b ∷ before_slash s); behind = cond t s (behind_slash s) })) None
    go true u = refl
    go false true = refl
    go false false = refl

no-slash-behind : (s : Text) → has_slash s ≡ false → behind_slash s ≡ []
unfolding has_slash behind_slash
no-slash-behind [] e = refl
no-slash-behind (b ∷ s) e = go (is_slash b) (no-slash-behind s) e
  where
    go : (t : Bool) → (has_slash s ≡ false → behind_slash s ≡ []) → (t || has_slash s) ≡ false → cond t s (behind_slash s) ≡ []
    go true h e = absurd (true≢false e)
    go false h e = h e

-- ---- the tests of a path's parts

nonempty-agrees : (s : Text) → non_empty s ≡ not (is-empty s)
nonempty-agrees [] = refl
nonempty-agrees (b ∷ s) = lt-ltb 0 (suc (length s)) (omega arith)

ends-agrees : (s : Text) → ends_in_slash s ≡ ends_with slash s
unfolding class_of
ends-agrees [] = refl
ends-agrees (b ∷ []) = slash-test b
ends-agrees (b ∷ (d ∷ s)) =
    let e : suc (suc (length s)) - 1 ≡ suc (suc (length s) - 1) = omega arith in
    rw e (ends-agrees (d ∷ s))

clean-agrees : (s : Text) → clean s ≡ not (contains-any question hash s)
unfolding clean
clean-agrees [] = refl
clean-agrees (b ∷ s) = rw (mark-test b, clean-agrees s) (go (eqb b question || eqb b hash) (contains-any question hash s))
  where
    go : (t u : Bool) → (not t && not u) ≡ not (t || u)
    go true u = refl
    go false u = refl

abbrev is-rest : Text → Bool
is-rest part = not (is-empty part) && (not (ends_with slash part) && not (contains-any question hash part))

rest-agrees : (s : Text) → is_local_name s ≡ is-rest s
rest-agrees s = rw (nonempty-agrees s, ends-agrees s, clean-agrees s)

-- ---- a path

abbrev is-part : Text → Bool
is-part part = not (is-empty part)

-- the namespace and the rest
two-agree : (q : Text)
    → next-and is-part (next-and is-rest (λ rest. true)) (splitn 2 slash q) ≡ (non_empty (before_slash q) && is_local_name (behind_slash q))
two-agree q = rw split-once-agrees (go (has_slash q) refl)
  where
    go : (t : Bool) → has_slash q ≡ t
        → next-and is-part (next-and is-rest (λ rest. true)) (splitn-from (splitn 1 slash) q (cond t (Some (at_first q)) None))
        ≡ (non_empty (before_slash q) && is_local_name (behind_slash q))
    go true e = rw (nonempty-agrees (before_slash q), rest-agrees (behind_slash q), and-true)
    go false e = rw (no-slash-behind q e) (and-false (is-part q) ∙ sym (and-false (non_empty (before_slash q))))

path-agrees : (p : Text) → parts-valid (splitn 3 slash p) ≡ has_three_parts p
unfolding has_three_parts before_slash
path-agrees p = rw split-once-agrees (go (has_slash p) refl)
  where
    go : (t : Bool) → has_slash p ≡ t
        → parts-valid (splitn-from (splitn 2 slash) p (cond t (Some (at_first p)) None))
        ≡ (non_empty (before_slash p) && (non_empty (before_slash (behind_slash p)) && is_local_name (behind_slash (behind_slash p))))
    go true e = rw (nonempty-agrees (before_slash p)) (ap (λ (t : Bool). is-part (before_slash p) && t) (two-agree (behind_slash p)))
    go false e = rw (no-slash-behind p e) (and-false (is-part p) ∙ sym (and-false (non_empty (before_slash p))))

-- of a path that 02 h does not forbid, this port asks what the Rust does
path-unmarked : (p : Text) → is_marked_path p ≡ false → is_path p ≡ has_three_parts p
unfolding is_path
path-unmarked p = go (has_three_parts p) (front_clean p)
  where
    go : (t u : Bool) → (t && not u) ≡ false → (t && u) ≡ t
    go true true e = refl
    go true false e = absurd (true≢false e)
    go false u e = refl

-- ---- parents, and the names built of them

-- what `canonical_parent_path` makes of the path
abbrev tested : Text → Text → Result Text SegmentTopicError
tested t path = cond (not (parts-valid (splitn 3 slash path))) (Err (InvalidParent t)) (Ok path)

tested-agrees : (t p : Text) → is_marked_path p ≡ false → tested t p ≡ cond (is_path p) (Ok p) (Err (InvalidParent t))
tested-agrees t p m = rw (path-agrees, path-unmarked p m) (go (has_three_parts p))
  where
    go : (v : Bool) → cond (not v) (Err (InvalidParent t)) (Ok p) ≡ cond v (Ok p) (Err (InvalidParent t))
    go true = refl
    go false = refl

pub parent-agrees : ParentAgrees
unfolding is_parent
parent-agrees t m =
    ap (λ (o : Option Text). ok_or (InvalidParent t) o >>= tested t) (strip-agrees topic_scheme t) ∙ go (starts_with topic_scheme t) m
  where
    go : (u : Bool) → (u && is_marked_path (path_of t)) ≡ false
        → (ok_or (InvalidParent t) (cond u (Some (path_of t)) None) >>= tested t)
        ≡ cond (u && is_path (path_of t)) (Ok (path_of t)) (Err (InvalidParent t))
    go true m = tested-agrees t (path_of t) m
    go false m = refl

pub marked_differs : MarkedDiffers
unfolding is_path is_parent
marked_differs t m =
    let p = both_true (starts_with topic_scheme t) (is_marked_path (path_of t)) m in
    let q = both_true (has_three_parts (path_of t)) (not (front_clean (path_of t))) p.1 in
    let taken : tested t (path_of t) ≡ Ok (path_of t) = rw (path-agrees (path_of t), q.0) in (
      ap (λ (o : Option Text). ok_or (InvalidParent t) o >>= tested t) (strip-agrees topic_scheme t) ∙ rw p.0 taken,
      rw (p.0, q.0, not-true (front_clean (path_of t)) q.1),
    )

-- of a range whose ends have four digits
named-agrees : (t : Text) (range : KeyRange) (id : SegmentId) → is_marked t ≡ false → range.start < 65536 → range.end < 65536
    → canonical-segment-topic t range id ≡ cond (is_parent t) (Ok (segment_topic (path_of t) range id)) (Err (InvalidParent t))
unfolding segment_topic descriptor
named-agrees t range id m s e =
    ap (λ (r : Result Text SegmentTopicError). r >>= (λ path. Ok (name path))) (parent-agrees t m) ∙ go (is_parent t)
  where
    name : Text → Text
    name path = segment_scheme ++ (path ++ (slash ∷ (to-hex-string range ++ (dash ∷ display id.0))))

    go : (u : Bool)
        → (cond u (Ok (path_of t)) (Err (InvalidParent t)) >>= (λ path. Ok (name path)))
        ≡ cond u (Ok (segment_topic (path_of t) range id)) (Err (InvalidParent t))
    go true =
        ap (λ (l : List ℕ). Ok (segment_scheme ++ (path_of t ++ (slash ∷ l))))
        (rw (hex-agrees range.start s, hex-agrees range.end e, display-agrees id.0)
        (append_assoc (hex4 range.start) (dash ∷ hex4 range.end) (dash ∷ decimal id.0)))
    go false = refl

pub segment-topic-agrees : SegmentTopicAgrees
segment-topic-agrees t range id m made =
    let b = new-bounds range.start range.end range made in
    named-agrees t range id m (omega (arith, b.order, b.bound)) (omega (arith, b.bound))
