-- A source read from a name, and the parent of a name, are the Rust's (`source-agrees`, `parent-topic-agrees`).
--
-- In order: errors renamed before or behind a `?` (`map-err-bind`); `SegmentSource::new`; `parent_topic`, which cuts off what is behind the
-- last '/' of the whole name (`cut-path`); the parent of a name.
-- Assumes nothing.
use Rattle.std.specs.Prelude as std
use Rattle.std.specs.Prelude.{Some}
use Prim.Native.Nat.{ℕ, ◌+◌, ◌-◌}
use native.Mathlib.Omega.{arith}
use mathlib.Core.Path.{◌≡◌, refl, sym, ap, ap₂, ◌∙◌}
use mathlib.Core.Bool.{Bool, true, false, cond, not}
use mathlib.Core.List.{List, [], ◌∷◌, ◌++◌}
use lib.ListN.{length, take, drop, length-drop, take-append-drop}
use lib.Dec.{eqb}
use borrow.Author.Tests.{eq-eqb}
use Rattle.topic_types.specs.declared.KeyRange.{KeyRange}
use Rattle.topic_types.specs.declared.SegmentId.{SegmentId}
use Rattle.refusal.specs.declared.Refusal.{Refusal}
use Rattle.refusal.specs.declared.Refusal.TheVariants as refusal
use Rattle.slice.specs.Same.{starts_with}
use Rattle.slice.proofs.SameLaws.{same-eq}
use Rattle.name_parents.specs.Parents.{topic_scheme}
use Rattle.name_topic.specs.Names.{segment_scheme}
use Rattle.name_topic.specs.Build.{written}
use Rattle.name_source.specs.Parse.{has_slash, before_last, parse_segment_topic, parse_text, source_stage, segment_source}
use Rattle.name_source.specs.Parse.{parent_outcome, parent_topic}
use Rattle.name_source.proofs.SlashLaws.{before-last-inside, before-last-take}
use Rattle.name_source.proofs.ParseLaws.{name-told}
use Rattle.rust_magnetar.specs.Result.{Result, Ok, Err, ◌>>=◌, map-err}
use Rattle.rust_magnetar.specs.Text.{Text, Split, rsplit_once, strip-prefix}
use Rattle.rust_magnetar.specs.SegmentTopic.{SegmentTopicError, SegmentIdMismatch, slash, ParsedTopic, parse-segment-topic}
use Rattle.rust_magnetar.specs.SegmentTopic.{SegmentSource, SegmentSource-new, behind-length, without_end, parent-topic}
use Rattle.rust_names.specs.Agree.{paper, read_of, source_of, is_marked_name, parent_of, SourceAgrees, ParentTopicAgrees}
use Rattle.rust_names.proofs.ParentAgrees.{strip-agrees}
use Rattle.rust_names.proofs.BuildAgrees.{Gives, gives-by, gives-text}
use Rattle.rust_names.proofs.ParseAgrees.{at_last, rsplit-agrees, parse-agrees}

map-err-bind : {A B E F : Type 0} (g : E → F) (r : Result A E) (f : A → Result B E)
    → map-err g (r >>= f) ≡ (map-err g r >>= (λ a. map-err g (f a)))
map-err-bind g (Ok a) f = refl
map-err-bind g (Err e) f = refl

-- ---- the source with the given id

module _ (id : SegmentId) (t : Text) (m : is_marked_name t ≡ false) where
  -- 19
  abbrev with_id : ParsedTopic → Result SegmentSource SegmentTopicError
  with_id x =
      cond (not (eqb x.id.0 id.0)) (Err (SegmentIdMismatch id x.id))
      (Ok (record { segment-id = id; topic = t; key-range = x.key-range }))

  source-stage : (x : std.Result (ℕ × KeyRange × SegmentId) Refusal) → (read_of t x >>= (λ (y : ParsedTopic). map-err paper (with_id y))) ≡ source_of t (source_stage id x)
  unfolding source_stage
  source-stage (std.Err x) = refl
  source-stage (std.Ok (n, range, i)) = go (eqb i.0 id.0)
    where
      go : (u : Bool)
          → map-err paper (cond (not u) (Err (SegmentIdMismatch id i)) (Ok (record { segment-id = id; topic = t; key-range = range })))
          ≡ source_of t
          (cond u (std.Ok (record { segment_id = id; key_range = range })) (std.Err (refusal.SegmentIdMismatch id i)))
      go true = refl
      go false = refl

  source-read : map-err paper (SegmentSource-new id t) ≡ source_of t (source_stage id (parse_segment_topic t))
  source-read =
      map-err-bind paper (parse-segment-topic t) with_id
      ∙ ap (λ (r : Result ParsedTopic Refusal). r >>= (λ y. map-err paper (with_id y))) (parse-agrees t m)
      ∙ source-stage (parse_segment_topic t)

pub source-agrees : SourceAgrees
unfolding segment_source parse_text source_stage
source-agrees id t u m = rw u (source-read id t m)

-- ---- the path of a name

rsplit-append : (q p : Text) (x : Split) → rsplit_once slash p ≡ Some x
    → rsplit_once slash (q ++ p) ≡ Some (record { before = q ++ x.before; behind = x.behind })
rsplit-append [] p x e = e
rsplit-append (b ∷ q) p x e = rw (rsplit-append q p x e)

starts-split : (p s : Text) → starts_with p s ≡ true → s ≡ p ++ drop (length p) s
unfolding starts_with
starts-split p s e =
    sym (take-append-drop (length p) s) ∙ ap (λ (l : Text). l ++ drop (length p) s) (same-eq (take (length p) s) p e)

-- what `parent_topic` cuts off is what is behind the path
cut-path : (t : Text) → starts_with segment_scheme t ≡ true → has_slash (drop 10 t) ≡ true
    → without_end (behind-length (rsplit_once slash t)) (strip-prefix segment_scheme t) ≡ before_last (drop 10 t)
cut-path t h k =
    let p : Text = drop 10 t in
    let n : ℕ = length (before_last p) in
    let s : rsplit_once slash p ≡ Some (at_last p) = rsplit-agrees p ∙ rw k in
    let e = ap (rsplit_once slash) (starts-split segment_scheme t h) ∙ rsplit-append segment_scheme p (at_last p) s in
    let f : strip-prefix segment_scheme t ≡ Some p = strip-agrees segment_scheme t ∙ rw h in
    let i = before-last-inside p k in
    let g : length p - (length (drop (n + 1) p) + 1) ≡ n = omega (arith, length-drop (n + 1) p) in
    ap₂ without_end (ap behind-length e) f ∙ ap (λ (m : ℕ). take m p) g ∙ before-last-take p

-- ---- the parent of a name

module _ (t : Text) (m : is_marked_name t ≡ false) where
  abbrev with_source : Result SegmentSource SegmentTopicError → Result Text SegmentTopicError
  with_source r = r >>= (λ made. Ok (parent-topic made))

  abbrev parent_read : std.Result (ℕ × KeyRange × SegmentId) Refusal → Result Text Refusal
  parent_read (std.Err x) = Err x
  parent_read (std.Ok (n, range, id)) = Ok (topic_scheme ++ take (n - 10) (drop 10 t))

  module _ (n : ℕ) (range : KeyRange) (id : SegmentId) (e : parse_segment_topic t ≡ std.Ok (n, range, id)) where
    own-id : map-err paper (SegmentSource-new id t) ≡ Ok (record { segment-id = id; topic = t; key-range = range })
    unfolding source_stage
    own-id = source-read id t m ∙ rw (e, eq-eqb id.0 id.0 refl)

    own-path : parent-topic (record { segment-id = id; topic = t; key-range = range }) ≡ topic_scheme ++ take (n - 10) (drop 10 t)
    own-path =
        let N = name-told t n range id e in
        let m : n - 10 ≡ length (before_last (drop 10 t)) = omega (arith, N.place) in
        ap (λ (l : Text). topic_scheme ++ l) (cut-path t N.scheme N.slash ∙ sym (rw m (before-last-take (drop 10 t))))

    own-parent : map-err paper (with_source (SegmentSource-new id t)) ≡ Ok (topic_scheme ++ take (n - 10) (drop 10 t))
    own-parent =
        map-err-bind paper (SegmentSource-new id t) (λ made. Ok (parent-topic made))
        ∙ ap (λ (r : Result SegmentSource Refusal). r >>= (λ made. Ok (parent-topic made))) own-id
        ∙ ap (λ (l : Text). Ok l) own-path

  parent-read : map-err paper (parent_of t) ≡ parent_read (parse_segment_topic t)
  parent-read =
      map-err-bind paper (parse-segment-topic t) (λ name. with_source (SegmentSource-new name.id t))
      ∙ ap (λ (r : Result ParsedTopic Refusal). r >>= own) (parse-agrees t m)
      ∙ go (parse_segment_topic t) refl
    where
      own : ParsedTopic → Result Text Refusal
      own name = map-err paper (with_source (SegmentSource-new name.id t))

      go : (x : std.Result (ℕ × KeyRange × SegmentId) Refusal) → parse_segment_topic t ≡ x → (read_of t x >>= own) ≡ parent_read x
      go (std.Err x) p = refl
      go (std.Ok (n, range, id)) p = own-parent n range id p

  parent-stage : (out : List ℕ) (x : std.Result (ℕ × KeyRange × SegmentId) Refusal) (r : Result Text SegmentTopicError) → map-err paper r ≡ parent_read x
      → Gives out (parent_outcome t out x) r
  unfolding parent_outcome
  parent-stage out (std.Err x) (Ok text) e = λ h. cc
  parent-stage out (std.Err x) (Err error) e = λ h. cc
  parent-stage out (std.Ok (n, range, id)) (Ok text) e =
      let path : Text = take (n - 10) (drop 10 t) in
      let q : text ≡ topic_scheme ++ path = cc in
      gives-by out (written (topic_scheme ++ path) out) (ap (λ (l : Text). Ok l) q) (gives-text (topic_scheme ++ path) out)
  parent-stage out (std.Ok (n, range, id)) (Err error) e = λ h. cc

pub parent-topic-agrees : ParentTopicAgrees
unfolding parent_topic parse_text parent_outcome
parent-topic-agrees t out u m = rw u (parent-stage t m out (parse_segment_topic t) (parent_of t) (parent-read t m))
