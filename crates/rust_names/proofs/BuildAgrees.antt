-- The name builder is the Rust's `KeyRange::new` and `canonical_segment_topic` (`build-agrees`).
-- Assumes nothing.
use Rattle.std.specs.Prelude as std
use Prim.Native.Nat.{ℕ}
use mathlib.Core.Path.{◌≡◌, refl, sym, ap, subst}
use mathlib.Core.Bool.{Bool, true, false, cond}
use mathlib.Core.List.{List}
use Rattle.topic_types.specs.declared.KeyRange.{KeyRange}
use Rattle.topic_types.specs.declared.KeyRangeError.{KeyRangeError}
use Rattle.topic_types.specs.declared.SegmentId.{SegmentId}
use Rattle.topic_types.specs.KeyRanges.{new_key_range}
use Rattle.refusal.specs.declared.Refusal.TheVariants as refusal
use Rattle.name_parents.specs.Parents.{is_parent, path_of}
use Rattle.name_topic.specs.Names.{segment_topic}
use Rattle.name_topic.specs.Build.{NameOutcome, refuse, written, build_name, canonical_segment_topic}
use Rattle.rust_magnetar.specs.Result.{Result, Ok, Err, ◌>>=◌, map-err}
use Rattle.rust_magnetar.specs.Text.{Text}
use Rattle.rust_magnetar.specs.SegmentTopic.{SegmentTopicError, InvalidParent, InvalidRange, canonical-segment-topic}
use Rattle.rust_names.specs.Agree.{range_of, is_marked, outcome_of, fits, BuildAgrees}
use Rattle.rust_names.proofs.ParentAgrees.{segment-topic-agrees}
use Rattle.rust_names.proofs.RangeAgrees.{new-agrees, valid-made}

-- a call with the outcome x, whose result in the Rust is r
abbrev pub Gives : List ℕ → NameOutcome → Result Text SegmentTopicError → Type 0
Gives out x r = fits out r ≡ true → x ≡ outcome_of out r

pub gives-by : (out : List ℕ) (x : NameOutcome) {r s : Result Text SegmentTopicError} → r ≡ s → Gives out x s → Gives out x r
gives-by out x e g = subst (Gives out x) (sym e) g

-- a text that fits is written
pub gives-text : (text out : List ℕ) → Gives out (written text out) (Ok text)
unfolding written
gives-text text out h = rw h

-- the builder's call behind `KeyRange::new`
abbrev behind_range : Text → SegmentId → Result KeyRange KeyRangeError → Result Text SegmentTopicError
behind_range parent id r = map-err InvalidRange r >>= (λ range. canonical-segment-topic parent range id)

module _ (parent : Text) (id : SegmentId) (out : List ℕ) (m : is_marked parent ≡ false) where
  abbrev name : KeyRange → Text
  name range = segment_topic (path_of parent) range id

  -- 12
  parent-stage : (range : KeyRange) (u : Bool)
      → Gives out (cond u (written (name range) out) (refuse refusal.InvalidParent out))
      (cond u (Ok (name range)) (Err (InvalidParent parent)))
  parent-stage range true = gives-text (name range) out
  parent-stage range false = λ h. refl

  -- 9
  range-stage : (s e : ℕ) (x : std.Result KeyRange KeyRangeError) → new_key_range s e ≡ x → Gives out (build_name parent x id out) (behind_range parent id (range_of x))
  unfolding build_name
  range-stage s e (std.Err error) p = λ h. refl
  range-stage s e (std.Ok range) p =
      gives-by out _ (segment-topic-agrees parent range id m (valid-made s e range p)) (parent-stage range (is_parent parent))

pub build-agrees : BuildAgrees
unfolding canonical_segment_topic build_name
build-agrees parent s e id out u m =
    let x : NameOutcome = build_name parent (new_key_range s e) id out in
    rw u (gives-by out x (ap (behind_range parent id) (new-agrees s e)) (range-stage parent id out m s e (new_key_range s e) refl))
