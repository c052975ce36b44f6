-- The reply of a refusal from its number and its values, and that the refusals which the program answers by one arm have no values.
-- Assumes nothing.
use Prim.Native.Nat.{ℕ, ◌+◌, ◌^◌, ◌≤◌, ◌<◌}
use native.Mathlib.Numerals.{add-one}
use native.Mathlib.Omega.{arith}
use mathlib.Core.Path.{◌≡◌, refl, sym, ap, ap₂, subst, ◌∙◌}
use mathlib.Core.List.{List, [], ◌∷◌}
use lib.IntN.{ℤ, pos}
use lib.ListN.{length}
use lib.Signed.{mag}
use mir.Syntax.{w32}
use mir.Val.{to_z, of_z}
use mir.Facts.{to_z-of_z}
use Rattle.topic_types.specs.declared.SegmentId.{SegmentId}
use Rattle.topic_types.specs.declared.ControllerIncarnation.{ControllerIncarnation}
use Rattle.topic_types.specs.declared.KeyRangeError.{KeyRangeError}
use Rattle.topic_types.specs.declared.KeyRangeError.TheVariants.{StartOutOfBounds, EndOutOfBounds, Reversed}
use Rattle.topic_types.specs.KeyRanges.{error_kind, error_numbers}
use Rattle.refusal.specs.declared.Refusal.{Refusal}
use Rattle.refusal.specs.declared.Refusal.TheVariants as refusal
use Rattle.refusal.specs.Refusals.{number_of, values_of, source_values}
use Rattle.export_reply.specs.declared.Reply.{Reply}
use Rattle.export_reply.specs.Replies.{word_of, word_at, reply_with, refused_reply}

-- a refusal's reply, part by part
abbrev pub plain_reply : ℕ → ℕ → ℕ → ℕ → ℕ → ℕ → Reply
plain_reply n count a b d e = record { answer = 0; number = n; count = count; first = a; second = b; third = d; fourth = e }

pub refused-reply : (x : Refusal) {n : ℕ} {vs : List ℤ} → n ≡ number_of x → values_of x ≡ vs → reply_with 0 n vs ≡ refused_reply x
unfolding refused_reply
refused-reply x e f = ap₂ (reply_with 0) e (sym f)

-- a refused range has at most three values
pub source-count : (s : KeyRangeError) (n : ℕ) {r : Reply} → r ≡ reply_with 0 n (source_values s) → r.count ≤ 3
unfolding reply_with error_kind error_numbers
source-count (StartOutOfBounds start) n e = subst (λ (r : Reply). r.count ≤ 3) (sym e) (omega arith)
source-count (EndOutOfBounds end) n e = subst (λ (r : Reply). r.count ≤ 3) (sym e) (omega arith)
source-count (Reversed start end) n e = subst (λ (r : Reply). r.count ≤ 3) (sym e) (omega arith)

-- the reply with one more value before its own, of which it has at most three
pub reply-behind : (n id : ℕ) (vs : List ℤ) {r : Reply} → r ≡ reply_with 0 n vs
    → plain_reply n (r.count + 1) id r.first r.second r.third ≡ reply_with 0 n (pos id ∷ vs)
unfolding reply_with word_at word_of
reply-behind n id vs e =
    ap (λ (r : Reply). plain_reply n (r.count + 1) id r.first r.second r.third) e
    ∙ ap (λ (k : ℕ). plain_reply n k id (word_at 0 vs) (word_at 1 vs) (word_at 2 vs)) (add-one (length vs))

-- the word of an integer that the program handed over as its 32 bits
word_back : {w : ℕ} (v : ℤ) → mag v < 2 ^ 31 → w ≡ word_of (to_z w32 (of_z w32 v)) → w ≡ word_of v
word_back v h e = e ∙ ap word_of (to_z-of_z {w = w32} (record { sfits = h }))

pub broker-reply :
    {x : Refusal} {n w : ℕ} {code : ℤ} → n ≡ number_of x → x ≡ refusal.Broker code → mag code < 2 ^ 31 → w ≡ word_of (to_z w32 (of_z w32 code)) →
    plain_reply n 1 w 0 0 0 ≡ refused_reply x
unfolding reply_with word_at
broker-reply {x = x} {n = n} {code = code} e f h p =
    ap (λ (w : ℕ). plain_reply n 1 w 0 0 0) (word_back code h p) ∙ refused-reply x e (ap values_of f)

pub bucket-reply :
    {x : Refusal} {n s e index : ℕ} {id : SegmentId} {start end : ℤ} → n ≡ number_of x → x ≡ refusal.InvalidBucketRange id index start end →
    mag start < 2 ^ 31 → mag end < 2 ^ 31 → s ≡ word_of (to_z w32 (of_z w32 start)) → e ≡ word_of (to_z w32 (of_z w32 end)) →
    plain_reply n 4 id.0 index s e ≡ refused_reply x
unfolding reply_with word_at word_of
bucket-reply {x = x} {n = n} {index = index} {id = id} {start = start} {end = end} e f h k p q =
    ap₂ (plain_reply n 4 id.0 index) (word_back start h p) (word_back end k q) ∙ refused-reply x e (ap values_of f)

-- that a refusal is of a variant without values
pub record IsBare (x : Refusal) : Type 0 where
  pub invalid_range : (a : SegmentId) (b : KeyRangeError) → x ≡ refusal.InvalidRange a b → ⊥
  pub invalid_key_range : (a : KeyRangeError) → x ≡ refusal.InvalidKeyRange a → ⊥
  pub invalid_bucket_range : (a : SegmentId) (b : ℕ) (d : ℤ) (e : ℤ) → x ≡ refusal.InvalidBucketRange a b d e → ⊥
  pub overlapping : (a : SegmentId) → x ≡ refusal.OverlappingBucketRanges a → ⊥
  pub attachment : (a : SegmentId) → x ≡ refusal.AttachmentMismatch a → ⊥
  pub duplicate : (a : SegmentId) → x ≡ refusal.DuplicateSegment a → ⊥
  pub broker : (a : ℤ) → x ≡ refusal.Broker a → ⊥
  pub empty : (a : ℕ) → x ≡ refusal.Empty a → ⊥
  pub empty_update : (a : ℕ) → x ≡ refusal.EmptyUpdate a → ⊥
  pub segment_id : (a : SegmentId) (b : SegmentId) → x ≡ refusal.SegmentIdMismatch a b → ⊥
  pub incarnation : (a : ControllerIncarnation) (b : ControllerIncarnation) → x ≡ refusal.IncarnationMismatch a b → ⊥
  pub consumer : (a : ℕ) (b : ℕ) → x ≡ refusal.ConsumerMismatch a b → ⊥
  pub non_advancing : (a : ControllerIncarnation) (b : ControllerIncarnation) → x ≡ refusal.NonAdvancingIncarnation a b → ⊥
  pub regression : (a : ℕ) (b : ℕ) → x ≡ refusal.CrossIncarnationEpochRegression a b → ⊥
  pub stale : (a : ℕ) (b : ℕ) → x ≡ refusal.StaleEpoch a b → ⊥
  pub buffer_full : (a : ℕ) → x ≡ refusal.PreBaselineBufferFull a → ⊥
  pub watch : (a : ℕ) (b : ℕ) → x ≡ refusal.WatchMismatch a b → ⊥
  pub outside : (a : SegmentId) (b : ℕ) → x ≡ refusal.BucketOutsideSegment a b → ⊥

pub no-values : (x : Refusal) → IsBare x → values_of x ≡ []
no-values refusal.StoreTooShort h = refl
no-values refusal.OutputTooShort h = refl
no-values refusal.InvalidWireFormat h = refl
no-values refusal.WrongWireType h = refl
no-values refusal.MissingField h = refl
no-values refusal.InvalidUtf8 h = refl
no-values refusal.IdentityTooLong h = refl
no-values (refusal.InvalidRange a b) h = absurd (h.invalid_range a b refl)
no-values (refusal.InvalidKeyRange a) h = absurd (h.invalid_key_range a refl)
no-values (refusal.InvalidBucketRange a b d e) h = absurd (h.invalid_bucket_range a b d e refl)
no-values (refusal.OverlappingBucketRanges a) h = absurd (h.overlapping a refl)
no-values refusal.InvalidParent h = refl
no-values (refusal.AttachmentMismatch a) h = absurd (h.attachment a refl)
no-values (refusal.DuplicateSegment a) h = absurd (h.duplicate a refl)
no-values refusal.AssignmentTooLong h = refl
no-values (refusal.Broker a) h = absurd (h.broker a refl)
no-values (refusal.Empty a) h = absurd (h.empty a refl)
no-values (refusal.EmptyUpdate a) h = absurd (h.empty_update a refl)
no-values refusal.InvalidSegment h = refl
no-values (refusal.SegmentIdMismatch a b) h = absurd (h.segment_id a b refl)
no-values refusal.MalformedInput h = refl
no-values refusal.ResultTooLong h = refl
no-values refusal.MalformedStore h = refl
no-values (refusal.IncarnationMismatch a b) h = absurd (h.incarnation a b refl)
no-values (refusal.ConsumerMismatch a b) h = absurd (h.consumer a b refl)
no-values (refusal.NonAdvancingIncarnation a b) h = absurd (h.non_advancing a b refl)
no-values (refusal.CrossIncarnationEpochRegression a b) h = absurd (h.regression a b refl)
no-values (refusal.StaleEpoch a b) h = absurd (h.stale a b refl)
no-values (refusal.PreBaselineBufferFull a) h = absurd (h.buffer_full a refl)
no-values (refusal.WatchMismatch a b) h = absurd (h.watch a b refl)
no-values refusal.MalformedSet h = refl
no-values refusal.SetTooLong h = refl
no-values refusal.KeyTooLong h = refl
no-values refusal.UnknownReader h = refl
no-values (refusal.BucketOutsideSegment a b) h = absurd (h.outside a b refl)
no-values refusal.InvalidContract h = refl
no-values refusal.ChargeTooLarge h = refl
no-values refusal.InvalidLog h = refl
no-values refusal.InvalidWindow h = refl
no-values refusal.MalformedSave h = refl
