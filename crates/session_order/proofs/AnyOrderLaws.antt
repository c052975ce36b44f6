-- The law of specs/SegmentOrder (`any_order`).
--
-- In order: results that are equal or refusals both (`AlikeResult`), on bytes (`effects-alike`); an assignment's values
-- (`assignment-alike`); update and response, from the inside out.
-- Assumes nothing.
use Rattle.std.specs.Prelude as std
use Rattle.std.specs.Prelude.{⊤, Ok, Err}
use Prim.Native.Nat.{ℕ}
use mathlib.Core.Path.{◌≡◌, refl, ap}
use mathlib.Core.Bool.{Bool, true, false, cond, not, true≢false, false≢true}
use mathlib.Core.List.{List}
use lib.ListN.{length}
use lib.Dec.{ltb, eqb}
use Rattle.topic_types.specs.declared.ControllerIncarnation.{ControllerIncarnation}
use Rattle.refusal.specs.declared.Refusal.{Refusal}
use Rattle.refusal.specs.declared.Refusal.TheVariants.{StoreTooShort, OutputTooShort, MalformedStore}
use Rattle.refusal.specs.declared.Refusal.TheVariants.{IncarnationMismatch, ConsumerMismatch}
use Rattle.wire_schema.specs.declared.MessageKind.TheVariants.{CommandScalableTopicAssignmentUpdate}
use Rattle.wire_schema.specs.declared.MessageKind.TheVariants.{CommandScalableTopicSubscribeResponse}
use Rattle.wire_schema.specs.FirstFault.{first_fault}
use Rattle.wire.specs.Fields.{Field, fields_of}
use Rattle.wire_values.specs.Values.{numbers_of, parts_of, present, last_of, merged_fields, or_zero, number_in}
use Rattle.wire_readers.specs.Messages.{read_segment, read_assignment, update_of, response_of}
use Rattle.intake_content.specs.Content.{Content, content_of}
use Rattle.session.specs.Store.{min_store, min_output}
use Rattle.session.specs.Session.{Session, view, Result, damaged, refuse}
use Rattle.session.specs.Update.{update_call}
use Rattle.session.specs.Tails.{update_content, update_valid, update_checked, response_assignment, response_content, response_valid, response_checked}
use Rattle.session.specs.Response.{response_call}
use Rattle.session.specs.Calls.{effect_of, update_outcome, response_outcome}
use Rattle.session_order.specs.SegmentOrder.{Reordered, Rearranged, SameUpdate, SameResponse, Alike, AnyOrder}
use Rattle.keyed.proofs.ShuffleLaws.{shuffled-map}
use Rattle.session_order.proofs.RowLaws.{numbers-reordered, parts-reordered}
use Rattle.session_order.proofs.RowLaws.{numbers-rearranged, present-rearranged, merged-rearranged}
use Rattle.session_order.proofs.FaultOrder.{ok, ok-update, ok-response}
use Rattle.intake_content.proofs.ContentOrder.{AlikeContent, content-shuffled}

-- ---- results

data AlikeResult (s : Session) (x y : Result) : Type 0 where
  equal : x ≡ y → AlikeResult s x y
  refusals : (a b : Refusal) → x ≡ refuse a s → y ≡ refuse b s → AlikeResult s x y

effects-alike : (s : Session) (x y : Result) (store out : List ℕ) → AlikeResult s x y
    → Alike (effect_of x store out) (effect_of y store out)
effects-alike s x y store out (AlikeResult.equal e) = record { accepted = rw e; outcome = λ h. rw e }
effects-alike s x y store out (AlikeResult.refusals a b e f) =
    record { accepted = rw (e, f); outcome = λ h. absurd (false≢true (rw e at h)) }

module _ (s : Session) where
  -- a test before both
  alike-cond : (t : Bool) (z x y : Result) → AlikeResult s x y → AlikeResult s (cond t z x) (cond t z y)
  alike-cond true z x y h = AlikeResult.equal refl
  alike-cond false z x y h = h

-- ---- an assignment's values

number-alike : (n : ℕ) (fs gs : List Field) → numbers_of n fs ≡ numbers_of n gs → number_in n fs ≡ number_in n gs
number-alike n fs gs e = ap (λ (l : List ℕ). or_zero (last_of l)) e

row-alike : (parent : List ℕ) (fs gs : List Field) → Reordered fs gs
    → AlikeContent (content_of parent (read_assignment fs)) (content_of parent (read_assignment gs))
unfolding read_assignment
row-alike parent fs gs r =
    content-shuffled parent (read_assignment fs) (read_assignment gs) (number-alike 1 fs gs (numbers-reordered 1 r))
    (shuffled-map read_segment (parts-reordered r))

-- the assignments that two messages have in field a
abbrev content_in : List ℕ → ℕ → List ℕ → Content
content_in parent a m = content_of parent (read_assignment (merged_fields a (fields_of m)))

assignment-alike : (parent : List ℕ) (a : ℕ) (m n : List ℕ) → Rearranged a (fields_of m) (fields_of n)
    → AlikeContent (content_in parent a m) (content_in parent a n)
assignment-alike parent a m n r =
    row-alike parent (merged_fields a (fields_of m)) (merged_fields a (fields_of n)) (merged-rearranged a r)

-- ---- update

module _ (s : Session) (incarnation : ControllerIncarnation) where
  -- 23
  abbrev other_link : Bool
  other_link = not (eqb incarnation.0 s.state.incarnation.0)

  abbrev link_refused : Result
  link_refused = refuse (IncarnationMismatch incarnation s.state.incarnation) s

  update-content : (c d : Content) → AlikeContent c d → AlikeResult s (update_content s c) (update_content s d)
  unfolding update_content
  update-content c d (AlikeContent.equal e) = AlikeResult.equal (ap (update_content s) e)
  update-content c d (AlikeContent.refusals x y e f) = AlikeResult.refusals x y (rw e) (rw f)

  update-valid : (m n : List ℕ) → SameUpdate m n
      → AlikeResult s (update_valid s incarnation (update_of m)) (update_valid s incarnation (update_of n))
  unfolding update_valid update_of
  update-valid m n r =
      let k : ℕ = number_in 1 (fields_of n) in
      let i : number_in 1 (fields_of m) ≡ k = number-alike 1 (fields_of m) (fields_of n) (numbers-rearranged 1 r) in
      let c = update-content _ _ (assignment-alike s.topic 2 m n r) in
      let x : Refusal = ConsumerMismatch k s.state.consumer_id in
      alike-cond s other_link link_refused _ _
      (rw i (alike-cond s (not (eqb k s.state.consumer_id)) (refuse x s) _ _ c))

  update-checked : (m n : List ℕ) → SameUpdate m n → (c d : std.Result ⊤ Refusal) → ok c ≡ ok d
      → AlikeResult s (update_checked s incarnation m c) (update_checked s incarnation n d)
  update-checked m n r (Ok _) (Ok _) e = update-valid m n r
  update-checked m n r (Ok _) (Err y) e = absurd (true≢false e)
  update-checked m n r (Err x) (Ok _) e = absurd (false≢true e)
  update-checked m n r (Err x) (Err y) e = AlikeResult.refusals x y refl refl

  update-call : (m n : List ℕ) → SameUpdate m n → (output : ℕ)
      → AlikeResult s (update_call s m incarnation output) (update_call s n incarnation output)
  unfolding update_call update_valid content_of update_content
  update-call m n r output =
      let fault : List ℕ → (std.Result ⊤ Refusal) = first_fault CommandScalableTopicAssignmentUpdate in
      alike-cond s (ltb s.size min_store) (refuse StoreTooShort s) _ _
      (alike-cond s (ltb output min_output) (refuse OutputTooShort s) _ _
      (alike-cond s (damaged s) (refuse MalformedStore s) _ _
      (update-checked m n r (fault m) (fault n) (ok-update m n r))))

  -- ---- response

  response-content : (c d : Content) → AlikeContent c d → AlikeResult s (response_content s c) (response_content s d)
  unfolding response_content
  response-content c d (AlikeContent.equal e) = AlikeResult.equal (ap (response_content s) e)
  response-content c d (AlikeContent.refusals x y e f) = AlikeResult.refusals x y (rw e) (rw f)

  -- there is an assignment in both, or in neither: then both are 16 or 17
  response-given : (t u : Bool) → t ≡ u → (x y : Result) → AlikeResult s x y → (a b : Refusal)
      → AlikeResult s (cond t x (refuse a s)) (cond u y (refuse b s))
  response-given true true e x y h a b = h
  response-given true false e x y h a b = absurd (true≢false e)
  response-given false true e x y h a b = absurd (false≢true e)
  response-given false false e x y h a b = AlikeResult.refusals a b refl refl

  response-valid : (m n : List ℕ) → SameResponse m n
      → AlikeResult s (response_valid s incarnation (response_of m)) (response_valid s incarnation (response_of n))
  unfolding response_valid response_of
  response-valid m n r =
      let c = response-content _ _ (assignment-alike s.topic 4 m n r) in
      let given : List ℕ → Bool = λ l. present (parts_of 4 (fields_of l)) in
      alike-cond s other_link link_refused _ _ (response-given (given m) (given n) (present-rearranged 4 r) _ _ c _ _)

  response-checked : (m n : List ℕ) → SameResponse m n → (c d : std.Result ⊤ Refusal) → ok c ≡ ok d
      → AlikeResult s (response_checked s incarnation m c) (response_checked s incarnation n d)
  response-checked m n r (Ok _) (Ok _) e = response-valid m n r
  response-checked m n r (Ok _) (Err y) e = absurd (true≢false e)
  response-checked m n r (Err x) (Ok _) e = absurd (false≢true e)
  response-checked m n r (Err x) (Err y) e = AlikeResult.refusals x y refl refl

  response-call : (m n : List ℕ) → SameResponse m n
      → AlikeResult s (response_call s m incarnation) (response_call s n incarnation)
  unfolding response_call response_valid content_of response_content response_assignment
  response-call m n r =
      let fault : List ℕ → (std.Result ⊤ Refusal) = first_fault CommandScalableTopicSubscribeResponse in
      alike-cond s (ltb s.size min_store) (refuse StoreTooShort s) _ _
      (alike-cond s (damaged s) (refuse MalformedStore s) _ _
      (response-checked m n r (fault m) (fault n) (ok-response m n r)))

-- ---- the law

pub any_order : AnyOrder
unfolding update_outcome response_outcome
any_order =
    record {
      updates = λ m n r state store incarnation out.
          let s : Session = view state store in
          effects-alike s _ _ store out (update-call s incarnation m n r (length out));
      responses = λ m n r state store incarnation out.
          let s : Session = view state store in
          effects-alike s _ _ store out (response-call s incarnation m n r);
    }
