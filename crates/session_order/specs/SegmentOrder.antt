-- Public: "The broker may list segments in any order" (02 g): a law of the calls update and response, over any bytes.
--
-- Two messages "differ only in the order of their segments" where their rows of fields are the same except for their
-- assignments, and the rows of the assignments are the same except for the places of the segments: a segment's field
-- changes places with the field next to it, whatever that is, any number of times. So the segments come in any order
-- and stand anywhere between the epoch and unknown fields; all other fields keep their order, and each segment's part
-- is the same byte by byte. Nothing else is asked: the messages may be broken or refused. Rows are those of `fields_of`,
-- so how many bytes a key or a length takes is not looked at.
--
-- Proved in proofs/AnyOrderLaws. specs/Written says that what a broker writes is covered, specs/Rows has an example.
-- Assumes nothing.
use Rattle.std.specs.Prelude.{ℕ, ◌≡◌, true, List, [], ◌∷◌}
use Rattle.topic_types.specs.declared.ControllerIncarnation.{ControllerIncarnation}
use Rattle.wire.specs.declared.WireType.TheVariants as type
use Rattle.wire.specs.Fields.{bytes, Field, field, fields_of}
use Rattle.session.specs.declared.SessionRecord.{SessionRecord}
use Rattle.session.specs.Calls.{CallOutcome, update_outcome, response_outcome}
use Rattle.session.specs.Trace.{is_accepted}

-- ---- messages that differ only in the order of their segments

-- a segment's field in an assignment
abbrev pub segment : List ℕ → Field
segment p = field 2 type.Len (bytes p)

-- the rows of two assignments
pub data Reordered : List Field → List Field → Type 0 where
  end : Reordered [] []
  same : (x : Field) {fs gs : List Field} → Reordered fs gs → Reordered (x ∷ fs) (x ∷ gs)
  later : (p : List ℕ) (x : Field) (fs : List Field) → Reordered (segment p ∷ x ∷ fs) (x ∷ segment p ∷ fs)
  earlier : (p : List ℕ) (x : Field) (fs : List Field) → Reordered (x ∷ segment p ∷ fs) (segment p ∷ x ∷ fs)
  then : {fs gs hs : List Field} → Reordered fs gs → Reordered gs hs → Reordered fs hs

-- the rows of two messages that have their assignments in field a
pub data Rearranged (a : ℕ) : List Field → List Field → Type 0 where
  end : Rearranged a [] []
  same : (x : Field) {fs gs : List Field} → Rearranged a fs gs → Rearranged a (x ∷ fs) (x ∷ gs)
  assignment : (p q : List ℕ) {fs gs : List Field} → Reordered (fields_of p) (fields_of q) → Rearranged a fs gs
      → Rearranged a (field a type.Len (bytes p) ∷ fs) (field a type.Len (bytes q) ∷ gs)

-- two updates, two responses
abbrev pub SameUpdate : (m n : List ℕ) → Type 0
SameUpdate m n = Rearranged 2 (fields_of m) (fields_of n)

abbrev pub SameResponse : (m n : List ℕ) → Type 0
SameResponse m n = Rearranged 4 (fields_of m) (fields_of n)

-- ---- what is claimed of them

-- "one is accepted exactly if the other is"; "accepted, both give the same baseline or delta and leave the same store
-- and record": answer, record, store and output are equal. "Which refusal is named may differ."
pub record Alike (x y : CallOutcome) : Type 0 where
  pub accepted : is_accepted x.answer ≡ is_accepted y.answer
  pub outcome : is_accepted x.answer ≡ true → x ≡ y

-- "given the same session, store, output and call numbers": r, store, out and incarnation
pub record AnyOrder : Type 0 where
  pub updates : (m n : List ℕ) → SameUpdate m n
      → (r : SessionRecord) (store : List ℕ) (incarnation : ControllerIncarnation) (out : List ℕ)
      → Alike (update_outcome r store m incarnation out) (update_outcome r store n incarnation out)
  pub responses : (m n : List ℕ) → SameResponse m n
      → (r : SessionRecord) (store : List ℕ) (incarnation : ControllerIncarnation) (out : List ℕ)
      → Alike (response_outcome r store m incarnation out) (response_outcome r store n incarnation out)
