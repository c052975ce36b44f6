-- What is written can be read (`written-reads`): an answer `Written` says that each test before it was passed
-- (`passed`, by `from-test`, `from-inside`, `from-parent`, `from-room`) and what stands at the output's front
-- (`front`), and what passed them reads back.
-- Assumes nothing.
use Rattle.std.specs.Prelude.{Option, Some, None, Ok, Err}
use Prim.Native.Nat.{ℕ, ◌≤◌, ◌<◌, ◌^◌}
use native.Mathlib.Omega.{arith}
use mathlib.Core.Logic.{◌⊎◌, inl, inr}
use mathlib.Core.Path.{◌≡◌, refl, sym, ap, ◌∙◌, subst}
use mathlib.Core.Bool.{Bool, true, false, cond}
use mathlib.Core.List.{List, [], ◌∷◌}
use lib.ListN.{length, take}
use lib.Dec.{leb}
use borrow.Author.Tests.{leb-true}
use Rattle.slice.specs.BoolLaws.{both_true}
use Rattle.refusal.specs.declared.Refusal.{Refusal}
use Rattle.refusal.specs.declared.Refusal.TheVariants.{MalformedInput, InvalidUtf8, InvalidParent, ResultTooLong}
use Rattle.refusal.specs.Steps.{refuse_due}
use Rattle.slice_int.specs.Put.{put}
use Rattle.slice_int.proofs.PutLaws.{take_put}
use Rattle.utf8.specs.Table.{is_utf8}
use Rattle.name_parents.specs.Parents.{is_parent, path_of}
use Rattle.output.specs.Output.{Outcome, outcome, refuse, unwritten, written}
use Rattle.packed.specs.Assignment.{AssignedSegment, ConsumerAssignment, size_assignment, ok_assignment, decode_assignment, starts_assignment, is_assignment}
use Rattle.packed.proofs.RoundLaws.{fit-assignment}
use Rattle.intake_content.specs.Content.{outside_in}
use Rattle.writer_message.specs.Message.{assignment_message}
use Rattle.writer_message.proofs.ReadBack as back
use Rattle.writer.specs.Write.{with_parent, write_outcome}
use Rattle.writer.specs.Read.{Reads, WrittenReads}

no-refusal : {A : Type 0} {x : Refusal} {n : ℕ} → Err x ≡ Ok n → A
no-refusal e = let z : ◌≡◌ {A = ℕ} 0 1 = cc in absurd (omega arith)

module _ (o : List ℕ) (n : ℕ) where
  from-test : (t : Bool) (r : Outcome) (x : Refusal) → (cond t r (refuse x o)).answer ≡ Ok n → (t ≡ true) × (r.answer ≡ Ok n)
  from-test true r x e = (refl, e)
  from-test false r x e = no-refusal e

  from-inside : (v : Option Refusal) (r : Outcome) → (refuse_due (unwritten o) v r).answer ≡ Ok n → (v ≡ None) × (r.answer ≡ Ok n)
  from-inside None r e = (refl, e)
  from-inside (Some x) r e = no-refusal e

  from-parent : (parent : List ℕ) (gs : List AssignedSegment) (r : Outcome) → (with_parent o parent gs r).answer ≡ Ok n
      → ((gs ≡ []) ⊎ ((is_parent parent ≡ true) × (is_utf8 parent ≡ true))) × (r.answer ≡ Ok n)
  from-parent parent [] r e = (inl refl, e)
  from-parent parent (g ∷ gs) r e =
      let u = from-test (is_utf8 parent) (cond (is_parent parent) r (refuse InvalidParent o)) InvalidUtf8 e in
      let p = from-test (is_parent parent) r InvalidParent u.1 in
      (inr (p.0, u.0), p.1)

  from-room : (m : List ℕ) → (written m o).answer ≡ Ok n → length m ≤ length o
  unfolding written
  from-room m e =
      leb-true (length m) (length o)
      (from-test (leb (length m) (length o)) (outcome (Ok (length m)) (put o 0 m)) ResultTooLong e).0

-- what an answer `Written` says of the bytes, the parent and the output
pub record Passed (s parent o : List ℕ) : Type 0 where
  pub ok : ok_assignment (decode_assignment s) ≡ true
  pub inside : outside_in (decode_assignment s).segments ≡ None
  pub named : ((decode_assignment s).segments ≡ []) ⊎ ((is_parent parent ≡ true) × (is_utf8 parent ≡ true))
  pub room : length (assignment_message (path_of parent) (decode_assignment s)) ≤ length o
  pub is : write_outcome s parent o ≡ written (assignment_message (path_of parent) (decode_assignment s)) o

module _ (s parent o : List ℕ) where
  abbrev a : ConsumerAssignment
  a = decode_assignment s

  abbrev message : List ℕ
  message = assignment_message (path_of parent) a

  behind-parent : (gs : List AssignedSegment) (r : Outcome) → (gs ≡ []) ⊎ ((is_parent parent ≡ true) × (is_utf8 parent ≡ true))
      → with_parent o parent gs r ≡ r
  behind-parent [] r h = refl
  behind-parent (g ∷ gs) r (inl e) = cc
  behind-parent (g ∷ gs) r (inr p) = rw (p.1, p.0)

  pub passed : (n : ℕ) → (write_outcome s parent o).answer ≡ Ok n → Passed s parent o
  unfolding write_outcome is_assignment starts_assignment
  passed n e =
      let below_all : Outcome = with_parent o parent a.segments (written message o) in
      let sheet = from-test o n (is_assignment s) (refuse_due (unwritten o) (outside_in a.segments) below_all) MalformedInput e in
      let inner = from-inside o n (outside_in a.segments) below_all sheet.1 in
      let below = from-parent o n parent a.segments (written message o) inner.1 in
      let starts = (both_true (starts_assignment s) _ sheet.0).0 in
      record {
        ok = (both_true (leb (size_assignment a) (length s)) (ok_assignment a) starts).1;
        inside = inner.0;
        named = below.0;
        room = from-room o n message below.1;
        is = rw (sheet.0, inner.0) (behind-parent a.segments (written message o) below.0);
      }

  -- what stands at the output's front
  pub front : (n : ℕ) → Passed s parent o → (write_outcome s parent o).answer ≡ Ok n
      → take n (write_outcome s parent o).out ≡ assignment_message (path_of parent) (decode_assignment s)
  unfolding written
  front n p e = go (leb (length message) (length o)) refl
    where
      go : (t : Bool) → leb (length message) (length o) ≡ t → take n (write_outcome s parent o).out ≡ message
      go true h =
          let w : write_outcome s parent o ≡ outcome (Ok (length message)) (put o 0 message) = p.is ∙ rw h in
          let k : Ok (length message) ≡ Ok n = sym (ap (λ (x : Outcome). x.answer) w) ∙ e in
          let z : length message ≡ n = cc in
          ap (λ (x : Outcome). take n x.out) w ∙ ap (λ (m : ℕ). take m (put o 0 message)) (sym z) ∙ take_put o 0 message (omega arith)
      go false h =
          let w : write_outcome s parent o ≡ refuse ResultTooLong o = p.is ∙ rw h in
          no-refusal (sym (ap (λ (x : Outcome). x.answer) w) ∙ e)

pub written-reads : WrittenReads
written-reads s parent o n b short e =
    let p = passed s parent o n e in
    let a : ConsumerAssignment = decode_assignment s in
    let m : List ℕ = assignment_message (path_of parent) a in
    let f = fit-assignment s b in
    let l : length m < 2 ^ 64 = omega (arith, p.room) in
    subst (λ (w : List ℕ). Reads parent w a) (sym (front s parent o n p e))
    (record {
      update-valid = λ consumer c. back.update-valid parent a f p.ok p.inside p.named l consumer c;
      update-taken = λ consumer c. back.update-back parent a f p.ok p.inside p.named l consumer c;
      response-valid = λ request r. back.response-valid parent a f p.ok p.inside p.named l request r;
      response-taken = λ request r. back.response-back parent a f p.ok p.inside p.named l request r;
    })
