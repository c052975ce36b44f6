-- `difference::next_step` meets its contract: StepLaws has the answers.
-- Assumes nothing.
use Prim.Native.Nat.{ℕ, ◌+◌, ◌≤◌, ◌<◌}
use native.Mathlib.Omega.{arith}
use mathlib.Core.Path.{◌≡◌, sym, ap, ◌∙◌}
use mathlib.Core.Bool.{true, false, cond}
use lib.ListN.{length, drop}
use Rattle.packed.specs.Assignment.{decode_segment, decode_segments}
use Rattle.packed.proofs.AssignmentLaws.{size-least}
use Rattle.packed_diff.specs.Merge.{merge_step}
use Rattle.packed_diff.specs.declared.Step.TheVariants.{Keep, Same}
use Rattle.packed_diff.proofs.StepLaws.{step-below, step-above, step-first}
use Rattle.packed_diff.proofs.next_step.Goals as goal
use Rattle.packed_diff.proofs.next_step.Goals.{Else-n-eq0}

-- at least one record is left of y
some : (c : Else-n-eq0) → 0 < c.args.n
some c = let ne : c.args.n ≡ 0 → ⊥ = c.if-n-eq0.false in omega arith

-- the ids of both records are within their slices
within : (c : Else-n-eq0) → (c.args.p + 8 ≤ length c.args.x.now) × (c.args.q + 8 ≤ length c.args.y.now)
within c =
    let a = c.args in (
      omega (arith, c.requires.x_in_bounds, size-least (decode_segment (drop a.p a.x.now))),
      omega (arith, c.requires.y_in_bounds ((let it : (0 < c.args.n) = let ne : c.args.n ≡ 0 → ⊥ = c.if-n-eq0.false in omega arith in it)), size-least (decode_segment (drop a.q a.y.now))),
    )

pub returns-then-n-eq0 : goal.returns-then-n-eq0
unfolding merge_step decode_segments
returns-then-n-eq0 c =
    let a = c.args in
    ap (λ (n : ℕ). merge_step (decode_segment (drop a.p a.x.now)) (decode_segments n (drop a.q a.y.now))) (sym c.if-n-eq0.true)

pub id_at-own-requires : goal.id_at-own-requires
id_at-own-requires c = (within (goal.at.id_at-own-requires c).Else-n-eq0).0

pub id_at-other-requires : goal.id_at-other-requires
id_at-other-requires c = (within (goal.at.id_at-other-requires c).Else-n-eq0).1

pub returns-then-other-own : goal.returns-then-other-own
returns-then-other-own c =
    let a = c.args in
    step-below (decode_segment (drop a.p a.x.now)) a.y.now a.q a.n (some (goal.at.returns-then-other-own c).Else-n-eq0)
    (omega (arith, c.if-other-own.true, c.id_at-other.ensures, c.id_at-own.ensures))

pub returns-then-own-other : goal.returns-then-own-other
returns-then-own-other c =
    let a = c.args in
    step-above (decode_segment (drop a.p a.x.now)) a.y.now a.q a.n (some (goal.at.returns-then-own-other c).Else-n-eq0)
    (omega (arith, c.if-own-other.true, c.id_at-other.ensures, c.id_at-own.ensures))

pub same_record-requires : goal.same_record-requires
same_record-requires c =
    record { x_in_bounds = c.requires.x_in_bounds; y_in_bounds = c.requires.y_in_bounds (some (goal.at.same_record-requires c).Else-n-eq0) }

pub returns-then-same_record : goal.returns-then-same_record
returns-then-same_record c = (let it : (cond true Same Keep ≡ merge_step (decode_segment (drop c.args.p c.args.x.now)) (decode_segments c.args.n (drop c.args.q c.args.y.now))) = let a = c.args in
    step-first (decode_segment (drop a.p a.x.now)) a.y.now a.q a.n (some (goal.at.returns-then-same_record c).Else-n-eq0) true
    (omega (arith, c.if-other-own.false, c.id_at-other.ensures, c.id_at-own.ensures)) (sym c.same_record.ensures ∙ c.if-same_record.true) in it)

pub returns : goal.returns
returns c = (let it : (cond false Same Keep ≡ merge_step (decode_segment (drop c.args.p c.args.x.now)) (decode_segments c.args.n (drop c.args.q c.args.y.now))) = let a = c.args in
    step-first (decode_segment (drop a.p a.x.now)) a.y.now a.q a.n (some (goal.at.returns c).Else-n-eq0) false
    (omega (arith, c.if-other-own.false, c.id_at-other.ensures, c.id_at-own.ensures)) (sym c.same_record.ensures ∙ c.if-same_record.false) in it)
