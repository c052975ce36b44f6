-- `scan` meets its contract, by recursion on the depth. Each answer below cites a law of proofs/ScanLaws at the place's numbers.
-- Assumes nothing.
use Rattle.std.proofs.lemmas.Result.{err_from_is_err_and}
use Rattle.std.specs.Prelude.{Result, Ok, Err}
use Rattle.std.proofs.Common.{◌≡◌, ℕ, sym, ap, subst, ◌∙◌, arith}
use Rattle.wire_field_step.specs.declared.Step.{Step}
use Rattle.wire_field_step.specs.declared.Step.TheVariants as step
use Rattle.wire_messages.proofs.ScanLaws.{scanned-start, StepAt, FieldAt, field_at, end-at}
use Rattle.wire_messages.proofs.+scan.Goals.{After-read_field-field}
use Rattle.wire_messages.proofs.+scan.Goals as goal
use Rattle.refusal.specs.declared.Refusal.{Refusal}

module _ (t : ℕ) where
  -- a field is read
  read : (c : After-read_field-field t) → FieldAt c.loop-at.invariant c.read_field-field.result
  read c = field_at c.loop-at.invariant c.loop-at-test.true _ c.read_field-field.ensures

  -- what stands behind its key
  behind : (c : After-read_field-field t) (q : Result Step Refusal) → c.read_field-field.result.step ≡ q
      → StepAt c.loop-at.invariant c.read_field-field.result.size q
  behind c q e = subst (StepAt c.loop-at.invariant _) e (read c).stands

pub returns-then-is_ordered : goal.returns-then-is_ordered
returns-then-is_ordered t c = sym (c.is_ordered.ensures c.if-is_ordered.true c.args.depth).read

pub loop-at-init : goal.loop-at-init
loop-at-init t c = scanned-start _ _ _ c.if-depth-eq0.false

pub overflow_add-at : goal.overflow_add-at
overflow_add-at t c = let h = read t (goal.at.overflow_add-at t c).After-read_field-field in omega arith

-- the field is refused
pub returns-in_err-m : goal.returns-in_err-m
returns-in_err-m t c = let p = err_from_is_err_and c.from_residual.result c.from_residual.ensures.1 in rw (p.1, p.2) (behind t (goal.at.returns-in_err-m t c).After-read_field-field (Err _) c.in_err-m.was)

-- the field is passed over
pub overflow_add-at-in-Next : goal.overflow_add-at-in-Next
overflow_add-at-in-Next t c =
    let h = behind t (goal.at.overflow_add-at-in-Next t c).After-read_field-field (Ok (step.Next c.in-Next.m)) (c.in_ok-m.was ∙ ap Ok c.in-Next.is) in
    omega arith

pub loop-at-smaller-in-Next : goal.loop-at-smaller-in-Next
loop-at-smaller-in-Next t c =
    let h = behind t (goal.at.loop-at-smaller-in-Next t c).After-read_field-field (Ok (step.Next c.in-Next.m)) (c.in_ok-m.was ∙ ap Ok c.in-Next.is) in
    omega arith

pub loop-at-preserved-in-Next : goal.loop-at-preserved-in-Next
loop-at-preserved-in-Next t c =
    (behind t (goal.at.loop-at-preserved-in-Next t c).After-read_field-field (Ok (step.Next c.in-Next.m)) (c.in_ok-m.was ∙ ap Ok c.in-Next.is)).1

-- the field is a message
pub overflow_add-from : goal.overflow_add-from
overflow_add-from t c =
    let i = c.in-Inner in
    let h = behind t (goal.at.overflow_add-from t c).After-read_field-field (Ok (step.Inner i.k i.m i.len)) (c.in_ok-m.was ∙ ap Ok i.is) in
    omega arith

pub overflow_add-at-in-Inner : goal.overflow_add-at-in-Inner
overflow_add-at-in-Inner t c =
    let i = c.in-Inner in
    let h = behind t (goal.at.overflow_add-at-in-Inner t c).After-read_field-field (Ok (step.Inner i.k i.m i.len)) (c.in_ok-m.was ∙ ap Ok i.is) in
    omega arith

pub slice_bounds-scan-end : goal.slice_bounds-scan-end
slice_bounds-scan-end t c =
    let i = c.in-Inner in
    let h = behind t (goal.at.slice_bounds-scan-end t c).After-read_field-field (Ok (step.Inner i.k i.m i.len)) (c.in_ok-m.was ∙ ap Ok i.is) in
    omega arith

-- the message is refused
pub returns-in_err-scan-in-Inner : goal.returns-in_err-scan-in-Inner
returns-in_err-scan-in-Inner t c =
    let i = c.in-Inner in
    let h = behind t (goal.at.returns-in_err-scan-in-Inner t c).After-read_field-field (Ok (step.Inner i.k i.m i.len)) (c.in_ok-m.was ∙ ap Ok i.is) in
    let p = err_from_is_err_and c.from_residual-in_err-scan-in-Inner.result c.from_residual-in_err-scan-in-Inner.ensures.1 in rw (p.1, p.2) (h.2 (Err _) (sym c.scan.ensures ∙ c.in_err-scan-in-Inner.was))

pub loop-at-smaller : goal.loop-at-smaller
loop-at-smaller t c =
    let i = c.in-Inner in
    let h = behind t (goal.at.loop-at-smaller t c).After-read_field-field (Ok (step.Inner i.k i.m i.len)) (c.in_ok-m.was ∙ ap Ok i.is) in
    omega arith

pub loop-at-preserved : goal.loop-at-preserved
loop-at-preserved t c =
    let i = c.in-Inner in
    let h = behind t (goal.at.loop-at-preserved t c).After-read_field-field (Ok (step.Inner i.k i.m i.len)) (c.in_ok-m.was ∙ ap Ok i.is) in
    h.2 (Ok record {}) (sym c.scan.ensures ∙ c.in_ok-scan-in-Inner.was)

-- the end
pub returns : goal.returns
returns t c = end-at c.loop-at.invariant c.loop-at-test.false
