-- `delta::read_front` meets its contract: each test picks a case of `front_answer`.
-- Assumes nothing.
use native.Mathlib.Omega.{arith}
use mathlib.Core.Path.{sym, ◌∙◌}
use Rattle.packed_delta.proofs.ReadLaws.{Counts, front-short, front_cut, front-falls, front-bad, front-valid}
use Rattle.packed_delta.proofs.read_front.Goals as goal
use Rattle.packed_delta.proofs.read_front.Goals.{After-read_u16-gained}

counts : (k : After-read_u16-gained) → Counts k.args.s.now k.read_u16-lost.result k.read_u16-gained.result
counts k = record { lost-is = k.read_u16-lost.ensures; gained-is = k.read_u16-gained.ensures }

pub returns-then-s-lt-HEAD : goal.returns-then-s-lt-HEAD
returns-then-s-lt-HEAD c = front-short c.args.s.now c.if-s-lt-HEAD.true

pub returns-then-s-lost : goal.returns-then-s-lost
returns-then-s-lost c = front_cut (counts (goal.at.returns-then-s-lost c).After-read_u16-gained) (omega arith)

pub returns-then-not-ids_rise : goal.returns-then-not-ids_rise
returns-then-not-ids_rise c =
    front-falls (counts (goal.at.returns-then-not-ids_rise c).After-read_u16-gained) (sym (c.if-not-ids_rise.true) ∙ c.ids_rise.ensures)

pub returns : goal.returns
returns c =
    front-valid (counts (goal.at.returns c).After-read_u16-gained) (sym (c.if-not-ids_rise.false) ∙ c.ids_rise.ensures) c.in_ok-size.size
    (sym c.in_ok-size.was ∙ c.records_to.ensures)

pub returns-in_err-size : goal.returns-in_err-size
returns-in_err-size c =
    c.from_residual.ensures
    ∙ front-bad (counts (goal.at.returns-in_err-size c).After-read_u16-gained) (sym c.in_err-size.was ∙ c.records_to.ensures)
