-- `attach_log::deltas_ok` meets its contract. The invariant is `Walk` of proofs/WalkLaws: the bytes that are left
-- decide the whole. The measure is how many they are.
-- Assumes nothing.
use native.Mathlib.Omega.{arith}
use mathlib.Core.Path.{sym, ap, ◌∙◌}
use lib.ListN.{drop, length-drop}
use Rattle.slice.proofs.PartLaws.{rest}
use Rattle.packed_delta.specs.Answers.{front_answer}
use Rattle.packed_delta.proofs.RoundLaws.{Front, front-answer, not-front}
use Rattle.attach_log.proofs.WalkLaws.{long, fits, walk_start, walk-bad, walk-next, walk_end}
use Rattle.attach_log.proofs.deltas_ok.Goals.{In-Some}
use Rattle.attach_log.proofs.deltas_ok.Goals as goal

-- what the delta that was read at the place says
front-there : (k : In-Some)
    → let l = k in
    Front (drop l.loop-p.p l.args.s.now) k.in-Some.field-0-0 k.in-Some.field-0-1 k.in-Some.size
front-there k =
    let r = k in
    let l = r in
    let s = l.args.s.now in
    front-answer (drop l.loop-p.p s) k.in-Some.field-0-0 k.in-Some.field-0-1 k.in-Some.size
    (sym k.in-Some.is ∙ r.read_front.ensures ∙ ap front_answer (rest s l.loop-p.p))

pub loop-p-init : goal.loop-p-init
loop-p-init c = walk_start c.args.s.now

pub returns-in_default : goal.returns-in_default
returns-in_default c = let r = c in
    let t = r in
    let l = t in
    let s = l.args.s.now in
    walk-bad s l.loop-p.p l.loop-p.invariant t.loop-p-test.true
    (not-front (drop l.loop-p.p s)
    (sym c.in_default.is ∙ r.read_front.ensures ∙ ap front_answer (rest s l.loop-p.p)))

pub overflow_add-p : goal.overflow_add-p
overflow_add-p c = let l = c in
    let s = l.args.s.now in
    omega (arith, fits (front-there (goal.at.overflow_add-p c).In-Some), length-drop l.loop-p.p s, l.well_formed)

pub loop-p-smaller : goal.loop-p-smaller
loop-p-smaller c = omega (arith, long (front-there (goal.at.loop-p-smaller c).In-Some))

pub loop-p-preserved : goal.loop-p-preserved
loop-p-preserved c = let k = c in
    let t = k in
    let l = t in
    walk-next l.args.s.now l.loop-p.p l.loop-p.invariant t.loop-p-test.true k.in-Some.field-0-0 k.in-Some.field-0-1
    k.in-Some.size (front-there (goal.at.loop-p-preserved c).In-Some)

pub returns : goal.returns
returns c = let l = c in walk_end l.args.s.now l.loop-p.p l.loop-p.invariant c.loop-p-test.false
