-- `attach_log::log_follows` meets its contract. The invariant is `Follow` of proofs/FollowLaws: what is left of
-- deltas and log decides the whole. The measure is what is left of the deltas' bytes.
-- Assumes nothing.
use Prim.Native.Nat.{ℕ, ◌+◌, ◌*◌, ◌≤◌}
use native.Mathlib.Omega.{arith}
use mathlib.Core.Bool.{true, false}
use mathlib.Core.List.{List}
use mathlib.Core.Path.{◌≡◌, sym, ap, ◌∙◌, subst}
use lib.ListN.{length, drop, length-drop}
use Rattle.packed.specs.Assignment.{decode_segments, size_segments}
use Rattle.slice.proofs.PartLaws.{rest}
use Rattle.packed_delta.specs.Answers.{front_answer}
use Rattle.packed_delta.proofs.RoundLaws.{Front, front-answer, not-front}
use Rattle.intake_repeats.specs.Repeats.{rises}
use Rattle.attach_log.specs.Steps.{ids_in, delta_in}
use Rattle.attach_log.proofs.PartLaws.{lost-rise, gained-rise}
use Rattle.attach_log.proofs.FollowLaws.{follow-start, follow-bad, follow-few}
use Rattle.attach_log.proofs.FollowLaws.{follow-wrong, follow-next, follow-end}
use Rattle.attach_log.proofs.WalkLaws.{long, fits, few}
use Rattle.attach_log.proofs.log_follows.Goals.{After-delta_in, In-Some}
use Rattle.attach_log.proofs.log_follows.Goals as goal

-- what the delta that was read at the place says
front-there : (k : In-Some)
    → Front (drop k.loop-p.p (k.args.deltas.now)) k.in-Some.lost k.in-Some.gained k.in-Some.size
front-there k =
    let r = k in
    let s = k.args.deltas.now in
    let p = k.loop-p.p in
    front-answer (drop p s) k.in-Some.lost k.in-Some.gained k.in-Some.size
    (sym k.in-Some.is ∙ r.read_front.ensures ∙ ap front_answer (rest s p))

-- how many entries the delta has: fewer than bytes
few-there : (k : In-Some)
    → k.in-Some.lost + k.in-Some.gained ≤ length (k.args.deltas.now)
few-there k = omega (arith, few (front-there k), length-drop k.loop-p.p (k.args.deltas.now))

-- whether its entries are there
in-there : (i : After-delta_in)
    → let k = i in
    let l = k.loop-p in
    delta_in (drop l.p (k.args.deltas.now)) k.in-Some.lost k.in-Some.gained (drop l.q (k.args.log.now)) ≡ i.delta_in.result
in-there i =
    let k = i in
    let l = k.loop-p in
    sym (i.delta_in.ensures
    ∙ ap (λ (s : List ℕ). delta_in s k.in-Some.lost k.in-Some.gained (drop l.q (k.args.log.now))) (rest (k.args.deltas.now) l.p))

pub loop-p-init : goal.loop-p-init
loop-p-init c = let q = c in follow-start q.args.deltas.now q.args.log.now q.requires

pub returns-in_default : goal.returns-in_default
returns-in_default c = let r = c in
    let t = r in
    let s = t.args.deltas.now in
    let l = t.loop-p in
    absurd (follow-bad s t.args.log.now l.p l.q l.left l.invariant t.loop-p-test.true
    (not-front (drop l.p s) (sym c.in_default.is ∙ r.read_front.ensures ∙ ap front_answer (rest s l.p))))

pub overflow_add-lost : goal.overflow_add-lost
overflow_add-lost c = let q = c in omega (arith, few-there (goal.at.overflow_add-lost c).In-Some, q.well_formed)

pub returns-then-left-lost : goal.returns-then-left-lost
returns-then-left-lost c = let k = c in
    let t = k in
    let l = t.loop-p in
    follow-few t.args.deltas.now t.args.log.now l.p l.q l.left l.invariant t.loop-p-test.true k.in-Some.lost k.in-Some.gained k.in-Some.size
    (front-there (goal.at.returns-then-left-lost c).In-Some) c.if-left-lost.true

pub delta_in-requires : goal.delta_in-requires
delta_in-requires c = let k = c in
    let t = k in
    let l = t.loop-p in
    let e = sym (rest t.args.deltas.now l.p) in
    let f = front-there (goal.at.delta_in-requires c).In-Some in
    let fits = subst (λ (s : List ℕ). 12 + 8 * k.in-Some.lost + size_segments (decode_segments k.in-Some.gained (drop (12 + 8 * k.in-Some.lost) s)) ≤ length s) e
    f.records.fits in
    let lost = subst (λ (s : List ℕ). rises (ids_in false k.in-Some.lost (drop 12 s)) ≡ true) e (lost-rise k.in-Some.lost _ f.ids-rise) in
    let gained = subst (λ (s : List ℕ). rises (ids_in true k.in-Some.gained (drop (12 + 8 * k.in-Some.lost) s)) ≡ true) e
    (gained-rise k.in-Some.gained _ f.records.ok) in
    record { s_in_bounds = (fits, omega (arith, l.invariant.place)); s_value = (lost, gained) }

pub returns-then-not-delta_in : goal.returns-then-not-delta_in
returns-then-not-delta_in c = let i = c in
    let k = i in
    let t = k in
    let l = t.loop-p in
    follow-wrong t.args.deltas.now t.args.log.now l.p l.q l.left l.invariant t.loop-p-test.true k.in-Some.lost k.in-Some.gained k.in-Some.size
    (front-there (goal.at.returns-then-not-delta_in c).In-Some) i.if-left-lost.false (in-there (goal.at.returns-then-not-delta_in c).After-delta_in ∙ c.if-not-delta_in.true)

pub overflow_add-p : goal.overflow_add-p
overflow_add-p c = let k = c in
    let t = k in
    let q = t in
    omega (arith, fits (front-there (goal.at.overflow_add-p c).In-Some), length-drop t.loop-p.p (t.args.deltas.now), q.well_formed)

pub overflow_add-q : goal.overflow_add-q
overflow_add-q c = let k = c in
    let q = k in omega (arith, few-there (goal.at.overflow_add-q c).In-Some, q.well_formed)

pub overflow_mul-q : goal.overflow_mul-q
overflow_mul-q c = let t = c in
    let q = t in omega (arith, t.loop-p.invariant.place, q.well_formed)

pub overflow_add-q-in-loop-p : goal.overflow_add-q-in-loop-p
overflow_add-q-in-loop-p c = let t = c in
    let q = t in omega (arith, t.loop-p.invariant.place, q.well_formed)

pub loop-p-smaller : goal.loop-p-smaller
loop-p-smaller c = let k = c in
    omega (arith, long (front-there (goal.at.loop-p-smaller c).In-Some), fits (front-there (goal.at.loop-p-smaller c).In-Some), k.loop-p-test.true)

pub loop-p-preserved : goal.loop-p-preserved
loop-p-preserved c = let i = c in
    let k = i in
    let t = k in
    let l = t.loop-p in
    follow-next t.args.deltas.now t.args.log.now l.p l.q l.left l.invariant t.loop-p-test.true k.in-Some.lost k.in-Some.gained k.in-Some.size
    (front-there (goal.at.loop-p-preserved c).In-Some) i.if-left-lost.false (in-there (goal.at.loop-p-preserved c).After-delta_in ∙ c.if-not-delta_in.false)

pub returns : goal.returns
returns c = let l = c in
    let a = l.args in
    follow-end a.deltas.now a.log.now l.loop-p.p l.loop-p.q l.loop-p.left l.loop-p.invariant c.loop-p-test.false
