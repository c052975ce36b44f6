-- `difference::merge` meets its contract. The invariant is `Turn` of proofs/TurnLaws; the measure is how many records are left of both.
-- Assumes nothing.
use Prim.Native.Nat.{◌+◌, ◌≤◌, ◌<◌}
use native.Mathlib.Omega.{arith}
use mathlib.Core.Path.{◌≡◌, refl, sym, ◌∙◌}
use lib.ListN.{length, drop}
use Rattle.packed.specs.Assignment.{decode_segment, decode_segments, size_segment}
use Rattle.packed.proofs.AssignmentLaws.{size-least, length-segments_of, rest-head}
use Rattle.packed_diff.specs.Merge.{merge_step, entry_size}
use Rattle.packed_diff.specs.declared.Step.TheVariants.{Keep, Same, Skip}
use Rattle.packed_diff.proofs.StepLaws.{skip-some}
use Rattle.packed_diff.proofs.TurnLaws.{starts-long, entry-least, size-within, begin, skipped, matched, kept, room-here, finish}
use Rattle.packed_diff.proofs.merge.Goals as goal
use Rattle.packed_diff.proofs.merge.Goals.{In-loop-m, In-Skip, After-entry_size-len, After-size_at-size}

-- ---- the records at the two places
x-within : (c : In-loop-m) → (c.loop-m.p + size_segment (decode_segment (drop c.loop-m.p c.args.x.now)) ≤ length c.args.x.now) × (14 ≤ size_segment (decode_segment (drop c.loop-m.p c.args.x.now)))
x-within c =
    let x = c.args.x.now in
    let v = c.loop-m in
    (rest-head x v.p v.m _ c.loop-m-test.true refl v.invariant.rest-x, size-least (decode_segment (drop v.p x)))

y-within : (c : In-loop-m) → 0 < c.loop-m.n → (c.loop-m.q + size_segment (decode_segment (drop c.loop-m.q c.args.y.now)) ≤ length c.args.y.now) × (14 ≤ size_segment (decode_segment (drop c.loop-m.q c.args.y.now)))
y-within c h =
    let y = c.args.y.now in
    let v = c.loop-m in
    (rest-head y v.q v.n _ h refl v.invariant.rest-y, size-least (decode_segment (drop v.q y)))

-- ---- the first record of y is passed over
is-skip : (c : In-Skip) → Skip ≡ merge_step (decode_segment (drop c.loop-m.p c.args.x.now)) (decode_segments c.loop-m.n (drop c.loop-m.q c.args.y.now))
is-skip c = (let it : (Skip ≡ merge_step (decode_segment (drop c.loop-m.p c.args.x.now)) (decode_segments c.loop-m.n (drop c.loop-m.q c.args.y.now))) = sym c.in-Skip.is ∙ c.next_step.ensures in it)

-- there is one
more-y : (c : In-Skip) → 0 < c.loop-m.n
more-y c =
    omega (arith, skip-some _ _ ((let it : (Skip ≡ merge_step (decode_segment (drop c.loop-m.p c.args.x.now)) (decode_segments c.loop-m.n (drop c.loop-m.q c.args.y.now))) = (let it : (Skip ≡ merge_step (decode_segment (drop c.loop-m.p c.args.x.now)) (decode_segments c.loop-m.n (drop c.loop-m.q c.args.y.now))) = sym c.in-Skip.is ∙ c.next_step.ensures in it) in it)), length-segments_of c.loop-m.n (drop c.loop-m.q c.args.y.now))

-- the bytes that are copied are eight at least and within the record, and there is room for them
entry-fits : (c : After-entry_size-len) → (8 ≤ c.entry_size-len.result)
    × (c.entry_size-len.result ≤ c.size_at-size.result)
    × (c.loop-m.next + c.entry_size-len.result ≤ length c.args.out.now)
entry-fits c =
    let a = c.args in
    let e : c.entry_size-len.result ≡ entry_size a.whole c.size_at-size.result = c.entry_size-len.ensures in
    let z : c.size_at-size.result ≡ size_segment (decode_segment (drop c.loop-m.p a.x.now)) = c.size_at-size.ensures in (
      omega (
        arith,
        e,
        entry-least a.whole c.size_at-size.result (omega (
          arith,
          (let it : ((c.loop-m.p + size_segment (decode_segment (drop c.loop-m.p c.args.x.now)) ≤ length c.args.x.now) × (14 ≤ size_segment (decode_segment (drop c.loop-m.p c.args.x.now)))) = let l = c in
              let x = l.args.x.now in
              let v = l.loop-m in
              (rest-head x v.p v.m _ c.loop-m-test.true refl v.invariant.rest-x, size-least (decode_segment (drop v.p x))) in it),
        )),
      ),
      omega (
        arith,
        e,
        size-within a.whole c.size_at-size.result (omega (
          arith,
          (let it : ((c.loop-m.p + size_segment (decode_segment (drop c.loop-m.p c.args.x.now)) ≤ length c.args.x.now) × (14 ≤ size_segment (decode_segment (drop c.loop-m.p c.args.x.now)))) = let l = c in
              let x = l.args.x.now in
              let v = l.loop-m in
              (rest-head x v.p v.m _ c.loop-m-test.true refl v.invariant.rest-x, size-least (decode_segment (drop v.p x))) in it),
        )),
      ),
      omega (arith, e, room-here c.loop-m.invariant c.loop-m-test.true c.size_at-size.result z),
    )

-- the record is within x
size_fits : (c : After-size_at-size) → c.loop-m.p + c.size_at-size.result ≤ length c.args.x.now
size_fits c = omega (
  arith,
  c.size_at-size.ensures,
  (let it : ((c.loop-m.p + size_segment (decode_segment (drop c.loop-m.p c.args.x.now)) ≤ length c.args.x.now) × (14 ≤ size_segment (decode_segment (drop c.loop-m.p c.args.x.now)))) = let x = c.args.x.now in
      let v = c.loop-m in
      (rest-head x v.p v.m _ c.loop-m-test.true refl v.invariant.rest-x, size-least (decode_segment (drop v.p x))) in it),
)

pub read_u16-m-requires : goal.read_u16-m-requires
read_u16-m-requires c = omega (arith, starts-long c.args.x.now c.requires.x_value)

pub read_u16-n-requires : goal.read_u16-n-requires
read_u16-n-requires c = omega (arith, starts-long c.args.y.now c.requires.y_value)

pub loop-m-init : goal.loop-m-init
loop-m-init c =
    let a = c.args in
    begin a.x.now a.y.now a.whole a.out.now a.at c.read_u16-m.result c.read_u16-n.result c.requires.x_value
    c.requires.y_value c.requires.x_in_bounds c.read_u16-m.ensures c.read_u16-n.ensures

pub next_step-requires : goal.next_step-requires
next_step-requires c = record { x_in_bounds = (x-within (goal.at.next_step-requires c).In-loop-m).0; y_in_bounds = λ h. (y-within (goal.at.next_step-requires c).In-loop-m h).0 }

pub size_at-q-requires : goal.size_at-q-requires
size_at-q-requires c = omega (arith, y-within (goal.at.size_at-q-requires c).In-loop-m (more-y (goal.at.size_at-q-requires c).In-Skip))

pub overflow_add-q : goal.overflow_add-q
overflow_add-q c =
    omega (arith, c.size_at-q.ensures, y-within (goal.at.overflow_add-q c).In-loop-m (more-y (goal.at.overflow_add-q c).In-Skip), c.well_formed)

pub overflow_sub-n : goal.overflow_sub-n
overflow_sub-n c = omega (arith, more-y (goal.at.overflow_sub-n c).In-Skip)

pub loop-m-smaller-in-Skip : goal.loop-m-smaller-in-Skip
loop-m-smaller-in-Skip c = omega (arith, more-y (goal.at.loop-m-smaller-in-Skip c).In-Skip)

pub loop-m-preserved-in-Skip : goal.loop-m-preserved-in-Skip
loop-m-preserved-in-Skip c =
    skipped c.loop-m.invariant c.loop-m-test.true c.size_at-q.result (more-y (goal.at.loop-m-preserved-in-Skip c).In-Skip) c.size_at-q.ensures
    (is-skip (goal.at.loop-m-preserved-in-Skip c).In-Skip)

-- ---- y has the record
pub size_at-p-requires : goal.size_at-p-requires
size_at-p-requires c = omega (arith, x-within (goal.at.size_at-p-requires c).In-loop-m)

pub overflow_add-p : goal.overflow_add-p
overflow_add-p c =
    omega (arith, c.size_at-p.ensures, x-within (goal.at.overflow_add-p c).In-loop-m, c.well_formed)

pub overflow_sub-m : goal.overflow_sub-m
overflow_sub-m c = omega (arith, c.loop-m-test.true)

pub loop-m-smaller-in-Same : goal.loop-m-smaller-in-Same
loop-m-smaller-in-Same c = omega (arith, c.loop-m-test.true)

pub loop-m-preserved-in-Same : goal.loop-m-preserved-in-Same
loop-m-preserved-in-Same c =
    matched c.loop-m.invariant c.loop-m-test.true c.size_at-p.result c.size_at-p.ensures
    ((let it : (Same ≡ merge_step (decode_segment (drop c.loop-m.p c.args.x.now)) (decode_segments c.loop-m.n (drop c.loop-m.q c.args.y.now))) = sym c.in-Same.is ∙ c.next_step.ensures in it))

-- ---- y has not the record
pub size_at-size-requires : goal.size_at-size-requires
size_at-size-requires c = omega (arith, x-within (goal.at.size_at-size-requires c).In-loop-m)

pub copy_bytes-requires : goal.copy_bytes-requires
copy_bytes-requires c =
    ((entry-fits (goal.at.copy_bytes-requires c).After-entry_size-len).0, omega (arith, (entry-fits (goal.at.copy_bytes-requires c).After-entry_size-len).1, size_fits (goal.at.copy_bytes-requires c).After-size_at-size), omega (arith, (entry-fits (goal.at.copy_bytes-requires c).After-entry_size-len).2, c.loop-m.invariant.long))

pub overflow_add-next : goal.overflow_add-next
overflow_add-next c =
    omega (arith, (entry-fits (goal.at.overflow_add-next c).After-entry_size-len).2, c.well_formed)

pub overflow_add-count : goal.overflow_add-count
overflow_add-count c = omega (arith, c.loop-m.invariant.few)

pub overflow_add-p-in-Keep : goal.overflow_add-p-in-Keep
overflow_add-p-in-Keep c =
    omega (arith, size_fits (goal.at.overflow_add-p-in-Keep c).After-size_at-size, c.well_formed)

pub overflow_sub-m-in-Keep : goal.overflow_sub-m-in-Keep
overflow_sub-m-in-Keep c = omega (arith, c.loop-m-test.true)

pub loop-m-smaller : goal.loop-m-smaller
loop-m-smaller c = omega (arith, c.loop-m-test.true)

pub loop-m-preserved : goal.loop-m-preserved
loop-m-preserved c =
    let b = c.copy_bytes in
    kept c.loop-m.invariant c.loop-m-test.true c.size_at-size.result c.size_at-size.ensures c.entry_size-len.result
    b.new.out (λ j. (c.type_inv.x j).fits) ((let it : (Keep ≡ merge_step (decode_segment (drop c.loop-m.p c.args.x.now)) (decode_segments c.loop-m.n (drop c.loop-m.q c.args.y.now))) = sym c.in-Keep.is ∙ c.next_step.ensures in it))
    c.entry_size-len.ensures b.ensures b.auto.out

pub shape_of-out : goal.shape_of-out
shape_of-out c = c.loop-m.invariant.long

pub returns : goal.returns
returns c = finish c.loop-m.invariant (omega arith)
