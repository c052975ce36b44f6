-- `packed::rise_by_words` meets its contract. The invariant is `Answered`, the measure how many ranges are left. Assumes nothing.
use Prim.Native.Nat.{◌+◌, ◌-◌, ◌*◌, ◌≤◌}
use native.Mathlib.Omega.{arith}
use mathlib.Core.Path.{◌≡◌, refl}
use lib.ListN.{length}
use lib.Bits.{bit_and}
use Rattle.packed.specs.Words.{tops_of}
use Rattle.packed.proofs.WordLaws.{Split, told-start, told-words, told-next, flags-most, split-none, split-all, split-end}
use Rattle.packed.proofs.rise_by_words.Goals as goal

pub returns-then-word-ne-PLACES : goal.returns-then-word-ne-PLACES
returns-then-word-ne-PLACES c =
    split-none ((let it : (let f = c in
    let v = f in
    let l = v in
    let a = l.args in
    Split a.s.now a.at a.n (bit_and (bit_and 72057594054705152 v.word_rises.result) c.word_rises-in-loop-left.result) (tops_of l.loop-left.y)
    (l.loop-left.p + 16) (l.loop-left.left - 4)) = let f = c in
    let v = f in
    let l = v in
    let k = l in
    told-words l.loop-left.invariant (λ i. (k.shared_slice_known-1.given i).fits) k.requires _ _ _ _ v.loop-left-test.true
    f.tops.ensures refl v.word_rises.ensures c.word_rises-in-loop-left.ensures in it)) (flags-most c.word_rises.result c.word_rises-in-loop-left.result) c.if-word-ne-PLACES.true

pub loop-left-preserved : goal.loop-left-preserved
loop-left-preserved c =
    let t = c in
    let e = t in
    let w = e in
    let i = w in
    let l = i in
    let k = l in
    told-next l.loop-left.invariant (λ j. (k.shared_slice_known-1.given j).fits) k.requires _ _ _ i.loop-left-test.true t.tops-low.ensures
    (split-all ((let it : (let f = w in
    let v = f in
    let l = v in
    let a = l.args in
    Split a.s.now a.at a.n (bit_and (bit_and 72057594054705152 v.word_rises.result) w.word_rises-in-loop-left.result) (tops_of l.loop-left.y)
    (l.loop-left.p + 16) (l.loop-left.left - 4)) = let f = w in
    let v = f in
    let l = v in
    let k = l in
    told-words l.loop-left.invariant (λ i. (k.shared_slice_known-1.given i).fits) k.requires _ _ _ _ v.loop-left-test.true
    f.tops.ensures refl v.word_rises.ensures w.word_rises-in-loop-left.ensures in it)) e.if-word-ne-PLACES.false)
    c.read_u64-x-in-loop-left.ensures c.read_u64-y-in-loop-left.ensures

pub buckets_rise-requires-2 : goal.buckets_rise-requires-2
buckets_rise-requires-2 c =
    omega (arith, c.loop-left.invariant.place, c.requires)

pub returns : goal.returns
returns c = split-end c.loop-left.invariant.split c.buckets_rise-2.ensures

pub returns-then-n-lt8 : goal.returns-then-n-lt8
returns-then-n-lt8 c = c.buckets_rise.ensures

pub read_u64-x-requires : goal.read_u64-x-requires
read_u64-x-requires c = omega (arith, c.requires)

pub read_u64-y-requires : goal.read_u64-y-requires
read_u64-y-requires c = omega (arith, c.requires)

pub loop-left-init : goal.loop-left-init
loop-left-init c = told-start _ _ _ _ _ (omega arith) c.read_u64-x.ensures c.read_u64-y.ensures

pub word_rises-requires : goal.word_rises-requires
word_rises-requires c = c.loop-left.invariant.least

pub word_rises-requires-in-loop-left : goal.word_rises-requires-in-loop-left
word_rises-requires-in-loop-left c = omega (arith, c.tops.ensures)

pub overflow_add-p : goal.overflow_add-p
overflow_add-p c = omega (
  arith,
  (let it : (let l = c in
      let a = l.args in (a.at + 4 * a.n ≤ length a.s.now) × (l.loop-left.p + 4 * l.loop-left.left ≡ a.at + 4 * a.n)) = let l = c in
      (l.requires, l.loop-left.invariant.place) in it),
)

pub read_u64-x-requires-in-loop-left : goal.read_u64-x-requires-in-loop-left
read_u64-x-requires-in-loop-left c = omega (
  arith,
  (let it : (let l = c in
      let a = l.args in (a.at + 4 * a.n ≤ length a.s.now) × (l.loop-left.p + 4 * l.loop-left.left ≡ a.at + 4 * a.n)) = let l = c in
      (l.requires, l.loop-left.invariant.place) in it),
  c.loop-left-test.true,
)

pub overflow_add-p-in-loop-left : goal.overflow_add-p-in-loop-left
overflow_add-p-in-loop-left c = omega (
  arith,
  (let it : (let l = c in
      let a = l.args in (a.at + 4 * a.n ≤ length a.s.now) × (l.loop-left.p + 4 * l.loop-left.left ≡ a.at + 4 * a.n)) = let l = c in
      (l.requires, l.loop-left.invariant.place) in it),
)

pub read_u64-y-requires-in-loop-left : goal.read_u64-y-requires-in-loop-left
read_u64-y-requires-in-loop-left c = omega (
  arith,
  (let it : (let l = c in
      let a = l.args in (a.at + 4 * a.n ≤ length a.s.now) × (l.loop-left.p + 4 * l.loop-left.left ≡ a.at + 4 * a.n)) = let l = c in
      (l.requires, l.loop-left.invariant.place) in it),
  c.loop-left-test.true,
)
