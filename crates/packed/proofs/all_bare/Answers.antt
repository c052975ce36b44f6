-- `packed::all_bare` meets its contract. The invariant is `Walk` of proofs/EndLaws, with the end of the bytes for the end of the records; the measure is what is
-- left. Assumes nothing.
use Prim.Native.Nat.{◌+◌, ◌≤◌}
use native.Mathlib.Omega.{arith}
use mathlib.Core.Path.{◌≡◌, refl, sym}
use mathlib.Core.Bool.{true, false, false≢true}
use lib.ListN.{length}
use Rattle.packed.proofs.EndLaws.{Past, walk_start, past-bare, past_end, past_room, past_next}
use Rattle.packed.proofs.FrontLaws.{size-records, whole-ends}
use Rattle.packed.proofs.all_bare.Goals as goal

-- no answer is told
nothing : {A : Type 0} → false ≡ true → A
nothing e = absurd (false≢true e)

pub loop-end-init : goal.loop-end-init
loop-end-init c =
    let t = c in
    walk_start _ 10 _ _ _ _ (omega (arith, t.if-count-end.false, t.if-end-le-ASSIGNMENT_HEAD.false)) (sym t.if-count-end.false) (omega arith) c.read_u64-prev.ensures

pub returns-then-p-end : goal.returns-then-p-end
returns-then-p-end c =
    let u = c in
    let s = u.args.s.now in
    λ _. whole-ends s (size-records s (length s) _ (omega (arith, u.if-end-gt-SLOT.false)) u.read_u16-count.ensures (past_end ((let it : (let l = c in
    let u = l in
    let s = u.args.s.now in
    Past s 10 u.read_u16-count.result (length s) l.loop-end.p l.loop-end.prev (l.loop-end.p + 14) (length s)) = let e = c in
    let b = e in
    past-bare b.loop-end.invariant b.read_u16-in-loop-end.ensures b.read_u16.ensures c.read_u16-in-loop-end-2.ensures e.if-read_u16.false
    c.if-read_u16-ne0.false _ _ refl refl in it)) c.if-p-end.true))
    c.if-p-end.true (omega arith)

pub loop-end-smaller : goal.loop-end-smaller
loop-end-smaller c =
    let e = c in
    let l = e in
    omega (
      arith,
      (let it : (l.loop-end.p + 14 ≤ length l.args.s.now) = let i = l.loop-end.invariant in omega (arith, i.stop_is, i.some) in it),
      past_room ((let it : (let l = e in
          let u = l in
          let s = u.args.s.now in
          Past s 10 u.read_u16-count.result (length s) l.loop-end.p l.loop-end.prev (l.loop-end.p + 14) (length s)) = let e = e in
          let b = e in
          past-bare b.loop-end.invariant b.read_u16-in-loop-end.ensures b.read_u16.ensures e.read_u16-in-loop-end-2.ensures e.if-read_u16.false
          e.if-read_u16-ne0.false _ _ refl refl in it)) e.if-p-end.false,
    )

pub loop-end-preserved : goal.loop-end-preserved
loop-end-preserved c =
    let e = c in past_next ((let it : (let l = e in
    let u = l in
    let s = u.args.s.now in
    Past s 10 u.read_u16-count.result (length s) l.loop-end.p l.loop-end.prev (l.loop-end.p + 14) (length s)) = let e = e in
    let b = e in
    past-bare b.loop-end.invariant b.read_u16-in-loop-end.ensures b.read_u16.ensures e.read_u16-in-loop-end-2.ensures e.if-read_u16.false
    e.if-read_u16-ne0.false _ _ refl refl in it)) e.if-p-end.false c.read_u64-next.ensures c.if-next-prev.false

pub returns-then-end-le-ASSIGNMENT_HEAD : goal.returns-then-end-le-ASSIGNMENT_HEAD
returns-then-end-le-ASSIGNMENT_HEAD c = nothing

pub returns-then-end-gt-SLOT : goal.returns-then-end-gt-SLOT
returns-then-end-gt-SLOT c = nothing

pub returns-then-count-end : goal.returns-then-count-end
returns-then-count-end c = nothing

pub read_u64-prev-requires : goal.read_u64-prev-requires
read_u64-prev-requires c = omega (arith, c.if-count-end.false, c.if-end-le-ASSIGNMENT_HEAD.false)

pub overflow_add-p : goal.overflow_add-p
overflow_add-p c = omega (arith, (let it : (c.loop-end.p + 14 ≤ length c.args.s.now) = let i = c.loop-end.invariant in omega (arith, i.stop_is, i.some) in it))

pub read_u16-requires : goal.read_u16-requires
read_u16-requires c = omega (arith, (let it : (c.loop-end.p + 14 ≤ length c.args.s.now) = let i = c.loop-end.invariant in omega (arith, i.stop_is, i.some) in it))

pub overflow_add-p-in-loop-end : goal.overflow_add-p-in-loop-end
overflow_add-p-in-loop-end c = omega (arith, (let it : (c.loop-end.p + 14 ≤ length c.args.s.now) = let i = c.loop-end.invariant in omega (arith, i.stop_is, i.some) in it))

pub read_u16-requires-in-loop-end : goal.read_u16-requires-in-loop-end
read_u16-requires-in-loop-end c = omega (arith, (let it : (c.loop-end.p + 14 ≤ length c.args.s.now) = let i = c.loop-end.invariant in omega (arith, i.stop_is, i.some) in it))

pub returns-then-read_u16 : goal.returns-then-read_u16
returns-then-read_u16 c = nothing

pub overflow_add-p-in-loop-end-2 : goal.overflow_add-p-in-loop-end-2
overflow_add-p-in-loop-end-2 c = omega (arith, (let it : (c.loop-end.p + 14 ≤ length c.args.s.now) = let i = c.loop-end.invariant in omega (arith, i.stop_is, i.some) in it))

pub read_u16-requires-in-loop-end-2 : goal.read_u16-requires-in-loop-end-2
read_u16-requires-in-loop-end-2 c = omega (arith, (let it : (c.loop-end.p + 14 ≤ length c.args.s.now) = let i = c.loop-end.invariant in omega (arith, i.stop_is, i.some) in it))

pub returns-then-read_u16-ne0 : goal.returns-then-read_u16-ne0
returns-then-read_u16-ne0 c = nothing

pub overflow_add-p-in-loop-end-3 : goal.overflow_add-p-in-loop-end-3
overflow_add-p-in-loop-end-3 c = omega (arith, (let it : (c.loop-end.p + 14 ≤ length c.args.s.now) = let i = c.loop-end.invariant in omega (arith, i.stop_is, i.some) in it))

pub read_u64-next-requires : goal.read_u64-next-requires
read_u64-next-requires c = omega (
  arith,
  past_room ((let it : (let l = c in
      let u = l in
      let s = u.args.s.now in
      Past s 10 u.read_u16-count.result (length s) l.loop-end.p l.loop-end.prev (l.loop-end.p + 14) (length s)) = let e = c in
      let b = e in
      past-bare b.loop-end.invariant b.read_u16-in-loop-end.ensures b.read_u16.ensures c.read_u16-in-loop-end-2.ensures e.if-read_u16.false
      c.if-read_u16-ne0.false _ _ refl refl in it)) c.if-p-end.false,
)

pub returns-then-next-prev : goal.returns-then-next-prev
returns-then-next-prev c = nothing
