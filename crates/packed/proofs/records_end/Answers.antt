-- `packed::records_end` meets its contract. The invariant is `Walk` of proofs/EndLaws, the measure how many bytes are left. Assumes nothing.
use mathlib.Core.Path.{refl}
use native.Mathlib.Omega.{arith}
use Rattle.packed.proofs.EndLaws.{Past, walk_start, walk-reversed, walk-long, walk-clash, past-bare, past-buckets, past_end, past_room, past-stale, past_next}
use Rattle.packed.proofs.records_end.Goals as goal
use Rattle.packed.proofs.records_end.Goals.{Else-p-stop, then-count-ne0+else-end-stop+else-not-buckets_ok, else-count-ne0}

-- behind the record
behind : (k : Else-p-stop) → Past k.args.s.now k.args.at k.args.n k.args.end k.loop-at.p k.loop-at.id k.if-count-ne0.p k.if-count-ne0.stop
behind k =
    elim k.if-count-ne0.branch [
      | then-count-ne0+else-end-stop+else-not-buckets_ok w ↦ past-buckets k.loop-at.invariant k.read_u16-in-loop-at.ensures k.read_u16.ensures k.read_u16-count.ensures
          k.if-read_u16.false w.buckets_ok.ensures w.if-not-buckets_ok.false w.if-end-stop.false _ _ w.p-is w.stop-is
      | else-count-ne0 w ↦ past-bare k.loop-at.invariant k.read_u16-in-loop-at.ensures k.read_u16.ensures k.read_u16-count.ensures k.if-read_u16.false
          w.if-count-ne0.false _ _ w.p-is w.stop-is
    ]

pub returns-then-read_u16 : goal.returns-then-read_u16
returns-then-read_u16 c = walk-reversed c.loop-at.invariant c.read_u16-in-loop-at.ensures c.read_u16.ensures c.if-read_u16.true

pub returns-then-end-stop : goal.returns-then-end-stop
returns-then-end-stop c =
    walk-long c.loop-at.invariant c.read_u16-in-loop-at.ensures c.read_u16.ensures c.read_u16-count.ensures c.if-end-stop.true

pub returns-then-not-buckets_ok : goal.returns-then-not-buckets_ok
returns-then-not-buckets_ok c =
    walk-clash c.loop-at.invariant c.read_u16-in-loop-at.ensures c.read_u16.ensures c.read_u16-count.ensures
    c.buckets_ok.ensures c.if-not-buckets_ok.true c.if-read_u16.false

pub returns-then-p-stop : goal.returns-then-p-stop
returns-then-p-stop c =
    let a = c.args in
    let b : Past a.s.now a.at a.n a.end c.loop-at.p c.loop-at.id c.if-count-ne0.p c.if-count-ne0.stop = elim c.if-count-ne0.branch [
      | then-count-ne0+else-end-stop+else-not-buckets_ok w ↦ past-buckets c.loop-at.invariant c.read_u16-in-loop-at.ensures c.read_u16.ensures c.read_u16-count.ensures
          c.if-read_u16.false w.buckets_ok.ensures w.if-not-buckets_ok.false w.if-end-stop.false _ _ w.p-is w.stop-is
      | else-count-ne0 w ↦ past-bare c.loop-at.invariant c.read_u16-in-loop-at.ensures c.read_u16.ensures c.read_u16-count.ensures c.if-read_u16.false
          w.if-count-ne0.false _ _ w.p-is w.stop-is
    ] in
    past_end b c.if-p-stop.true

pub returns-then-next-id : goal.returns-then-next-id
returns-then-next-id c =
    past-stale (behind (goal.at.returns-then-next-id c).Else-p-stop) c.if-p-stop.false c.read_u64-next.ensures c.if-next-id.true

pub loop-at-smaller : goal.loop-at-smaller
loop-at-smaller c =
    let b = behind (goal.at.loop-at-smaller c).Else-p-stop in
    omega (arith, c.loop-at.invariant.stop_is, c.loop-at.invariant.some, b.further, past_room b c.if-p-stop.false)

pub loop-at-preserved : goal.loop-at-preserved
loop-at-preserved c =
    past_next (behind (goal.at.loop-at-preserved c).Else-p-stop) c.if-p-stop.false c.read_u64-next.ensures c.if-next-id.false

pub loop-at-init : goal.loop-at-init
loop-at-init c = walk_start _ _ _ _ _ _ c.requires.0 refl c.requires.1 c.read_u64-id.ensures

pub read_u64-next-requires : goal.read_u64-next-requires
read_u64-next-requires c =
    omega (arith, past_room (behind (goal.at.read_u64-next-requires c).Else-p-stop) c.if-p-stop.false, c.requires.2)
