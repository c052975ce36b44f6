-- `write_segment_topic` meets its contract: a name that does not fit is refused; another is put in three pieces, each behind the one before.
-- Assumes nothing.
use Prim.Native.Nat.{◌+◌, ◌-◌}
use native.Mathlib.Omega.{arith}
use mathlib.Core.Path.{◌≡◌, sym, ap, ◌∙◌}
use lib.ListN.{length}
use Rattle.name_topic.specs.Names.{descriptor}
use Rattle.name_topic.specs.Build.{name_outcome}
use Rattle.name_topic.proofs.TailLaws.{descriptor-part, descriptor-from}
use Rattle.name_topic.proofs.BuildLaws.{name-no-room, name-written}
use Rattle.name_topic.proofs.write_segment_topic.Goals.{then-out-rest-via-then-out-rest, then-out-rest-via-else-out-rest+then-out-rest-2}
use Rattle.name_topic.proofs.write_segment_topic.Goals as goal

pub returns-then-out-rest : goal.returns-then-out-rest
returns-then-out-rest c =
    let a = c.args in
    let d = c.descriptor_of-tail in
    let rest : 42 - d.result.from ≡ 10 + length (descriptor a.range a.id) =
    omega (arith, descriptor-from a.range a.id d.result d.ensures, d.ensures.room.high) in
    elim c.then-out-rest.branch [
      | then-out-rest-via-then-out-rest w ↦ sym (name-no-room a.path.now a.range a.id a.out.now _ rest (omega (arith, w.if-out-rest.true)))
      | then-out-rest-via-else-out-rest+then-out-rest-2 w ↦
          sym (name-no-room a.path.now a.range a.id a.out.now _ rest (omega (arith, w.if-out-rest.false, w.if-out-rest-2.true)))
    ]

pub returns : goal.returns
returns c =
    let d = c.descriptor_of-tail in
    let a = c.args in
    let rest : 42 - d.result.from ≡ 10 + length (descriptor a.range a.id) =
    omega (arith, descriptor-from a.range a.id d.result d.ensures, d.ensures.room.high) in
    let part = descriptor-part a.range a.id d.result d.ensures in
    let wrote = rw (part, c.put_bytes-2.ensures, c.put_bytes.ensures) at c.put_bytes-3.ensures in
    ap (name_outcome _) wrote ∙ sym (name-written a.path.now a.range a.id a.out.now _ rest (omega arith))
