-- `saved::write_record` meets its contract: eight writes, each right before the last.
-- Assumes nothing.
use native.Mathlib.Omega.{arith}
use mathlib.Core.Path.{◌≡◌, refl, ◌∙◌}
use lib.ListN.{length, set, length-set}
use Rattle.session_saved.proofs.FormLaws.{record-written}
use Rattle.session_saved.proofs.write_record.Goals.{Start}
use Rattle.session_saved.proofs.write_record.Goals as goal

-- a byte stored changes no length
last-flag : (s : Start) → length (set s.args.out.now 106 s.args.r.invalidated) ≡ length s.args.out.now
last-flag s = length-set s.args.out.now 106 s.args.r.invalidated

two-flags : (s : Start)
    → length (set (set s.args.out.now 106 s.args.r.invalidated) 105 s.args.r.registered) ≡ length s.args.out.now
two-flags s = length-set (set s.args.out.now 106 s.args.r.invalidated) 105 s.args.r.registered ∙ last-flag s

flags : (s : Start)
    → length (set (set (set s.args.out.now 106 s.args.r.invalidated) 105 s.args.r.registered) 104 s.args.r.has_floor)
    ≡ length s.args.out.now
flags s =
    length-set (set (set s.args.out.now 106 s.args.r.invalidated) 105 s.args.r.registered) 104 s.args.r.has_floor
    ∙ two-flags s

pub bounds-out-105 : goal.bounds-out-105
bounds-out-105 c = omega (arith, last-flag (goal.at.bounds-out-105 c).Start)

pub bounds-out-104 : goal.bounds-out-104
bounds-out-104 c = omega (arith, two-flags (goal.at.bounds-out-104 c).Start)

pub write_positions-requires : goal.write_positions-requires
write_positions-requires c = omega (arith, flags (goal.at.write_positions-requires c).Start)

pub write_u64-requires : goal.write_u64-requires
write_u64-requires c = omega (arith, flags (goal.at.write_u64-requires c).Start)

pub write_u64-requires-2 : goal.write_u64-requires-2
write_u64-requires-2 c = omega (arith, flags (goal.at.write_u64-requires-2 c).Start)

pub write_u64-requires-3 : goal.write_u64-requires-3
write_u64-requires-3 c = omega (arith, flags (goal.at.write_u64-requires-3 c).Start)

pub write_u64-requires-4 : goal.write_u64-requires-4
write_u64-requires-4 c =
    omega (arith, flags (goal.at.write_u64-requires-4 c).Start)

pub shape_of-out : goal.shape_of-out
shape_of-out c =
    omega (
      arith,
      flags (goal.at.shape_of-out c).Start,
    )

pub returns : goal.returns
returns c =
    let w4 = c in
    let w3 = w4 in
    let w2 = w3 in
    let w1 = w2 in
    let p = w1 in
    let s = p in
    record-written s.args.out.now s.args.r _ _ _ _ _ _ _ _ s.requires
    (record {
      invalidated = refl;
      registered = refl;
      has-floor = refl;
      positions = p.write_positions.ensures;
      count = w1.write_u64.ensures;
      floor = w2.write_u64-2.ensures;
      incarnation = w3.write_u64-3.ensures;
      consumer = w4.write_u64-4.ensures;
    })
