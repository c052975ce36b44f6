-- `topics::find_between` meets its contract: a place in the part is as far from its start.
-- Assumes nothing.
use native.Mathlib.Omega.{arith}
use Rattle.watch_topics.proofs.SeekLaws.{between-room, place-shift}
use Rattle.watch_topics.proofs.find_between.Goals as goal

pub overflow_add-result : goal.overflow_add-result
overflow_add-result c =
    let f = c.find-p in
    omega (
      arith,
      between-room c.args.s.now c.args.t.now c.args.low c.args.high (λ i. (c.shared_slice_known-1.given i).fits)
          c.requires.low_le_high.0 c.requires.low_le_high.1 c.requires.s_value f.result f.ensures,
      c.requires.low_le_high.1,
      c.well_formed.0.0,
    )

pub returns : goal.returns
returns c =
    let f = c.find-p in
    place-shift c.args.t.now c.args.low _ f.result f.ensures
