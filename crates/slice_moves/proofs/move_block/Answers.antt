-- `moves::move_block` meets its contract: four words, one behind the other (proofs/MoveLaws).
-- Assumes nothing.
use Rattle.slice_moves.proofs.MoveLaws.{four-words}
use Rattle.slice_moves.proofs.move_block.Goals as goal

pub returns : goal.returns
returns c =
    let d = c in
    let w = d in
    let v = w in
    let u = v in
    let r = u in
    let q = r in
    let p = q in
    let o = p in
    let k = o in
    let s = k in
    let a = s.args in
    rw (
      d.write_u64-4.ensures,
      w.write_u64-3.ensures,
      v.write_u64-2.ensures,
      u.write_u64.ensures,
      r.read_u64-z.ensures,
      q.read_u64-y.ensures,
      p.read_u64-x.ensures,
      o.read_u64-w.ensures,
    )
    (four-words a.b.now a.from a.to (λ i. (k.slice_known-1.given i).fits) s.requires.0 s.requires.1)
