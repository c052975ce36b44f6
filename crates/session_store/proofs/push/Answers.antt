-- `session_store::push` meets its contract: length and list are written one behind the other.
-- Assumes nothing.
use Prim.Native.Nat.{◌+◌, ◌≤◌}
use native.Mathlib.Omega.{arith}
use mathlib.Core.Path.{◌≡◌, sym, ap, ◌∙◌}
use lib.ListN.{length, take}
use lib.Seq.{length-take-le}
use Rattle.slice_int.specs.Be.{bytes_of}
use Rattle.slice_int.specs.Put.{put}
use Rattle.slice_int.proofs.BeLaws.{length-bytes_of}
use Rattle.slice_int.proofs.PutLaws.{put-after, length-put}
use Rattle.session_store.proofs.StoreLaws.{scratch-fits, scratch-entry}
use Rattle.session_store.proofs.push.Goals.{Start}
use Rattle.session_store.proofs.push.Goals as goal

-- the list's part of the buffer
front : (s : Start) → length (take s.args.n s.args.b.now) ≡ s.args.n
front s = length-take-le s.args.n s.args.b.now (omega (arith, scratch-fits _ _ s.requires.scratch, s.requires.scratch.long))

room : (s : Start) → s.args.at + length (bytes_of 2 s.args.n) ≤ length s.args.store.now
room s = omega (arith, length-bytes_of 2 s.args.n, s.requires.n_in_bounds)

pub overflow_cast-n : goal.overflow_cast-n
overflow_cast-n c = let s = c in record { fits = omega (arith, scratch-fits _ _ s.requires.scratch) }

pub slice_bounds-put_bytes-end : goal.slice_bounds-put_bytes-end
slice_bounds-put_bytes-end c = sym (front (goal.at.slice_bounds-put_bytes-end c).Start)

pub put_bytes-requires : goal.put_bytes-requires
put_bytes-requires c =
    let w = c in
    let s = w in
    omega (arith, front (goal.at.put_bytes-requires c).Start, s.requires.n_in_bounds, ap length w.write_u16.ensures, length-put s.args.store.now s.args.at (bytes_of 2 s.args.n) (room (goal.at.put_bytes-requires c).Start))

pub returns : goal.returns
returns c =
    let p = c in
    let w = p in
    let s = w in
    let st = s.args.store.now in
    let at = s.args.at in
    let n = s.args.n in
    let l = length-bytes_of 2 n in
    p.put_bytes.ensures
    ∙ ap (λ o. put o (at + 2) (take n s.args.b.now)) w.write_u16.ensures
    ∙ ap (λ m. put (put st at (bytes_of 2 n)) (at + m) (take n s.args.b.now)) (sym l)
    ∙ put-after st at (bytes_of 2 n) (take n s.args.b.now) (omega (arith, l, front (goal.at.returns c).Start, s.requires.n_in_bounds))
    ∙ ap (put st at) (scratch-entry s.args.b.now n s.requires.scratch (λ i. (c.type_inv.b i).fits))
