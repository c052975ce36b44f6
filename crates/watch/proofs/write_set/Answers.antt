-- `watch::write_set` meets its contract: the buffer between and behind the two steps of proofs/DiffLaws.
-- Assumes nothing.
use native.Mathlib.Omega.{arith}
use mathlib.Core.Path.{sym}
use lib.Seq.{length-take-le}
use Rattle.slice.proofs.PartLaws.{Bytes}
use Rattle.watch.proofs.DiffLaws.{set-rises, taken-long, taken-rises, taken-apart, merged}
use Rattle.watch.proofs.write_set.Goals as goal

pub slice_bounds-take_out-end-2 : goal.slice_bounds-take_out-end-2
slice_bounds-take_out-end-2 c = sym (length-take-le _ _ c.requires.used_in_bounds)

pub take_out-k-requires : goal.take_out-k-requires
take_out-k-requires c = (set-rises _ c.requires.buffer_value, c.requires.rises.1)

pub merge-requires : goal.merge-requires
merge-requires c =
    let d = (let it : (Bytes c.args.buffer.now) = λ i. (c.slice_known-1.given i).fits in it) in
    let e = c.take_out-k.ensures in
    let l = taken-long _ _ c.requires.used_in_bounds d c.requires.buffer_value _ _ _ e.0 e.1 in
    let r = taken-rises _ _ c.requires.used_in_bounds d c.requires.buffer_value _ _ _ e.0 e.1 in
    let a = taken-apart _ _ c.requires.used_in_bounds d c.requires.buffer_value _ _ _ e.0 e.1 _ c.requires.apart in
    record { in_bounds = omega (arith, l, e.0, c.requires.added_in_bounds); rises = (r, c.requires.rises.0); apart = a }

pub returns : goal.returns
returns c =
    let d = (let it : (Bytes c.args.buffer.now) = λ i. (c.slice_known-1.given i).fits in it) in
    let e = c.take_out-k.ensures in
    let m = c.merge.ensures in
    merged _ _ c.requires.used_in_bounds d c.requires.buffer_value _ _ _ e.0 e.1 _ c.requires.apart _ _ c.requires.rises.0.rises m.0 m.1
