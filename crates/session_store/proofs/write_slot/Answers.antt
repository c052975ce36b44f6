-- `session_store::write_slot` meets its contract: the bytes that are written are those of what they hold.
-- Assumes nothing.
use Prim.Native.Nat.{◌*◌}
use native.Mathlib.Omega.{arith}
use mathlib.Core.Path.{sym, ap, ◌∙◌}
use lib.Seq.{length-take-le}
use Rattle.slice_int.specs.Put.{put}
use Rattle.session_store.proofs.StoreLaws.{scratch-fits, scratch-bytes}
use Rattle.session_store.proofs.write_slot.Goals as goal

pub slice_bounds-put_bytes-end : goal.slice_bounds-put_bytes-end
slice_bounds-put_bytes-end c =
    let s = c in
    sym (length-take-le s.args.n s.args.b.now (omega (arith, scratch-fits _ _ s.requires.scratch, s.requires.scratch.long)))

pub put_bytes-requires : goal.put_bytes-requires
put_bytes-requires c =
    let s = c in
    let e = length-take-le s.args.n s.args.b.now (omega (arith, scratch-fits _ _ s.requires.scratch, s.requires.scratch.long)) in
    omega (arith, e, scratch-fits _ _ s.requires.scratch, s.requires.slot_size_in_bounds)

pub returns : goal.returns
returns c =
    let s = c in
    c.put_bytes.ensures
    ∙ ap (put s.args.store.now (2048 * s.args.k))
    (scratch-bytes s.args.b.now s.args.n s.requires.scratch
    (λ i. (c.type_inv.b i).fits))
