-- `put_bytes` meets its contract. The invariant: the first i bytes are put. The measure is what is left of src.
-- Assumes nothing.
use Prim.Native.Nat.{ℕ, ◌+◌, ◌-◌, ◌≤◌, ◌<◌}
use native.Mathlib.Numerals.{add-one}
use native.Mathlib.Omega.{arith}
use mathlib.Core.Path.{◌≡◌, refl, sym, ap, ◌∙◌}
use mathlib.Core.List.{List}
use lib.ListN.{length, take, set, get_or, length-set}
use lib.Seq.{take-suc, take_all, length-take-le}
use Rattle.slice_int.specs.Put.{put}
use Rattle.slice_int.proofs.PutLaws.{put-nil, put-snoc, length-put}
use Rattle.slice_int.proofs.put_bytes.Goals as goal

-- one byte more
next : (o : List ℕ) (at : ℕ) (s : List ℕ) (i : ℕ) (out : List ℕ) → i < length s → at + length s ≤ length o → out ≡ put o at (take i s)
    → set out (at + i) (get_or s i 0) ≡ put o at (take (i + 1) s)
next o at s i out h k e =
    ap (λ (l : List ℕ). set l (at + i) (get_or s i 0)) e
    ∙ put-snoc o at i (take i s) (get_or s i 0) (length-take-le i s (omega arith)) (omega arith)
    ∙ rw (add-one i, take-suc s i 0 h)

pub loop-i-init : goal.loop-i-init
loop-i-init c = (omega arith, refl, sym (put-nil c.args.out.now c.args.at))

pub loop-i-preserved : goal.loop-i-preserved
loop-i-preserved c =
    let a = c.args in
    let l = c.loop-i in
    (omega arith, length-set l.out _ _ ∙ l.invariant.1, next a.out.now a.at a.src.now l.i l.out (omega arith) (omega arith) l.invariant.2)

pub shape_of-out : goal.shape_of-out
shape_of-out c = c.loop-i.invariant.1

pub returns : goal.returns
returns c =
    let a = c.args in
    let l = c.loop-i in
    l.invariant.2 ∙ ap (put a.out.now a.at) (take_all l.i a.src.now (omega arith))
