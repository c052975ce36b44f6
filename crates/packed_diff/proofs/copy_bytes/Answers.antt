-- `difference::copy_bytes` meets its contract. The invariant: at least the first i bytes are copied (proofs/CopyLaws). The measure is what is left before the last eight.
-- Assumes nothing.
use Prim.Native.Nat.{ℕ, ◌+◌, ◌-◌}
use native.Mathlib.Omega.{arith}
use mathlib.Core.Path.{◌≡◌, refl, sym, ap, ◌∙◌}
use lib.ListN.{take, drop}
use Rattle.slice.proofs.PartLaws.{Bytes}
use Rattle.slice_int.specs.Put.{put}
use Rattle.slice_int.proofs.PutLaws.{put-nil}
use Rattle.packed_diff.proofs.CopyLaws.{number-bytes, copy_more}
use Rattle.packed_diff.proofs.copy_bytes.Goals as goal

pub loop-i-init : goal.loop-i-init
loop-i-init c = let a = c.args in (omega arith, refl, sym (put-nil a.out.now a.at))

pub loop-i-preserved : goal.loop-i-preserved
loop-i-preserved c = (
  omega arith,
  c.write_u64.auto.out ∙ c.loop-i.invariant.1,
  (let it : (_ ≡ put c.args.out.now c.args.at (take (c.loop-i.i + 8) (drop c.args.p c.args.x.now))) = let a = c.args in
      let b : Bytes a.x.now = λ i. (c.type_inv.x i).fits in
      copy_more a.out.now a.x.now a.at a.p c.loop-i.i c.loop-i.i 8 c.loop-i.out _ (omega arith) (omega arith) (omega arith) (omega arith) c.loop-i.invariant.2
      (c.write_u64.ensures ∙ ap (put c.loop-i.out (a.at + c.loop-i.i)) (number-bytes 8 a.x.now (a.p + c.loop-i.i) _ b (omega arith) c.read_u64.ensures)) in it),
)

pub shape_of-out : goal.shape_of-out
shape_of-out c = c.write_u64-2.auto.out ∙ c.loop-i.invariant.1

pub returns : goal.returns
returns c =
    let a = c.args in
    let e : a.n - 8 + 8 ≡ a.n = omega arith in
    (let it : (_ ≡ put c.args.out.now c.args.at (take ((a.n - 8) + 8) (drop c.args.p c.args.x.now))) = let k = c in
    let a = k.args in
    let b : Bytes a.x.now = λ i. (k.type_inv.x i).fits in
    copy_more a.out.now a.x.now a.at a.p c.loop-i.i (a.n - 8) 8 c.loop-i.out _ (omega arith) (omega arith) (omega arith) (omega arith) c.loop-i.invariant.2
    (c.write_u64-2.ensures ∙ ap (put c.loop-i.out (a.at + (a.n - 8))) (number-bytes 8 a.x.now (a.p + (a.n - 8)) _ b (omega arith) c.read_u64-2.ensures)) in it)
    ∙ ap (λ (k : ℕ). put a.out.now a.at (take k (drop a.p a.x.now))) e
