-- `saved::write_positions` meets its contract. The invariant: the first k positions are written.
-- Assumes nothing.
use Prim.Native.Nat.{ℕ, ◌+◌}
use native.Mathlib.Omega.{arith}
use mathlib.Core.Path.{◌≡◌, refl, ap, ◌∙◌}
use lib.ListN.{length}
use Rattle.slice_int.specs.Put.{put}
use Rattle.session_saved.specs.Form.{encode_positions}
use Rattle.session_saved.proofs.FormLaws.{positions-none, positions-on, positions-long}
use Rattle.session_saved.proofs.write_positions.Goals as goal

pub loop-k-init : goal.loop-k-init
loop-k-init c = (positions-none _ _, refl)

pub loop-k-preserved : goal.loop-k-preserved
loop-k-preserved c =
    let e = positions-on _ _ c.loop-k.k _ _ c.loop-k-test.true c.requires c.loop-k.invariant.0 c.write_u64.ensures in
    (e, ap length e ∙ positions-long _ _ (c.loop-k.k + 1) (omega arith) c.requires)

pub returns : goal.returns
returns c =
    let e : c.loop-k.k ≡ 8 = omega arith in
    c.loop-k.invariant.0 ∙ ap (λ (n : ℕ). put c.args.out.now 40 (encode_positions n c.args.positions)) e
