-- What the answer of `overlay_fit` says: `fit-size`, `fit-beyond`.
-- Assumes nothing.
use Rattle.std.specs.Prelude.{Some, None}
use Rattle.std.proofs.lemmas.Option.{cond_some}
use Prim.Native.Nat.{ℕ, ◌≤◌, ◌<◌}
use native.Mathlib.Omega.{arith}
use mathlib.Core.Path.{◌≡◌, sym, ap}
use mathlib.Core.List.{List}
use lib.ListN.{length}
use lib.Dec.{leb}
use borrow.Author.Tests.{leb-true, leb-false}
use Rattle.slice.proofs.TestLaws.{cond-second}
use Rattle.packed.specs.Assignment.{AssignedSegment, size_segments}
use Rattle.packed_overlay.specs.Overlay.{fit_of}

-- so many records, and so many bytes, within the limit
pub record Fits (limit : ℕ) (gs : List AssignedSegment) (n z : ℕ) : Type 0 where
  pub count : n ≡ length gs
  pub size : z ≡ size_segments gs
  pub within : size_segments gs ≤ limit

module _ (limit : ℕ) (gs : List AssignedSegment) where
  pub fit-size : (n z : ℕ) → Some (n, z) ≡ fit_of limit gs → Fits limit gs n z
  unfolding fit_of
  fit-size n z e =
      let p = cond_some (leb (size_segments gs) limit) _ _ (sym e) in
      let f = sym p.1 in
      record { count = ap (λ (q : ℕ × ℕ). q.0) f; size = ap (λ (q : ℕ × ℕ). q.1) f; within = leb-true (size_segments gs) limit p.0 }

  pub fit-beyond : None ≡ fit_of limit gs → limit < size_segments gs
  unfolding fit_of
  fit-beyond e =
      leb-false (size_segments gs) limit (cond-second (leb (size_segments gs) limit) _ _ _ (λ q. let o : ◌≡◌ {A = ℕ} 0 1 = cc in omega arith) (sym e)).0
