-- What `read_whole` takes starts with a packed assignment. Assumes nothing.
use Rattle.std.specs.Prelude.{Some, None}
use Prim.Native.Nat.{ℕ}
use native.Mathlib.Omega.{arith}
use mathlib.Core.Path.{◌≡◌, refl, ◌∙◌}
use mathlib.Core.Bool.{Bool, true, false}
use mathlib.Core.List.{List}
use Rattle.slice.specs.BoolLaws.{both_true}
use Rattle.packed.specs.Assignment.{starts_assignment, is_assignment}
use Rattle.packed.specs.Answers.{whole_read}

pub starts-whole : (s : List ℕ) (z n : ℕ) → Some (z, n) ≡ whole_read s → starts_assignment s ≡ true
unfolding whole_read is_assignment
starts-whole s z n e = go (is_assignment s) refl
  where
    go : (t : Bool) → is_assignment s ≡ t → starts_assignment s ≡ true
    go true h = (both_true (starts_assignment s) _ h).0
    go false h =
        let f : Some (z, n) ≡ None = e ∙ rw h in
        let q : ◌≡◌ {A = ℕ} 0 1 = cc in
        absurd (omega arith)
