-- The Rust's equality of texts is this port's (`text_same`).
-- Assumes nothing.
use mathlib.Core.Path.{◌≡◌, refl, ap}
use mathlib.Core.Bool.{Bool, ◌&&◌}
use mathlib.Core.List.{[], ◌∷◌}
use lib.Dec.{eqb}
use Rattle.slice.specs.Same.{same_bytes}
use Rattle.rust_magnetar.specs.Text.{Text, text-eq}

pub text_same : (a b : Text) → text-eq a b ≡ same_bytes a b
unfolding same_bytes
text_same [] [] = refl
text_same [] (y ∷ b) = refl
text_same (x ∷ a) [] = refl
text_same (x ∷ a) (y ∷ b) = ap (λ (t : Bool). eqb x y && t) (text_same a b)
