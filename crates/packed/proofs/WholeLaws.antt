-- What the answer of `read_whole` says: a packed assignment with its records (`Whole`, `whole-read`), or none (`not-assignment`).
-- Assumes nothing.
use Rattle.std.proofs.lemmas.Option.{same_Some}
use Rattle.std.specs.Prelude.{Some, None}
use Rattle.std.proofs.lemmas.Option.{cond_some}
use Prim.Native.Nat.{ℕ}
use native.Mathlib.Omega.{arith}
use mathlib.Core.Path.{◌≡◌, sym, ap, ◌∙◌}
use mathlib.Core.Bool.{true, false}
use mathlib.Core.List.{List}
use lib.ListN.{length, drop}
use Rattle.slice.specs.BoolLaws.{both_true}
use Rattle.slice.proofs.TestLaws.{cond-second}
use Rattle.slice_int.specs.Be.{be_at}
use Rattle.packed.specs.Assignment.{num, decode_segments, decode_assignment, starts_assignment, is_assignment}
use Rattle.packed.specs.Answers.{whole_read}
use Rattle.packed.proofs.AssignmentLaws.{length-segments_of, first-segments, Rest, rest-start}

-- a packed assignment with n segments
pub record Whole (s : List ℕ) (n : ℕ) : Type 0 where
  pub is-assignment : is_assignment s ≡ true
  pub count : n ≡ length (decode_assignment s).segments
  pub segments-are : (decode_assignment s).segments ≡ decode_segments n (drop 10 s)
  pub records : Rest s 10 n

pub whole-read : (s : List ℕ) (z n : ℕ) → Some (z, n) ≡ whole_read s → Whole s n
unfolding whole_read is_assignment decode_assignment num be_at
whole-read s z n e =
    let p = cond_some (is_assignment s) _ _ (sym e) in
    let a : n ≡ length (decode_assignment s).segments = sym (ap (λ (q : ℕ × ℕ). q.1) p.1) in
    let b : n ≡ be_at 2 s 8 = a ∙ length-segments_of _ _ in
    record {
      is-assignment = p.0;
      count = a;
      segments-are = first-segments s n b;
      records = rest-start s n (both_true (starts_assignment s) _ p.0).0 b;
    }

pub not-assignment : (s : List ℕ) → None ≡ whole_read s → is_assignment s ≡ false
unfolding whole_read
not-assignment s e = (cond-second (is_assignment s) _ _ _ (λ q. let o : ◌≡◌ {A = ℕ} 0 1 = cc in omega arith) (sym e)).0
