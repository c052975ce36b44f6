-- What is left of the varint of v at a turn of a loop that goes through it byte by byte, over plain numbers and lists.
--
-- The varint starts at the place at, the loop is at the place i, and `left` are the bytes from there on. `varint_size` counts from 1, so
-- its place is its count.
--
-- In order: where a loop stands (`Left`), and its start (`left-all`, `left-start`); a byte that another follows (`left-before`,
-- `left-more`, `left-next`); the last byte (`left-last`, `left_end`); either (`left-inside`). Not here: the bytes that are stored
-- (proofs/WriteLaws).
-- Assumes nothing.
use Prim.Native.Nat.{ℕ, suc, ◌+◌, ◌-◌, ◌*◌, ◌/◌, ◌%◌, ◌^◌, ◌≤◌, ◌<◌}
use native.Mathlib.Nat.{eq-or-lt_of_le}
use native.Mathlib.Omega.{arith}
use mathlib.Core.Path.{◌≡◌, sym, ap, subst, ◌∙◌}
use mathlib.Core.Logic.{⊎_elim}
use mathlib.Core.List.{List, [], ◌∷◌}
use lib.ListN.{length}
use Rattle.wire_writer.specs.Encode.{varint_bytes_within, varint_bytes}
use Rattle.wire_writer.proofs.VarintBytesLaws.{bytes-ends, bytes-more, room_next, length-bytes-pos}

-- the bytes of rest, where i - at bytes of ten are passed
abbrev pub left : ℕ → ℕ → ℕ → List ℕ
left at i rest = varint_bytes_within (at + 10 - i) rest

-- behind at most nine bytes, with rest small enough for those that are left, which end where the varint of v does
pub record Left (at v i rest : ℕ) : Type 0 where
  pub begun : at ≤ i
  pub few : i ≤ at + 9
  pub fits : rest < 2 ^ (7 * (at + 9 - i) + 1)
  pub whole : i + length (left at i rest) ≡ at + length (varint_bytes v)

pub left-all : (at v : ℕ) → left at at v ≡ varint_bytes v
unfolding varint_bytes
left-all at v = let e : at + 10 - at ≡ 10 = omega arith in rw e

pub left-start : (at v : ℕ) → v < 2 ^ 64 → Left at v at v
left-start at v h =
    let e : at + 9 - at ≡ 9 = omega arith in
    record {
      begun = omega arith;
      few = omega arith;
      fits = subst (λ (k : ℕ). v < 2 ^ (7 * k + 1)) (sym e) h;
      whole = ap (λ (l : List ℕ). at + length l) (left-all at v);
    }

module _ (at v i rest : ℕ) (w : Left at v i rest) where
  -- the tenth byte is below 2, so that none follows it
  pub left-before : 128 ≤ rest → i < at + 9
  left-before h =
      ⊎_elim
      (λ e.
      let z : at + 9 - i ≡ 0 = omega arith in
      let g : rest < 2 = subst (λ (k : ℕ). rest < 2 ^ (7 * k + 1)) z w.fits in
      omega arith)
      (λ g. g)
      (eq-or-lt_of_le w.few)

  -- another byte follows
  pub left-more : 128 ≤ rest → left at i rest ≡ (rest % 128 + 128) ∷ left at (i + 1) (rest / 128)
  left-more h =
      let g = left-before h in
      let e : at + 10 - i ≡ suc (at + 10 - (i + 1)) = omega arith in
      ap (λ (k : ℕ). varint_bytes_within k rest) e ∙ bytes-more (at + 10 - (i + 1)) rest h

  pub left-next : 128 ≤ rest → Left at v (i + 1) (rest / 128)
  left-next h =
      let g = left-before h in
      let e : at + 9 - i ≡ suc (at + 9 - (i + 1)) = omega arith in
      record {
        begun = omega arith;
        few = omega arith;
        fits = room_next (at + 9 - (i + 1)) rest (subst (λ (k : ℕ). rest < 2 ^ (7 * k + 1)) e w.fits);
        whole = omega (arith, w.whole, ap length (left-more h));
      }

  -- the last byte
  pub left-last : rest < 128 → left at i rest ≡ rest ∷ []
  left-last h =
      let e : at + 10 - i ≡ suc (at + 9 - i) = omega arith in
      ap (λ (k : ℕ). varint_bytes_within k rest) e ∙ bytes-ends (at + 9 - i) rest h

  pub left_end : rest < 128 → i + 1 ≡ at + length (varint_bytes v)
  left_end h = omega (arith, w.whole, ap length (left-last h))

  -- the loop's place lies inside the varint
  pub left-inside : i < at + length (varint_bytes v)
  left-inside =
      let e : at + 10 - i ≡ suc (at + 9 - i) = omega arith in
      omega (arith, w.whole, ap (λ (k : ℕ). length (varint_bytes_within k rest)) e, length-bytes-pos (at + 9 - i) rest)
