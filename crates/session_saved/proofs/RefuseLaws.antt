-- The claims of specs/Refuses: one byte that is another (`one-byte-refused`), a form that is cut (`cut-refused`), and 64 (`refused-with-64`).
-- Assumes nothing.
use Prim.Native.Nat.{ℕ, suc, ◌+◌, ◌-◌, ◌≤◌, ◌<◌}
use native.Mathlib.Decide.{dec_le}
use native.Mathlib.Omega.{arith}
use mathlib.Core.Path.{◌≡◌, refl, sym, ap, ◌∙◌}
use mathlib.Core.Bool.{Bool, true, false}
use mathlib.Core.List.{List}
use lib.ListN.{length, take, drop, get_or, set, length-set, length-drop}
use lib.Seq.{take_all, take-take, take-set-le, take-set-lt, drop-set-lt, get_or-take, get_or-drop, get_or-set_same, length-take-le}
use lib.Dec.{leb, eqb}
use borrow.Author.Tests.{eqb-true}
use Rattle.slice.specs.BoolLaws.{both_true}
use Rattle.slice.specs.Bytes.{Bytes}
use Rattle.slice.proofs.PartLaws.{Bytes-take, Bytes-drop, Bytes-set, drop-take}
use Rattle.slice_int.specs.Be.{be, be_at, bytes_of}
use Rattle.slice_int.proofs.BeLaws.{bytes_of-be}
use Rattle.crc32.specs.Crc.{crc32}
use Rattle.crc32.proofs.DiffersLaws.{one-byte-told}
use Rattle.session_saved.specs.Form.{mark, sum_holds, is_saved}
use Rattle.session_saved.specs.Saved.{restore_outcome}
use Rattle.session_saved.specs.Refuses.{OneByteRefused, CutRefused, RefusedWith64}
use Rattle.session_saved.proofs.CallLaws.{saved-long}

-- ---- what a form says

module _ (f : List ℕ) (e : is_saved f ≡ true) where
  tests : (be_at 4 f 4 ≡ length f) × (sum_holds f ≡ true)
  unfolding is_saved
  tests =
      let a = both_true (leb 6255 (length f)) _ e in
      let b = both_true (eqb (be_at 4 f 0) mark) _ a.1 in
      let c = both_true (eqb (be_at 4 f 4) (length f)) (sum_holds f) b.1 in
      (eqb-true _ _ c.0, c.1)

  sum_told : be_at 4 f (length f - 4) ≡ crc32 (take (length f - 4) f)
  unfolding sum_holds
  sum_told = eqb-true _ _ tests.1

-- ---- one byte that is another

module _ (f : List ℕ) (i v : ℕ) (bytes : Bytes f) (e : is_saved f ≡ true) (h : i < length f) (k : v < 256) (s : is_saved (set f i v) ≡ true) where
  abbrev g : List ℕ
  g = set f i v

  abbrev m : ℕ
  m = length f - 4

  long : 6255 ≤ length f
  long = saved-long f e

  sum_then : be_at 4 g m ≡ crc32 (take m g)
  sum_then =
      let l : length g - 4 ≡ m = ap (λ (n : ℕ). n - 4) (length-set f i v) in
      ap (be_at 4 g) (sym l) ∙ sum_told g s ∙ ap (λ (n : ℕ). crc32 (take n g)) l

  -- before the checksum: another checksum is due
  in_body : i < m → v ≡ get_or f i 0
  unfolding be_at
  in_body l =
      let a : crc32 (set (take m f) i v) ≡ crc32 (take m f) =
      ap crc32 (sym (take-set-lt m f i v l))
      ∙ sym sum_then
      ∙ ap (λ (x : List ℕ). be (take 4 x)) (drop-set-lt m f i v l)
      ∙ sum_told f e in
      one-byte-told (take m f) i v (Bytes-take m f bytes) (omega (arith, length-take-le m f (omega arith))) k a ∙ get_or-take m f i 0 l

  -- in the checksum: another one stands there
  in_sum : m ≤ i → v ≡ get_or f i 0
  unfolding be_at
  in_sum l =
      let la : length (drop m f) ≡ 4 = length-drop m f ∙ omega (arith, long) in
      let lg : length (drop m g) ≡ 4 = length-drop m g ∙ omega (arith, long, length-set f i v) in
      let a : be (take 4 (drop m g)) ≡ be (take 4 (drop m f)) =
      sum_then ∙ ap crc32 (take-set-le m f i v l) ∙ sym (sum_told f e) in
      let b : drop m g ≡ drop m f =
      sym (bytes_of-be 4 (drop m g) lg (Bytes-drop m g (Bytes-set f i v k bytes)))
      ∙ ap (λ (x : List ℕ). bytes_of 4 (be x)) (sym (take_all 4 (drop m g) (omega arith)))
      ∙ ap (bytes_of 4) a
      ∙ ap (λ (x : List ℕ). bytes_of 4 (be x)) (take_all 4 (drop m f) (omega arith))
      ∙ bytes_of-be 4 (drop m f) la (Bytes-drop m f bytes) in
      let j : m + (i - m) ≡ i = omega arith in
      sym (get_or-set_same f i v 0 h)
      ∙ ap (λ (n : ℕ). get_or g n 0) (sym j)
      ∙ sym (get_or-drop m g (i - m) 0)
      ∙ ap (λ (x : List ℕ). get_or x (i - m) 0) b
      ∙ get_or-drop m f (i - m) 0
      ∙ ap (λ (n : ℕ). get_or f n 0) j

  same_byte : v ≡ get_or f i 0
  same_byte = go (dec_le (suc i) m)
    where
      go : Dec (suc i ≤ m) → v ≡ get_or f i 0
      go (yes l) = in_body (omega arith)
      go (no l) = in_sum (omega arith)

pub one-byte-refused : OneByteRefused
one-byte-refused f i v bytes e h k n = go (is_saved (set f i v)) refl
  where
    go : (t : Bool) → is_saved (set f i v) ≡ t → is_saved (set f i v) ≡ false
    go true s = absurd (n (same_byte f i v bytes e h k s))
    go false s = s

-- ---- a form that is cut

pub cut-refused : CutRefused
unfolding be_at
cut-refused f n e h = go (is_saved (take n f)) refl
  where
    go : (t : Bool) → is_saved (take n f) ≡ t → is_saved (take n f) ≡ false
    go false s = s
    go true s =
        let l : length (take n f) ≡ n = length-take-le n f (omega arith) in
        let b : 6255 ≤ length (take n f) = saved-long (take n f) s in
        let j : 4 + (n - 4) ≡ n = omega arith in
        let d : drop 4 (take n f) ≡ take (n - 4) (drop 4 f) =
        ap (λ (x : ℕ). drop 4 (take x f)) (sym j) ∙ drop-take 4 (n - 4) f in
        let r : be_at 4 (take n f) 4 ≡ be_at 4 f 4 =
        ap (λ (x : List ℕ). be (take 4 x)) d ∙ ap be (take-take 4 (n - 4) (drop 4 f) (omega arith)) in
        absurd (omega (arith, sym (tests (take n f) s).0 ∙ r ∙ (tests f e).0))

-- ---- 64

pub refused-with-64 : RefusedWith64
unfolding restore_outcome
refused-with-64 f store e = simp e
