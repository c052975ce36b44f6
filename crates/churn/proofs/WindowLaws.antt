-- Laws of a window's bytes.
--
-- In order: which bytes are one (`window-valid`, `window-short`, `window-beyond`); a count pushed (`pushed-mark`,
-- `pushed_row`, `pushed-valid`, `pushed-counts`); cleared (`cleared-empty`); the places in use give both answers
-- (`reckoned`); the answers of the calls (`push-large` to `current-answer`).
-- Assumes nothing.
use Rattle.std.specs.Prelude.{Ok, Err}
use Prim.Native.Nat.{ℕ, ◌+◌, ◌-◌, ◌*◌, ◌%◌, ◌≤◌, ◌<◌, min}
use native.Mathlib.Omega.{arith}
use mathlib.Core.Path.{◌≡◌, refl, sym, ap, ◌∙◌}
use mathlib.Core.Bool.{Bool, true, false, and-false, or-true}
use mathlib.Core.List.{List, [], ◌∷◌, ◌++◌}
use lib.ListN.{length, drop, set, length-drop}
use lib.Dec.{leb, ltb}
use borrow.Author.Tests.{le-leb, lt-leb, leb-true, lt-ltb, le-ltb, ltb-true, ltb-false}
use Rattle.slice.specs.BoolLaws.{both_true}
use Rattle.refusal.specs.declared.Refusal.TheVariants.{InvalidWindow}
use Rattle.slice_int.specs.Be.{be_at, bytes_of}
use Rattle.slice_int.specs.Put.{put}
use Rattle.slice_int.proofs.BeLaws.{length-bytes_of}
use Rattle.slice_int.proofs.PutLaws.{length-put}
use Rattle.churn.specs.declared.Totals.{Totals}
use Rattle.churn.specs.Window.{counts_in, mark_of, row_of, is_window, held_in, counts_of, next_mark, pushed, cleared}
use Rattle.churn.specs.Churn.{sum_of, largest_of, totals_of, churn_outcome, push, clear, current}
use Rattle.churn.specs.Fresh.{latest}
use Rattle.churn.proofs.CountLaws.{counts-row, length-row, take_row, behind-drop, front-first, front-drop, set-counts}
use Rattle.churn.proofs.CountLaws.{totals-turned, held-few, held_all, held_next, next-below}

-- a window's length and mark
pub record Window (w : List ℕ) : Type 0 where
  pub long : 514 ≤ length w
  pub mark-below : mark_of w < 512

pub mark-read : (w : List ℕ) (m : ℕ) → m ≡ be_at 2 w 0 → m ≡ mark_of w
unfolding mark_of
mark-read w m e = e

pub window-read : (w : List ℕ) (m : ℕ) → m ≡ be_at 2 w 0 → 514 ≤ length w → m < 512 → Window w
window-read w m e h k = record { long = h; mark-below = omega (arith, mark-read w m e) }

module _ (w : List ℕ) where
  pub window-valid : Window w → is_window w ≡ true
  unfolding is_window
  window-valid g = simp (le-leb 514 (length w) g.long, lt-ltb (mark_of w) 512 g.mark-below)

  pub window-is : is_window w ≡ true → Window w
  unfolding is_window
  window-is e =
      let b = both_true (leb 514 (length w)) _ e in record { long = leb-true 514 (length w) b.0; mark-below = ltb-true (mark_of w) 512 b.1 }

  pub window-short : length w < 514 → is_window w ≡ false
  unfolding is_window
  window-short h = simp (lt-leb 514 (length w) h)

  pub window-beyond : 512 ≤ mark_of w → is_window w ≡ false
  unfolding is_window
  window-beyond h = simp (le-ltb (mark_of w) 512 h, and-false)

  length-places : length (row_of w) ≡ 256
  unfolding row_of
  length-places = length-row counts-row 256 (drop 2 w)

-- ---- a mark written

module _ (w : List ℕ) (m : ℕ) (h : 2 ≤ length w) (k : m < 65536) where
  marked-mark : mark_of (put w 0 (bytes_of 2 m)) ≡ m
  unfolding mark_of
  marked-mark = front-first w m k

  marked_row : row_of (put w 0 (bytes_of 2 m)) ≡ row_of w
  unfolding row_of
  marked_row = ap (counts_in 256) (front-drop w m k)

  marked-length : length (put w 0 (bytes_of 2 m)) ≡ length w
  marked-length = length-put w 0 (bytes_of 2 m) (omega (arith, length-bytes_of 2 m))

-- ---- a count pushed

module _ (w : List ℕ) (g : Window w) (c : ℕ) (h : c < 65536) where
  abbrev slot : ℕ
  slot = mark_of w % 256

  slot-below : slot < 256
  slot-below = omega arith

  -- the window with the count in its place
  abbrev counted : List ℕ
  counted = put w (2 + 2 * slot) (bytes_of 2 c)

  counted-length : length counted ≡ length w
  counted-length =
      let b : slot < 256 = slot-below in
      length-put w (2 + 2 * slot) (bytes_of 2 c) (omega (arith, length-bytes_of 2 c, g.long))

  counted-row : row_of counted ≡ set (row_of w) slot c
  unfolding row_of
  counted-row =
      let l : 514 ≤ length w = g.long in
      let b : 2 ≤ length w = omega arith in
      ap (counts_in 256) (behind-drop w (2 * slot) (bytes_of 2 c) b)
      ∙ set-counts slot 256 (drop 2 w) c slot-below (omega (arith, length-drop 2 w)) h

  next_fits : next_mark (mark_of w) < 65536
  next_fits = omega (arith, next-below (mark_of w) g.mark-below)

  room : 2 ≤ length counted
  room = omega (arith, counted-length, g.long)

  pub pushed-mark : mark_of (pushed w c) ≡ next_mark (mark_of w)
  unfolding pushed
  pushed-mark = marked-mark counted (next_mark (mark_of w)) room next_fits

  pushed_row : row_of (pushed w c) ≡ set (row_of w) slot c
  unfolding pushed
  pushed_row = marked_row counted (next_mark (mark_of w)) room next_fits ∙ counted-row

  pushed-length : length (pushed w c) ≡ length w
  unfolding pushed
  pushed-length = marked-length counted (next_mark (mark_of w)) room next_fits ∙ counted-length

  pub pushed-window : Window (pushed w c)
  pushed-window =
      record {
        long = omega (arith, pushed-length, g.long);
        mark-below = omega (arith, pushed-mark, next-below (mark_of w) g.mark-below);
      }

  pub pushed-counts : counts_of (pushed w c) ≡ latest 256 (counts_of w ++ (c ∷ []))
  unfolding counts_of
  pushed-counts =
      ap (λ (m : ℕ). held_in m (row_of (pushed w c))) pushed-mark
      ∙ ap (held_in (next_mark (mark_of w))) pushed_row
      ∙ held_next (row_of w) c (length-places w) (mark_of w) g.mark-below

-- ---- cleared

module _ (w : List ℕ) (h : 2 ≤ length w) where
  cleared-is : cleared w ≡ put w 0 (bytes_of 2 0)
  unfolding cleared
  cleared-is = simp (le-leb 2 (length w) h)

  pub cleared-window : 514 ≤ length w → Window (cleared w)
  cleared-window k =
      let e : length (cleared w) ≡ length w = ap length cleared-is ∙ marked-length w 0 h (omega arith) in
      let f : mark_of (cleared w) ≡ 0 = ap mark_of cleared-is ∙ marked-mark w 0 h (omega arith) in
      record { long = omega arith; mark-below = omega arith }

  pub cleared-counts : counts_of (cleared w) ≡ []
  unfolding counts_of
  cleared-counts =
      let f : mark_of (cleared w) ≡ 0 = ap mark_of cleared-is ∙ marked-mark w 0 h (omega arith) in
      ap (λ (m : ℕ). held_in m (row_of (cleared w))) f ∙ held-few 0 (row_of (cleared w)) (omega arith)

-- ---- the places in use

pub reckoned : (w : List ℕ) → totals_of (counts_in (min (mark_of w) 256) (drop 2 w)) ≡ totals_of (counts_of w)
unfolding counts_of row_of
reckoned w = go (ltb (mark_of w) 256) refl
  where
    go : (t : Bool) → ltb (mark_of w) 256 ≡ t → totals_of (counts_in (min (mark_of w) 256) (drop 2 w)) ≡ totals_of (counts_of w)
    go true e =
        let h : mark_of w < 256 = ltb-true (mark_of w) 256 e in
        let n : min (mark_of w) 256 ≡ mark_of w = omega arith in
        ap (λ (k : ℕ). totals_of (counts_in k (drop 2 w))) n
        ∙ ap totals_of (sym (take_row counts-row (mark_of w) 256 (drop 2 w) (omega arith)))
        ∙ ap totals_of (sym (held-few (mark_of w) (counts_in 256 (drop 2 w)) h))
    go false e =
        let h : 256 ≤ mark_of w = ltb-false (mark_of w) 256 e in
        let n : min (mark_of w) 256 ≡ 256 = omega arith in
        ap (λ (k : ℕ). totals_of (counts_in k (drop 2 w))) n
        ∙ sym (totals-turned (mark_of w - 256) (counts_in 256 (drop 2 w)))
        ∙ ap totals_of (sym (held_all (mark_of w) (counts_in 256 (drop 2 w)) h))

-- ---- the answers of the calls

module _ (w : List ℕ) (c : ℕ) where
  pub push-large : 65535 < c → churn_outcome (Err InvalidWindow) w ≡ push w c
  unfolding push
  push-large h = simp (lt-ltb 65535 c h)

  pub push-not : is_window w ≡ false → churn_outcome (Err InvalidWindow) w ≡ push w c
  unfolding push
  push-not e = simp (e, or-true)

  module _ (h : c ≤ 65535) (g : Window w) where
    pub push-is : push w c ≡ churn_outcome (Ok (totals_of (counts_of (pushed w c)))) (pushed w c)
    unfolding push
    push-is = simp (le-ltb 65535 c h, window-valid w g)

    -- what the program wrote and reckoned
    pub push-answer : (v : List ℕ) (t : Totals) → v ≡ pushed w c → t ≡ totals_of (counts_in (min (next_mark (mark_of w)) 256) (drop 2 v))
        → churn_outcome (Ok t) v ≡ push w c
    push-answer v t e f =
        let j : t ≡ totals_of (counts_of (pushed w c)) =
        f
        ∙ ap (λ (l : List ℕ). totals_of (counts_in (min (next_mark (mark_of w)) 256) (drop 2 l))) e
        ∙ ap (λ (m : ℕ). totals_of (counts_in (min m 256) (drop 2 (pushed w c)))) (sym (pushed-mark w g c (omega arith)))
        ∙ reckoned (pushed w c) in
        ap (λ (x : Totals). churn_outcome (Ok x) v) j
        ∙ ap (λ (l : List ℕ). churn_outcome (Ok (totals_of (counts_of (pushed w c)))) l) e
        ∙ sym push-is

pub pushed-is : (w : List ℕ) (c m n : ℕ) → m ≡ be_at 2 w 0 → n ≡ next_mark m
    → put (put w (2 + 2 * (m % 256)) (bytes_of 2 c)) 0 (bytes_of 2 n) ≡ pushed w c
unfolding pushed mark_of
pushed-is w c m n e f = cc

module _ (w : List ℕ) where
  pub none-wrote : 2 ≤ length w → churn_outcome (Ok (record { sum = 0; largest = 0 })) (put w 0 (bytes_of 2 0)) ≡ clear w
  unfolding clear cleared sum_of largest_of
  none-wrote h = simp (le-leb 2 (length w) h)

  pub none-short : length w < 2 → churn_outcome (Ok (record { sum = 0; largest = 0 })) w ≡ clear w
  unfolding clear cleared sum_of largest_of
  none-short h = simp (lt-leb 2 (length w) h)

  pub current-not : is_window w ≡ false → Err InvalidWindow ≡ current w
  unfolding current
  current-not e = simp e

  pub current-is : Window w → current w ≡ Ok (totals_of (counts_of w))
  unfolding current
  current-is g = simp (window-valid w g)

  pub current-answer : Window w → (t : Totals) (m : ℕ) → m ≡ mark_of w → t ≡ totals_of (counts_in (min m 256) (drop 2 w)) → Ok t ≡ current w
  unfolding current
  current-answer g t m e f =
      let j : t ≡ totals_of (counts_of w) = f ∙ ap (λ (k : ℕ). totals_of (counts_in (min k 256) (drop 2 w))) e ∙ reckoned w in
      simp (window-valid w g, j)
