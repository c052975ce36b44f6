-- Laws of byte order: it turns around (`order_flip`), is equal for equal lists alone (`order-refl`, `order-equal`, `same-order`), and goes on
-- (`order_trans`, `before-trans`); what a loop over both lists asks at the index i, by bytes and by words (`Words`,
-- `words-..`, `end-..`), and how a word is read (`word-..`).
-- Assumes nothing.
use Prim.Native.Nat.{ℕ, suc, ◌+◌, ◌-◌, ◌*◌, ◌^◌, ◌≤◌, ◌<◌, min}
use native.Mathlib.Nat.{mul-le-mul_right, suc-mul}
use native.Mathlib.Decide.{dec_le}
use native.Mathlib.Numerals.{add-one}
use native.Mathlib.Omega.{arith}
use mathlib.Core.Path.{◌≡◌, refl, sym, ap, ap₂, ◌∙◌}
use mathlib.Core.Bool.{Bool, true, false, cond, false≢true}
use mathlib.Core.Logic.{◌⊎◌, inl, inr}
use mathlib.Core.List.{List, [], ◌∷◌, ◌++◌}
use lib.ListN.{length, take, drop, get_or, length-take, length-drop, take-append-drop, drop_of_length-le}
use lib.Seq.{drop-cons, length-take-le, take-add, take-take}
use lib.Dec.{ltb}
use borrow.Author.Tests.{lt-ltb, le-ltb, ltb-true, ltb-false}
use Rattle.slice.specs.Same.{same_bytes}
use Rattle.slice.proofs.SameLaws.{same_refl, same-eq}
use Rattle.slice.proofs.PartLaws.{Bytes, Bytes-take, Bytes-drop}
use Rattle.slice_int.specs.Be.{be, be_at, bytes_of}
use Rattle.slice_int.proofs.BeLaws.{be-nil, be-append, be-snoc, be-at-one, be-at-add, be-below, bytes_of-front}
use Rattle.std.specs.declared.cmp.Ordering.{Ordering}
use Rattle.std.specs.declared.cmp.Ordering.TheVariants.{Less, Equal, Greater}
use Rattle.std.specs.Ordering.{nat_cmp, is_lt}
use Rattle.std.proofs.lemmas.Cmp.{by_ranked, ranked}
use Rattle.watch_topics.specs.Topics.{order, by_order, before}

-- ---- the three answers

abbrev pub flip : Ordering → Ordering
flip o = by_order o Greater Equal Less

-- the answers differ
pub less_equal : Less ≡ Equal → ⊥
less_equal e = let z : ◌≡◌ {A = ℕ} 0 1 = ap (λ (o : Ordering). by_order o 0 1 2) e in omega arith

pub greater-equal : Greater ≡ Equal → ⊥
greater-equal e = let z : ◌≡◌ {A = ℕ} 2 1 = ap (λ (o : Ordering). by_order o 0 1 2) e in omega arith

pub greater-less : Greater ≡ Less → ⊥
greater-less e = let z : ◌≡◌ {A = ℕ} 2 0 = ap (λ (o : Ordering). by_order o 0 1 2) e in omega arith

-- ---- byte order

pub order_flip : (a b : List ℕ) → order b a ≡ flip (order a b)
unfolding order
order_flip [] [] = refl
order_flip [] (y ∷ ys) = refl
order_flip (x ∷ xs) [] = refl
order_flip (x ∷ xs) (y ∷ ys) = go (ltb x y) refl (ltb y x) refl (order_flip xs ys)
  where
    go : (p : Bool) → ltb x y ≡ p → (q : Bool) → ltb y x ≡ q → order ys xs ≡ flip (order xs ys)
        → cond (ltb y x) Less (cond (ltb x y) Greater (order ys xs)) ≡ flip (cond (ltb x y) Less (cond (ltb y x) Greater (order xs ys)))
    go true e true f h = absurd (omega (arith, ltb-true x y e, ltb-true y x f))
    go true e false f h = simp (e, f)
    go false e true f h = simp (e, f)
    go false e false f h = simp (e, f, h)

pub less-flip : (a b : List ℕ) → order a b ≡ Less → order b a ≡ Greater
less-flip a b e = order_flip a b ∙ ap flip e

pub greater-flip : (a b : List ℕ) → order a b ≡ Greater → order b a ≡ Less
greater-flip a b e = order_flip a b ∙ ap flip e

pub order-equal : (a b : List ℕ) → order a b ≡ Equal → a ≡ b
unfolding order
order-equal [] [] e = refl
order-equal [] (y ∷ ys) e = absurd (less_equal e)
order-equal (x ∷ xs) [] e = absurd (greater-equal e)
order-equal (x ∷ xs) (y ∷ ys) e = go (ltb x y) refl (ltb y x) refl e (order-equal xs ys)
  where
    go : (p : Bool) → ltb x y ≡ p → (q : Bool) → ltb y x ≡ q → cond p Less (cond q Greater (order xs ys)) ≡ Equal
        → (order xs ys ≡ Equal → xs ≡ ys) → x ∷ xs ≡ y ∷ ys
    go true e q f g h = absurd (less_equal g)
    go false e true f g h = absurd (greater-equal g)
    go false e false f g h =
        let k : x ≡ y = omega (arith, ltb-false x y e, ltb-false y x f) in
        let l : xs ≡ ys = h g in
        cc

pub order-refl : (a : List ℕ) → order a a ≡ Equal
unfolding order
order-refl [] = refl
order-refl (x ∷ xs) = let k : x ≤ x = omega arith in simp (le-ltb x x k, order-refl xs)

-- the test of equality says the same
pub same-order : (a b : List ℕ) → same_bytes a b ≡ by_order (order a b) false true false
same-order a b = go (same_bytes a b) refl (order a b) refl
  where
    go : (s : Bool) → same_bytes a b ≡ s → (o : Ordering) → order a b ≡ o → same_bytes a b ≡ by_order (order a b) false true false
    go s e Equal f =
        let k : same_bytes a b ≡ true = ap (λ (x : List ℕ). same_bytes x b) (order-equal a b f) ∙ same_refl b in
        rw (k, f)
    go false e Less f = rw (e, f)
    go false e Greater f = rw (e, f)
    go true e Less f = absurd (less_equal (sym f ∙ ap (λ (x : List ℕ). order x b) (same-eq a b e) ∙ order-refl b))
    go true e Greater f = absurd (greater-equal (sym f ∙ ap (λ (x : List ℕ). order x b) (same-eq a b e) ∙ order-refl b))

pub same-less : (a b : List ℕ) → order a b ≡ Less → same_bytes a b ≡ false
same-less a b e = same-order a b ∙ rw e

pub same-greater : (a b : List ℕ) → order a b ≡ Greater → same_bytes a b ≡ false
same-greater a b e = same-order a b ∙ rw e

-- ---- one behind the other

less-cons : (x y : ℕ) (xs ys : List ℕ) → order (x ∷ xs) (y ∷ ys) ≡ Less → (x < y) ⊎ ((x ≡ y) × (order xs ys ≡ Less))
unfolding order
less-cons x y xs ys e = go (ltb x y) refl (ltb y x) refl e
  where
    go : (p : Bool) → ltb x y ≡ p → (q : Bool) → ltb y x ≡ q → cond p Less (cond q Greater (order xs ys)) ≡ Less
        → (x < y) ⊎ ((x ≡ y) × (order xs ys ≡ Less))
    go true e q f g = inl (ltb-true x y e)
    go false e true f g = absurd (greater-less g)
    go false e false f g = inr (omega (arith, ltb-false x y e, ltb-false y x f), g)

first-less : (x y : ℕ) (xs ys : List ℕ) → x < y → order (x ∷ xs) (y ∷ ys) ≡ Less
unfolding order
first-less x y xs ys h = simp (lt-ltb x y h)

first_alike : (x y : ℕ) (xs ys : List ℕ) → x ≡ y → order (x ∷ xs) (y ∷ ys) ≡ order xs ys
unfolding order
first_alike x y xs ys h = let a : x ≤ y = omega arith in let b : y ≤ x = omega arith in simp (le-ltb x y b, le-ltb y x a)

pub order_trans : (a b c : List ℕ) → order a b ≡ Less → order b c ≡ Less → order a c ≡ Less
unfolding order
order_trans [] [] c e f = f
order_trans [] (y ∷ ys) [] e f = absurd (greater-less f)
order_trans [] (y ∷ ys) (z ∷ zs) e f = refl
order_trans (x ∷ xs) [] c e f = absurd (greater-less e)
order_trans (x ∷ xs) (y ∷ ys) [] e f = absurd (greater-less f)
order_trans (x ∷ xs) (y ∷ ys) (z ∷ zs) e f = go (less-cons x y xs ys e) (less-cons y z ys zs f) (λ g h. order_trans xs ys zs g h)
  where
    go : (x < y) ⊎ ((x ≡ y) × (order xs ys ≡ Less)) → (y < z) ⊎ ((y ≡ z) × (order ys zs ≡ Less))
        → (order xs ys ≡ Less → order ys zs ≡ Less → order xs zs ≡ Less) → order (x ∷ xs) (z ∷ zs) ≡ Less
    go (inl p) (inl q) h = first-less x z xs zs (omega arith)
    go (inl p) (inr q) h = first-less x z xs zs (omega (arith, q.0))
    go (inr p) (inl q) h = first-less x z xs zs (omega (arith, p.0))
    go (inr p) (inr q) h = first_alike x z xs zs (p.0 ∙ q.0) ∙ h p.1 q.1

pub greater-trans : (a b c : List ℕ) → order a b ≡ Greater → order b c ≡ Greater → order a c ≡ Greater
greater-trans a b c e f = less-flip c a (order_trans c b a (greater-flip b c f) (greater-flip a b e))

-- ---- `before`

pub before-is : (a b : List ℕ) → before a b ≡ true → order a b ≡ Less
before-is a b e = go (order a b) refl e
  where
    go : (o : Ordering) → order a b ≡ o → by_order o true false false ≡ true → order a b ≡ Less
    go Less f g = f
    go Equal f g = absurd (false≢true g)
    go Greater f g = absurd (false≢true g)

pub is-before : (a b : List ℕ) → order a b ≡ Less → before a b ≡ true
is-before a b e = rw e

pub before-trans : (a b c : List ℕ) → before a b ≡ true → before b c ≡ true → before a c ≡ true
before-trans a b c e f = is-before a c (order_trans a b c (before-is a b e) (before-is b c f))

pub before_self : (a : List ℕ) → before a a ≡ false
before_self a = rw (order-refl a)

-- ---- a loop over both lists

module _ (a b : List ℕ) (i : ℕ) (h : i < length a) (k : i < length b) where
  order-at : order (drop i a) (drop i b)
      ≡ cond (ltb (get_or a i 0) (get_or b i 0)) Less (cond (ltb (get_or b i 0) (get_or a i 0)) Greater (order (drop (suc i) a) (drop (suc i) b)))
  unfolding order
  order-at = rw (drop-cons a i 0 h, drop-cons b i 0 k)

  pub order-less : get_or a i 0 < get_or b i 0 → order (drop i a) (drop i b) ≡ Less
  order-less l = order-at ∙ simp (lt-ltb (get_or a i 0) (get_or b i 0) l)

  pub order-greater : get_or b i 0 < get_or a i 0 → order (drop i a) (drop i b) ≡ Greater
  order-greater l =
      let w : get_or b i 0 ≤ get_or a i 0 = omega arith in
      order-at ∙ simp (le-ltb (get_or a i 0) (get_or b i 0) w, lt-ltb (get_or b i 0) (get_or a i 0) l)

  pub order-next : get_or b i 0 ≤ get_or a i 0 → get_or a i 0 ≤ get_or b i 0 → order (drop i a) (drop i b) ≡ order (drop (i + 1) a) (drop (i + 1) b)
  order-next l m = order-at ∙ simp (le-ltb (get_or a i 0) (get_or b i 0) l, le-ltb (get_or b i 0) (get_or a i 0) m, add-one)

pub order-longer : (a b : List ℕ) (i : ℕ) → i < length a → length b ≤ i → order (drop i a) (drop i b) ≡ Greater
unfolding order
order-longer a b i h k = rw (drop-cons a i 0 h, drop_of_length-le b {i = i} k)

pub order-shorter : (a b : List ℕ) (i : ℕ) → length a ≤ i → i < length b → order (drop i a) (drop i b) ≡ Less
unfolding order
order-shorter a b i h k = rw (drop-cons b i 0 k, drop_of_length-le a {i = i} h)

pub order-end : (a b : List ℕ) (i : ℕ) → length a ≤ i → length b ≤ i → order (drop i a) (drop i b) ≡ Equal
unfolding order
order-end a b i h k = rw (drop_of_length-le a {i = i} h, drop_of_length-le b {i = i} k)

-- ---- words of w bytes

order-append : (p a b : List ℕ) → order (p ++ a) (p ++ b) ≡ order a b
order-append [] a b = refl
order-append (x ∷ p) a b = first_alike x x (p ++ a) (p ++ b) refl ∙ order-append p a b

-- what stands behind a front that both have decides
pub order-behind : (a b : List ℕ) (i : ℕ) → take i a ≡ take i b → order a b ≡ order (drop i a) (drop i b)
order-behind a b i e =
    ap₂ order (sym (take-append-drop i a)) (sym (take-append-drop i b) ∙ ap (λ (l : List ℕ). l ++ drop i b) (sym e))
    ∙ order-append (take i a) (drop i a) (drop i b)

-- the bytes of one word are those of the other
same_word : (w : ℕ) (a b : List ℕ) (i : ℕ) → Bytes a → Bytes b → i + w ≤ length a → i + w ≤ length b → be_at w a i ≡ be_at w b i
    → take w (drop i a) ≡ take w (drop i b)
unfolding be_at
same_word w a b i ba bb h k e =
    sym (bytes_of-front w (drop i a) (rw length-drop (omega arith)) (Bytes-drop i a ba))
    ∙ ap (bytes_of w) e
    ∙ bytes_of-front w (drop i b) (rw length-drop (omega arith)) (Bytes-drop i b bb)

-- a front that both have, and w bytes behind it
front_same : (w : ℕ) (a b : List ℕ) (i : ℕ) → take i a ≡ take i b → take w (drop i a) ≡ take w (drop i b) → take (i + w) a ≡ take (i + w) b
front_same w a b i e f = take-add i w a ∙ ap₂ (λ (x y : List ℕ). x ++ y) e f ∙ sym (take-add i w b)

-- a part of such a front
pub front-part : (a b : List ℕ) (i j : ℕ) → j ≤ i → take i a ≡ take i b → take j a ≡ take j b
front-part a b i j h e = sym (take-take j i a h) ∙ ap (take j) e ∙ take-take j i b h

-- the first byte counts most
be-cons : (x : ℕ) (xs : List ℕ) → be (x ∷ xs) ≡ x * 256 ^ length xs + be xs
be-cons x xs =
    let e : be [] * 256 + x ≡ x = rw be-nil (omega arith) in
    be-append (x ∷ []) xs ∙ ap (λ (n : ℕ). n * 256 ^ length xs + be xs) (be-snoc [] x ∙ e)

-- of two words the lower one stands first
word-less : (x y s t : List ℕ) → length x ≡ length y → Bytes x → Bytes y → be x < be y → order (x ++ s) (y ++ t) ≡ Less
word-less [] [] s t e bx by h = absurd (omega arith)
word-less [] (y ∷ ys) s t e bx by h = absurd (omega arith)
word-less (x ∷ xs) [] s t e bx by h = absurd (omega arith)
word-less (x ∷ xs) (y ∷ ys) s t e bx by h =
    go (dec_le (suc x) y) (dec_le (suc y) x) (λ k. word-less xs ys s t (omega arith) (λ i. bx (suc i)) (λ i. by (suc i)) k)
  where
    p : ℕ
    p = 256 ^ length xs

    front : be (x ∷ xs) ≡ x * p + be xs
    front = be-cons x xs

    other : be (y ∷ ys) ≡ y * p + be ys
    other = be-cons y ys ∙ ap (λ (n : ℕ). y * 256 ^ n + be ys) (omega arith)

    low : be ys < p
    low = be-below (length xs) ys (omega arith) (λ i. by (suc i))

    go : Dec (suc x ≤ y) → Dec (suc y ≤ x) → (be xs < be ys → order (xs ++ s) (ys ++ t) ≡ Less) → order ((x ∷ xs) ++ s) ((y ∷ ys) ++ t) ≡ Less
    go (yes k) g f = first-less x y (xs ++ s) (ys ++ t) k
    go (no k) (yes l) f =
        let m : suc y * p ≤ x * p = mul-le-mul_right p l in
        let n : suc y * p ≡ y * p + p = suc-mul y p in
        absurd (omega (arith, front, other, low))
    go (no k) (no l) f =
        let m : x ≡ y = omega arith in
        let n : x * p ≡ y * p = ap (λ (j : ℕ). j * p) m in
        first_alike x y (xs ++ s) (ys ++ t) m ∙ f (omega (arith, front, other))

order-word-less : (w : ℕ) (a b : List ℕ) (i : ℕ) → Bytes a → Bytes b → i + w ≤ length a → i + w ≤ length b → be_at w a i < be_at w b i
    → order (drop i a) (drop i b) ≡ Less
unfolding be_at
order-word-less w a b i ba bb h k e =
    let x : List ℕ = take w (drop i a) in
    let y : List ℕ = take w (drop i b) in
    let lx : length x ≡ w = length-take-le w (drop i a) (rw length-drop (omega arith)) in
    let ly : length y ≡ w = length-take-le w (drop i b) (rw length-drop (omega arith)) in
    ap₂ order (sym (take-append-drop w (drop i a))) (sym (take-append-drop w (drop i b)))
    ∙ word-less x y (drop w (drop i a)) (drop w (drop i b)) (lx ∙ sym ly) (Bytes-take w (drop i a) (Bytes-drop i a ba))
    (Bytes-take w (drop i b) (Bytes-drop i b bb)) e

-- ---- two words read at a place, the bytes before it alike

pub record Words (a b : List ℕ) (i x y : ℕ) : Type 0 where
  pub alike : take i a ≡ take i b
  pub bytes-a : Bytes a
  pub bytes-b : Bytes b
  pub fits-a : i + 8 ≤ length a
  pub fits-b : i + 8 ≤ length b
  pub word-a : x ≡ be_at 8 a i
  pub word-b : y ≡ be_at 8 b i

module _ {a b : List ℕ} {i x y : ℕ} (w : Words a b i x y) where
  pub words-less : x < y → order a b ≡ Less
  words-less l =
      order-behind a b i w.alike
      ∙ order-word-less 8 a b i w.bytes-a w.bytes-b w.fits-a w.fits-b (omega (arith, w.word-a, w.word-b))

  pub words-greater : y < x → order a b ≡ Greater
  words-greater l =
      order-behind a b i w.alike
      ∙ less-flip (drop i b) (drop i a)
      (order-word-less 8 b a i w.bytes-b w.bytes-a w.fits-b w.fits-a (omega (arith, w.word-a, w.word-b)))

  -- the order of two words that differ is the lists' own
  pub words-order : (x ≡ y → ⊥) → (r : Ordering) → r ≡ nat_cmp x y → r ≡ order a b
  words-order d r e =
      by_ranked (x < y) (x ≡ y) (y < x) r (ranked x y r e)
      (λ f l. f ∙ sym (words-less l)) (λ f l. absurd (d l)) (λ f l. f ∙ sym (words-greater l))

  pub words-alike : x ≤ y → y ≤ x → take (i + 8) a ≡ take (i + 8) b
  words-alike l m =
      front_same 8 a b i w.alike (same_word 8 a b i w.bytes-a w.bytes-b w.fits-a w.fits-b (omega (arith, w.word-a, w.word-b)))

-- they are the last ones of the shorter list, which has n bytes, and alike
module _ {a b : List ℕ} {n x y : ℕ} (w : Words a b (n - 8) x y) (h : 8 ≤ n) (s : n ≡ min (length a) (length b)) (l : x ≤ y) (m : y ≤ x) where
  behind-end : order a b ≡ order (drop n a) (drop n b)
  behind-end =
      let e : n - 8 + 8 ≡ n = omega arith in
      order-behind a b (n - 8 + 8) (words-alike w l m) ∙ ap (λ (k : ℕ). order (drop k a) (drop k b)) e

  first_ends : length a ≤ length b → length a ≤ n
  first_ends q = omega (arith, s)

  second-ends : length b ≤ length a → length b ≤ n
  second-ends q = omega (arith, s)

  pub end-shorter : length a < length b → order a b ≡ Less
  end-shorter q = let d = first_ends (omega arith) in behind-end ∙ order-shorter a b n d (omega (arith, s, d))

  pub end-longer : length b < length a → order a b ≡ Greater
  end-longer q = let d = second-ends (omega arith) in behind-end ∙ order-longer a b n (omega (arith, s, d)) d

  pub end-equal : length a ≤ length b → length b ≤ length a → order a b ≡ Equal
  end-equal q r = behind-end ∙ order-end a b n (first_ends q) (second-ends r)

  pub end-order : (r : Ordering) → r ≡ nat_cmp (length a) (length b) → r ≡ order a b
  end-order r e =
      by_ranked (length a < length b) (length a ≡ length b) (length b < length a) r (ranked (length a) (length b) r e)
      (λ f k. f ∙ sym (end-shorter k)) (λ f k. f ∙ sym (end-equal (omega arith) (omega arith))) (λ f k. f ∙ sym (end-longer k))

-- ---- what `is_lt` says

pub is-lt-before : (a b : List ℕ) (o : Ordering) → o ≡ order a b → is_lt o ≡ before a b
is-lt-before a b Less e = ap (λ (o : Ordering). by_order o true false false) e
is-lt-before a b Equal e = ap (λ (o : Ordering). by_order o true false false) e
is-lt-before a b Greater e = ap (λ (o : Ordering). by_order o true false false) e

-- ---- a word read byte by byte

module _ (s : List ℕ) (at : ℕ) where
  pub word-start : 0 ≡ be_at 0 s at
  unfolding be_at
  word-start = sym be-nil

  pub word-turn : (k : ℕ) → at + k < length s → be_at k s at * 256 + get_or s (at + k) 0 ≡ be_at (k + 1) s at
  word-turn k h = sym (be-at-add k 1 s at (omega arith) ∙ ap (λ (n : ℕ). be_at k s at * 256 + n) (be-at-one s (at + k) h))

  pub word_fits : (k : ℕ) → k ≤ 8 → Bytes s → be_at k s at < 2 ^ 64
  unfolding be_at
  word_fits k h f = be-below 8 (take k (drop at s)) (rw length-take (omega arith)) (Bytes-take k (drop at s) (Bytes-drop at s f))
