-- A test that each topic of a list passes (`every`), by the list's members; so of topics that are short (`short-..`) and of those that are
-- UTF-8 (`utf8-..`), inserted and filtered.
-- Assumes nothing.
use Prim.Native.Nat.{ℕ}
use mathlib.Core.Path.{◌≡◌, refl, sym, ap, ◌∙◌}
use mathlib.Core.Bool.{Bool, true, false, ◌&&◌, ◌||◌, or-true, false≢true}
use mathlib.Core.List.{List, [], ◌∷◌, ◌++◌}
use lib.ListN.{length}
use lib.Dec.{leb}
use Rattle.slice.specs.BoolLaws.{both, both_true}
use Rattle.slice.specs.Same.{same_bytes}
use Rattle.keyed.specs.Keyed.{filter}
use Rattle.utf8.specs.Table.{is_utf8}
use Rattle.watch_topics.specs.Topics.{has, insert_all, max_topic, all_short}
use Rattle.watch_topics.specs.Packed.{all_utf8}
use Rattle.watch_topics.proofs.SetLaws.{has_first, has-cases, has-append, has-insert_all, has-filter}

either : (a b : Bool) {P : Type 0} → (a || b) ≡ true → (a ≡ true → P) → (b ≡ true → P) → P
either true b e f g = f refl
either false b e f g = g e

module _ (p : List ℕ → Bool) where
  unfoldable pub every : List (List ℕ) → Bool
  every [] = true
  every (t ∷ ts) = p t && every ts

  pub every_in : (l : List (List ℕ)) (t : List ℕ) → every l ≡ true → has t l ≡ true → p t ≡ true
  unfolding every has
  every_in [] t e h = absurd (false≢true h)
  every_in (u ∷ us) t e h =
      let k : (p u ≡ true) × (every us ≡ true) = both_true (p u) (every us) e in
      has-cases t u us h (λ q. ap p q ∙ k.0) (λ q. every_in us t k.1 q)

  pub every-from : (l : List (List ℕ)) → ((t : List ℕ) → has t l ≡ true → p t ≡ true) → every l ≡ true
  unfolding every has
  every-from [] h = refl
  every-from (u ∷ us) h =
      both (p u) (every us) (h u (has_first u us))
      (every-from us (λ t k. h t (ap (λ (b : Bool). same_bytes t u || b) k ∙ or-true (same_bytes t u))))

  pub every-insert_all : (ts l : List (List ℕ)) → every ts ≡ true → every l ≡ true → every (insert_all ts l) ≡ true
  every-insert_all ts l e f =
      every-from (insert_all ts l)
      (λ t k. either (has t ts) (has t l) (sym (has-insert_all t ts l) ∙ k) (λ h. every_in ts t e h) (λ h. every_in l t f h))

  pub every-filter : (q : List ℕ → Bool) (l : List (List ℕ)) → every l ≡ true → every (filter q l) ≡ true
  every-filter q l e = every-from (filter q l) (λ t k. every_in l t e (both_true (has t l) (q t) (sym (has-filter q t l) ∙ k)).0)

  pub every_append : (a b : List (List ℕ)) → every a ≡ true → every b ≡ true → every (a ++ b) ≡ true
  every_append a b e f =
      every-from (a ++ b) (λ t k. either (has t a) (has t b) (sym (has-append t a b) ∙ k) (λ h. every_in a t e h) (λ h. every_in b t f h))

  pub every-parts : (a b : List (List ℕ)) → every (a ++ b) ≡ true → (every a ≡ true) × (every b ≡ true)
  every-parts a b e = (
    every-from a (λ t k. every_in (a ++ b) t e (has-append t a b ∙ rw k)),
    every-from b (λ t k. every_in (a ++ b) t e (has-append t a b ∙ rw k (or-true (has t a)))),
  )

-- ---- short topics

abbrev pub is_short : List ℕ → Bool
is_short t = leb (length t) max_topic

pub short-every : (l : List (List ℕ)) → all_short l ≡ every is_short l
unfolding all_short every
short-every [] = refl
short-every (t ∷ ts) = ap (λ (b : Bool). is_short t && b) (short-every ts)

pub short-insert_all : (ts l : List (List ℕ)) → all_short ts ≡ true → all_short l ≡ true → all_short (insert_all ts l) ≡ true
short-insert_all ts l e f =
    short-every (insert_all ts l) ∙ every-insert_all is_short ts l (sym (short-every ts) ∙ e) (sym (short-every l) ∙ f)

pub short-filter : (q : List ℕ → Bool) (l : List (List ℕ)) → all_short l ≡ true → all_short (filter q l) ≡ true
short-filter q l e = short-every (filter q l) ∙ every-filter is_short q l (sym (short-every l) ∙ e)

pub short-append : (a b : List (List ℕ)) → all_short a ≡ true → all_short b ≡ true → all_short (a ++ b) ≡ true
short-append a b e f = short-every (a ++ b) ∙ every_append is_short a b (sym (short-every a) ∙ e) (sym (short-every b) ∙ f)

pub short-parts : (a b : List (List ℕ)) → all_short (a ++ b) ≡ true → (all_short a ≡ true) × (all_short b ≡ true)
short-parts a b e =
    let h : (every is_short a ≡ true) × (every is_short b ≡ true) = every-parts is_short a b (sym (short-every (a ++ b)) ∙ e) in
    (short-every a ∙ h.0, short-every b ∙ h.1)

-- ---- topics that are UTF-8

pub utf8-every : (l : List (List ℕ)) → all_utf8 l ≡ every is_utf8 l
unfolding all_utf8 every
utf8-every [] = refl
utf8-every (t ∷ ts) = ap (λ (b : Bool). is_utf8 t && b) (utf8-every ts)

pub utf8-insert_all : (ts l : List (List ℕ)) → all_utf8 ts ≡ true → all_utf8 l ≡ true → all_utf8 (insert_all ts l) ≡ true
utf8-insert_all ts l e f = utf8-every (insert_all ts l) ∙ every-insert_all is_utf8 ts l (sym (utf8-every ts) ∙ e) (sym (utf8-every l) ∙ f)

pub utf8-filter : (q : List ℕ → Bool) (l : List (List ℕ)) → all_utf8 l ≡ true → all_utf8 (filter q l) ≡ true
utf8-filter q l e = utf8-every (filter q l) ∙ every-filter is_utf8 q l (sym (utf8-every l) ∙ e)
