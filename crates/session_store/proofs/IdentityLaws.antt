-- The identity in a slot.
--
-- In order: its texts as parts of the slot (`Lengths`: `topic-part` to `name-part`); the tests of an identity, in the order in which they
-- are made, each of which refuses or leaves the answer to the next (`kind-bad` to `name-decides`); the texts of an identity end in its slot
-- (`identity-room`).
-- Assumes nothing.
use Prim.Native.Nat.{ℕ, ◌+◌, ◌-◌, ◌≤◌, ◌<◌}
use native.Mathlib.Nat.{add-sub_cancel_left}
use mathlib.Core.Path.{◌≡◌, sym, ap, ◌∙◌}
use mathlib.Core.Bool.{Bool, true, false, not, ◌&&◌}
use mathlib.Core.List.{List}
use lib.ListN.{take, drop, get_or}
use lib.Dec.{leb}
use borrow.Author.Tests.{le-leb, lt-leb, leb-true, not-true, not-false}
use Rattle.slice.specs.BoolLaws.{both_true}
use Rattle.slice_int.specs.Be.{be_at}
use Rattle.utf8.specs.Table.{is_utf8}
use Rattle.session.specs.Identity.{topic_length, subscription_length, name_length, identity_topic, subscription_of, consumer_name_of, is_identity}

-- ---- the texts

-- a, b and c are the lengths that the slot says
pub record Lengths (l : List ℕ) (a b c : ℕ) : Type 0 where
  pub topic-is : a ≡ be_at 2 l 0
  pub subscription-is : b ≡ be_at 2 l 2
  pub name-is : c ≡ be_at 2 l 4

module _ (l : List ℕ) (a b c : ℕ) (q : Lengths l a b c) where
  pub topic-part : take (7 + a - 7) (drop 7 l) ≡ identity_topic l
  unfolding identity_topic
  topic-part = rw (add-sub_cancel_left 7 a, q.topic-is)

  pub subscription-part : take (7 + a + b - (7 + a)) (drop (7 + a) l) ≡ subscription_of l
  unfolding subscription_of
  subscription-part = rw (add-sub_cancel_left (7 + a) b, q.topic-is, q.subscription-is)

  pub name-part : take (7 + a + b + c - (7 + a + b)) (drop (7 + a + b) l) ≡ consumer_name_of l
  unfolding consumer_name_of
  name-part = rw (add-sub_cancel_left (7 + a + b) c, q.topic-is, q.subscription-is, q.name-is)

-- ---- the tests

pub kind-bad : (l : List ℕ) → 1 < get_or l 6 0 → false ≡ is_identity l
unfolding is_identity
kind-bad l h = simp (lt-leb (get_or l 6 0) 1 h)

module _ (l : List ℕ) (a b c : ℕ) (q : Lengths l a b c) (k : get_or l 6 0 ≤ 1) where
  pub texts-long : 2041 < a + b + c → false ≡ is_identity l
  unfolding is_identity
  texts-long h = simp (le-leb (get_or l 6 0) 1 k, ← q.topic-is, ← q.subscription-is, ← q.name-is, lt-leb (a + b + c) 2041 h)

  module _ (h : a + b + c ≤ 2041) where
    texts : is_identity l ≡ (is_utf8 (identity_topic l) && (is_utf8 (subscription_of l) && is_utf8 (consumer_name_of l)))
    unfolding is_identity
    texts = simp (le-leb (get_or l 6 0) 1 k, ← q.topic-is, ← q.subscription-is, ← q.name-is, le-leb (a + b + c) 2041 h)

    module _ (x : Bool) (ex : x ≡ is_utf8 (take (7 + a - 7) (drop 7 l))) where
      first : x ≡ is_utf8 (identity_topic l)
      first = ex ∙ ap is_utf8 (topic-part l a b c q)

      pub topic-bad : not x ≡ true → false ≡ is_identity l
      topic-bad f = sym (texts ∙ simp (← first, not-true x f))

      module _ (f : not x ≡ false) (y : Bool) (ey : y ≡ is_utf8 (take (7 + a + b - (7 + a)) (drop (7 + a) l))) where
        second : y ≡ is_utf8 (subscription_of l)
        second = ey ∙ ap is_utf8 (subscription-part l a b c q)

        pub subscription-bad : not y ≡ true → false ≡ is_identity l
        subscription-bad g = sym (texts ∙ simp (← first, not-false x f, ← second, not-true y g))

        pub name-decides : not y ≡ false → (z : Bool) → z ≡ is_utf8 (take (7 + a + b + c - (7 + a + b)) (drop (7 + a + b) l))
            → z ≡ is_identity l
        name-decides g z ez =
            ez ∙ ap is_utf8 (name-part l a b c q) ∙ sym (texts ∙ simp (← first, not-false x f, ← second, not-false y g))

-- ---- an identity

pub identity-room : (l : List ℕ) → is_identity l ≡ true → topic_length l + subscription_length l + name_length l ≤ 2041
unfolding is_identity
identity-room l e =
    let n : ℕ = topic_length l + subscription_length l + name_length l in
    leb-true n 2041 (both_true (leb n 2041) _ (both_true (leb (get_or l 6 0) 1) _ e).1).0
