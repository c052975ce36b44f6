-- A registration compared with the identity in a slot.
--
-- In order: the texts and the kind, each of which differs or leaves the answer to the next (`topic-other` to `kind-decides`); the cases of
-- `match_of` (`match-short` to `match-told`).
-- Assumes nothing.
use Rattle.std.specs.Prelude.{Result, Ok, Err}
use Prim.Native.Nat.{ℕ, ◌+◌, ◌-◌, ◌≤◌, ◌<◌}
use mathlib.Core.Path.{◌≡◌, refl, sym, ap, ◌∙◌}
use mathlib.Core.Bool.{Bool, true, false, cond, not}
use mathlib.Core.List.{List}
use lib.ListN.{length, take, drop, get_or}
use lib.Dec.{eqb}
use borrow.Author.Tests.{le-ltb, lt-ltb, not-true, not-false}
use Rattle.refusal.specs.declared.Refusal.{Refusal}
use Rattle.refusal.specs.declared.Refusal.TheVariants.{StoreTooShort, MalformedStore}
use Rattle.slice.specs.Same.{same_bytes}
use Rattle.session.specs.Store.{slot}
use Rattle.session.specs.Identity.{Identity, kind_byte, identity_topic, subscription_of, consumer_name_of, is_identity}
use Rattle.session.specs.Calls.{same_identity, match_of}
use Rattle.session_store.proofs.IdentityLaws.{Lengths, topic-part, subscription-part, name-part}

-- ---- the identity

module _ (l : List ℕ) (a b c : ℕ) (q : Lengths l a b c) (i : Identity) (x : Bool)
    (ex : x ≡ same_bytes (take (7 + a - 7) (drop 7 l)) i.topic) where
  first : x ≡ same_bytes (identity_topic l) i.topic
  first = ex ∙ ap (λ (m : List ℕ). same_bytes m i.topic) (topic-part l a b c q)

  pub topic-other : not x ≡ true → false ≡ same_identity l i
  topic-other f = simp (← first, not-true x f)

  module _ (f : not x ≡ false) (y : Bool) (ey : y ≡ same_bytes (take (7 + a + b - (7 + a)) (drop (7 + a) l)) i.subscription) where
    second : y ≡ same_bytes (subscription_of l) i.subscription
    second = ey ∙ ap (λ (m : List ℕ). same_bytes m i.subscription) (subscription-part l a b c q)

    pub subscription-other : not y ≡ true → false ≡ same_identity l i
    subscription-other g = simp (← first, not-false x f, ← second, not-true y g)

    module _ (g : not y ≡ false) (z : Bool)
        (ez : z ≡ same_bytes (take (7 + a + b + c - (7 + a + b)) (drop (7 + a + b) l)) i.consumer_name) where
      third : z ≡ same_bytes (consumer_name_of l) i.consumer_name
      third = ez ∙ ap (λ (m : List ℕ). same_bytes m i.consumer_name) (name-part l a b c q)

      pub name-other : not z ≡ true → false ≡ same_identity l i
      name-other k = simp (← first, not-false x f, ← second, not-false y g, ← third, not-true z k)

      pub kind-decides : not z ≡ false → (n : ℕ) → n ≡ kind_byte i.consumer_type → eqb (get_or l 6 0) n ≡ same_identity l i
      kind-decides k n e = simp (← first, not-false x f, ← second, not-false y g, ← third, not-false z k, e)

-- ---- the cases

told : (t : Bool) → ◌≡◌ {A = Result Bool Refusal} (Ok t) (cond t (Ok true) (Ok false))
told true = refl
told false = refl

module _ (st : List ℕ) (i : Identity) where
  pub match-short : length st < 6144 → Err StoreTooShort ≡ match_of st i
  unfolding match_of
  match-short h = simp (lt-ltb (length st) 6144 h)

  module _ (h : 6144 ≤ length st) (x : Bool) (ex : x ≡ is_identity (slot st 0)) where
    pub match-damaged : not x ≡ true → Err MalformedStore ≡ match_of st i
    unfolding match_of
    match-damaged f = simp (le-ltb (length st) 6144 h, ← ex, not-true x f)

    module _ (f : not x ≡ false) (y : Bool) (ey : y ≡ same_identity (slot st 0) i) where
      pub match-told : Ok y ≡ match_of st i
      unfolding match_of
      match-told = told y ∙ simp (le-ltb (length st) 6144 h, ← ex, not-false x f, ey)
