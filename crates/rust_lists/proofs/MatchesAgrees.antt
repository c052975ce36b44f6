-- `matches_registration` is the Rust's (`matches-agrees`, `opened-has`).
-- Assumes nothing.
use Rattle.std.specs.Prelude.{Ok}
use Prim.Native.Nat.{ℕ, ◌≤◌}
use native.Mathlib.Omega.{arith}
use mathlib.Core.Path.{◌≡◌, refl, sym, ap, ◌∙◌}
use mathlib.Core.Bool.{Bool, true, false, cond}
use mathlib.Core.List.{List}
use lib.ListN.{length}
use lib.Dec.{eqb, leb}
use borrow.Author.Tests.{le-ltb, leb-true, eqb-true, eqb-false, eq-eqb, ne_eqb}
use Rattle.slice.specs.BoolLaws.{both_true}
use Rattle.topic_types.specs.declared.ScalableConsumerType.{ScalableConsumerType}
use Rattle.topic_types.specs.declared.ScalableConsumerType.TheVariants.{Stream, Checkpoint}
use Rattle.session.specs.Store.{min_store, identity_slot, slot}
use Rattle.session.specs.Identity.{Identity, kind_byte, identity_topic, subscription_of, consumer_name_of, identity_kind, is_identity}
use Rattle.session.specs.Calls.{same_identity, match_of}
use Rattle.rust_magnetar.specs.ConsumerType.{ScalableConsumerType-eq}
use Rattle.rust_magnetar.specs.Session.{ScalableConsumerSession, matches-registration}
use Rattle.rust_names.proofs.TextAgrees.{text_same}
use Rattle.rust_session.specs.Values.{as_type}
use Rattle.rust_lists.specs.Agree.{HasIdentity, match_if, MatchesAgrees, OpenedHas}

-- the kind of a well-formed slot is 0 or 1
kind-same : (k : ℕ) → k ≤ 1 → (kind : ScalableConsumerType) → ScalableConsumerType-eq (as_type k) kind ≡ eqb k (kind_byte kind)
kind-same k h = go (eqb k 1) refl
  where
    go : (t : Bool) → eqb k 1 ≡ t → (kind : ScalableConsumerType)
        → ScalableConsumerType-eq (cond t Checkpoint Stream) kind ≡ eqb k (kind_byte kind)
    go true e Stream = sym (ne_eqb k 0 (λ q. omega (arith, eqb-true k 1 e)))
    go true e Checkpoint = sym e
    go false e Stream = sym (eq-eqb k 0 (omega (arith, eqb-false k 1 e)))
    go false e Checkpoint = sym e

kind-bound : (l : List ℕ) → is_identity l ≡ true → identity_kind l ≤ 1
unfolding is_identity
kind-bound l e = leb-true (identity_kind l) 1 (both_true (leb (identity_kind l) 1) _ e).0

same-agrees : (l : List ℕ) (s : ScalableConsumerSession) (i : Identity) → is_identity l ≡ true → HasIdentity l s
    → matches-registration s i.topic i.subscription i.consumer_name i.consumer_type ≡ same_identity l i
same-agrees l s i e h =
    rw (
      h.topic,
      h.subscription,
      h.consumer-name,
      h.consumer-type,
      text_same (identity_topic l) i.topic,
      text_same (subscription_of l) i.subscription,
      text_same (consumer_name_of l) i.consumer_name,
      kind-same (identity_kind l) (kind-bound l e) i.consumer_type,
    )

match_by : (t : Bool) → cond t (Ok true) (Ok false) ≡ match_if t
match_by true = refl
match_by false = refl

pub matches-agrees : MatchesAgrees
unfolding match_of
matches-agrees store s i room e h =
    let l : List ℕ = slot store identity_slot in
    rw (le-ltb (length store) min_store room, e) (match_by (same_identity l i) ∙ ap match_if (sym (same-agrees l s i e h)))

pub opened-has : OpenedHas
opened-has r store = record { topic = refl; subscription = refl; consumer-name = refl; consumer-type = refl }
