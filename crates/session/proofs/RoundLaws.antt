-- An identity that was written is read back, whatever follows it in its slot.
--
-- In order: how long its encoding is (`length-encode_identity`); what stands where in a slot that begins with it (`behind-two` to
-- `behind-seven`); its lengths and its kind; its texts (`read-topic`, `read-subscription`, `read_name`); it is well formed
-- (`identity-reads`).
-- Assumes nothing.
use Prim.Native.Nat.{ℕ, ◌+◌, ◌≤◌}
use native.Mathlib.Omega.{arith}
use mathlib.Core.Path.{◌≡◌, refl, sym, ap, ◌∙◌}
use mathlib.Core.Bool.{true}
use mathlib.Core.List.{List, ◌∷◌, ◌++◌, append_assoc}
use lib.ListN.{length, take, drop, get_or, length-append}
use lib.Seq.{drop-drop, take_at, drop_at, get_or-drop}
use borrow.Author.Tests.{le-leb}
use Rattle.topic_types.specs.declared.ScalableConsumerType.{ScalableConsumerType}
use Rattle.topic_types.specs.declared.ScalableConsumerType.TheVariants.{Stream, Checkpoint}
use Rattle.slice_int.specs.Be.{be, be_at, bytes_of}
use Rattle.slice_int.proofs.BeLaws.{length-bytes_of, be-front, drop-front}
use Rattle.session.specs.Identity.{Identity, kind_byte, texts_length, encode_identity, topic_length, subscription_length, name_length}
use Rattle.session.specs.Identity.{identity_topic, subscription_of, consumer_name_of, identity_kind, is_identity}
use Rattle.session.specs.Calls.{all_utf8}

pub length-encode_identity : (i : Identity) → length (encode_identity i) ≡ 7 + texts_length i
unfolding encode_identity
length-encode_identity i = simp (length-append, length-bytes_of) (omega arith)

kind-low : (k : ScalableConsumerType) → kind_byte k ≤ 1
kind-low Stream = omega arith
kind-low Checkpoint = omega arith

module _ (i : Identity) (r : List ℕ) where
  -- ---- what stands where

  abbrev texts : List ℕ
  texts = i.topic ++ (i.subscription ++ (i.consumer_name ++ r))

  abbrev from-kind : List ℕ
  from-kind = kind_byte i.consumer_type ∷ texts

  abbrev from-name : List ℕ
  from-name = bytes_of 2 (length i.consumer_name) ++ from-kind

  abbrev from-subscription : List ℕ
  from-subscription = bytes_of 2 (length i.subscription) ++ from-name

  whole : encode_identity i ++ r ≡ bytes_of 2 (length i.topic) ++ from-subscription
  unfolding encode_identity
  whole = simp append_assoc

  behind-two : drop 2 (encode_identity i ++ r) ≡ from-subscription
  behind-two = ap (drop 2) whole ∙ drop-front 2 (length i.topic) from-subscription

  behind-four : drop 4 (encode_identity i ++ r) ≡ from-name
  behind-four = sym (drop-drop 2 2 (encode_identity i ++ r)) ∙ ap (drop 2) behind-two ∙ drop-front 2 (length i.subscription) from-name

  behind-six : drop 6 (encode_identity i ++ r) ≡ from-kind
  behind-six = sym (drop-drop 2 4 (encode_identity i ++ r)) ∙ ap (drop 2) behind-four ∙ drop-front 2 (length i.consumer_name) from-kind

  behind-seven : drop 7 (encode_identity i ++ r) ≡ texts
  behind-seven = sym (drop-drop 1 6 (encode_identity i ++ r)) ∙ ap (drop 1) behind-six

  behind-topic : drop (7 + length i.topic) (encode_identity i ++ r) ≡ i.subscription ++ (i.consumer_name ++ r)
  behind-topic =
      sym (drop-drop (length i.topic) 7 (encode_identity i ++ r))
      ∙ ap (drop (length i.topic)) behind-seven
      ∙ drop_at i.topic (i.subscription ++ (i.consumer_name ++ r)) (length i.topic) refl

  behind-subscription : drop (7 + length i.topic + length i.subscription) (encode_identity i ++ r) ≡ i.consumer_name ++ r
  behind-subscription =
      sym (drop-drop (length i.subscription) (7 + length i.topic) (encode_identity i ++ r))
      ∙ ap (drop (length i.subscription)) behind-topic
      ∙ drop_at i.subscription (i.consumer_name ++ r) (length i.subscription) refl

  -- ---- the kind and the lengths

  pub read-kind : identity_kind (encode_identity i ++ r) ≡ kind_byte i.consumer_type
  read-kind = sym (get_or-drop 6 (encode_identity i ++ r) 0 0) ∙ ap (λ (l : List ℕ). get_or l 0 0) behind-six

  module _ (h : texts_length i ≤ 2041) where
    topic-length : topic_length (encode_identity i ++ r) ≡ length i.topic
    unfolding be_at
    topic-length = ap (λ (l : List ℕ). be (take 2 l)) whole ∙ be-front 2 (length i.topic) from-subscription (omega arith)

    subscription-length : subscription_length (encode_identity i ++ r) ≡ length i.subscription
    unfolding be_at
    subscription-length =
        ap (λ (l : List ℕ). be (take 2 l)) behind-two ∙ be-front 2 (length i.subscription) from-name (omega arith)

    name-length : name_length (encode_identity i ++ r) ≡ length i.consumer_name
    unfolding be_at
    name-length = ap (λ (l : List ℕ). be (take 2 l)) behind-four ∙ be-front 2 (length i.consumer_name) from-kind (omega arith)

    -- ---- the texts

    pub read-topic : identity_topic (encode_identity i ++ r) ≡ i.topic
    unfolding identity_topic
    read-topic = rw (topic-length, behind-seven) (take_at i.topic _ (length i.topic) refl)

    pub read-subscription : subscription_of (encode_identity i ++ r) ≡ i.subscription
    unfolding subscription_of
    read-subscription =
        rw (subscription-length, topic-length, behind-topic) (take_at i.subscription _ (length i.subscription) refl)

    pub read_name : consumer_name_of (encode_identity i ++ r) ≡ i.consumer_name
    unfolding consumer_name_of
    read_name =
        rw (name-length, topic-length, subscription-length, behind-subscription) (take_at i.consumer_name r (length i.consumer_name) refl)

    -- ---- it is an identity

    pub identity-reads : all_utf8 i ≡ true → is_identity (encode_identity i ++ r) ≡ true
    unfolding is_identity
    identity-reads u =
        rw (
          read-kind,
          le-leb (kind_byte i.consumer_type) 1 (kind-low i.consumer_type),
          topic-length,
          subscription-length,
          name-length,
          le-leb (texts_length i) 2041 h,
          read-topic,
          read-subscription,
          read_name,
        )
        u
