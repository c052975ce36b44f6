-- Public: the identity slot (01, Store): "topic, subscription and name lengths 16 bits each, kind 8 bits: 0 stream, 1
-- checkpoint, then the texts".
-- Assumes nothing.
use Rattle.std.specs.Prelude.{ℕ, ◌+◌, Bool, ◌&&◌, List, ◌∷◌, ◌++◌, length, take, drop, get_or, leb}
use Rattle.topic_types.specs.declared.ScalableConsumerType.{ScalableConsumerType}
use Rattle.topic_types.specs.declared.ScalableConsumerType.TheVariants.{Stream, Checkpoint}
use Rattle.slice_int.specs.Be.{bytes_of, be_at}
use Rattle.utf8.specs.Table.{is_utf8}

pub record Identity : Type 0 where
  pub topic : List ℕ
  pub subscription : List ℕ
  pub consumer_name : List ℕ
  pub consumer_type : ScalableConsumerType

-- the bytes before the texts: three lengths and the kind
abbrev pub identity_head : ℕ
identity_head = 7

-- the most bytes of the three texts together: a slot without its head
abbrev pub max_texts : ℕ
max_texts = 2041

abbrev pub kind_byte : ScalableConsumerType → ℕ
kind_byte Stream = 0
kind_byte Checkpoint = 1

abbrev pub texts_length : Identity → ℕ
texts_length i = length i.topic + length i.subscription + length i.consumer_name

unfoldable pub encode_identity : Identity → List ℕ
encode_identity i =
    bytes_of 2 (length i.topic) ++ (bytes_of 2 (length i.subscription) ++ (bytes_of 2 (length i.consumer_name)
    ++ (kind_byte i.consumer_type ∷ (i.topic ++ (i.subscription ++ i.consumer_name)))))

-- ---- read from a slot, whatever its bytes are

abbrev pub topic_length : List ℕ → ℕ
topic_length l = be_at 2 l 0

abbrev pub subscription_length : List ℕ → ℕ
subscription_length l = be_at 2 l 2

abbrev pub name_length : List ℕ → ℕ
name_length l = be_at 2 l 4

unfoldable pub identity_topic : List ℕ → List ℕ
identity_topic l = take (topic_length l) (drop identity_head l)

unfoldable pub subscription_of : List ℕ → List ℕ
subscription_of l = take (subscription_length l) (drop (identity_head + topic_length l) l)

unfoldable pub consumer_name_of : List ℕ → List ℕ
consumer_name_of l = take (name_length l) (drop (identity_head + topic_length l + subscription_length l) l)

abbrev pub identity_kind : List ℕ → ℕ
identity_kind l = get_or l 6 0

-- "An identity is malformed with texts above 2,041 bytes or not UTF-8, or a kind above 1."
unfoldable pub is_identity : List ℕ → Bool
is_identity l =
    leb (identity_kind l) 1
    && (leb (topic_length l + subscription_length l + name_length l) max_texts
    && (is_utf8 (identity_topic l) && (is_utf8 (subscription_of l) && is_utf8 (consumer_name_of l))))
