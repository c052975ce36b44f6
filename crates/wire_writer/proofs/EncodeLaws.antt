-- What is written reads back: the bytes of specs/Encode, with any bytes r behind them, by the reader's definitions (`varint_of`, `key_read`,
-- `fields_of` of wire). A field's number is at least 1 and below 2 ^ 29, as the reader has it.
--
-- In order: how many bytes a varint has (`length-varint-pos`, `length-varint-le`); a varint (`varint-reads`); a key (`number-key-reads`,
-- `part-key-reads`, both from `key_reads`); a field, and the fields behind it (`number-reads`, `part-reads`).
-- Assumes nothing.
use Rattle.std.specs.Prelude.{Some}
use Prim.Native.Nat.{ℕ, zero, suc, ◌+◌, ◌-◌, ◌*◌, ◌/◌, ◌%◌, ◌^◌, ◌≤◌, ◌<◌}
use native.Mathlib.Numerals.{add-one}
use native.Mathlib.Omega.{arith}
use mathlib.Core.Path.{◌≡◌, refl, ap, ◌∙◌}
use mathlib.Core.List.{List, ◌∷◌, ◌++◌, append_assoc}
use lib.ListN.{length, take, drop, length-append}
use lib.Seq.{take-append_seam, drop-append_seam, drop-append-add}
use Rattle.wire.specs.declared.WireType.TheVariants as type
use Rattle.wire.specs.declared.Body.TheVariants as body
use Rattle.wire.specs.Varints.{more, varint_within, varint_of}
use Rattle.wire.specs.Field.{typed_key, key_read, body_of}
use Rattle.wire.specs.Fields.{number, bytes, field, fields_of}
use Rattle.wire.proofs.VarintLaws.{within_more, within-ends, within-last}
use Rattle.wire.proofs.FieldLaws.{key-typed, number-value, part-fits}
use Rattle.wire.proofs.FieldsLaws.{fields-number, fields-part}
use Rattle.wire_writer.specs.Encode.{varint_bytes_within, varint_bytes, number_key, part_key, number_field, part_head, part_field}
use Rattle.wire_writer.proofs.VarintBytesLaws.{bytes-cases, room_next, length-bytes-pos, length-bytes-le}

-- ---- how many bytes

pub length-varint-pos : (v : ℕ) → 1 ≤ length (varint_bytes v)
unfolding varint_bytes
length-varint-pos v = length-bytes-pos 9 v

pub length-varint-le : (v : ℕ) → length (varint_bytes v) ≤ 10
unfolding varint_bytes
length-varint-le v = length-bytes-le 10 v

front-pos : (v : ℕ) (r : List ℕ) → 0 < length (varint_bytes v ++ r)
front-pos v r = omega (arith, length-append (varint_bytes v) r, length-varint-pos v)

-- ---- a varint

-- the low seven bits in front of the others
more-reads : (v n : ℕ) → more (v % 128 + 128) (Some (v / 128, n)) ≡ Some (v, suc n)
more-reads v n =
    let e : (v % 128 + 128 - 128) + 128 * (v / 128) ≡ v = omega arith in
    cc (add-one n)

within-reads : (k v : ℕ) (r : List ℕ) → v < 2 ^ (7 * k + 1)
    → varint_within (suc k) (varint_bytes_within (suc k) v ++ r) ≡ Some (v, length (varint_bytes_within (suc k) v))
within-reads zero v r h =
    bytes-cases (λ l. varint_within 1 (l ++ r) ≡ Some (v, length l)) zero v (λ g. within-last v r (omega arith))
    (λ g. absurd (let z : ⊥ = omega arith in z))
within-reads (suc k) v r h =
    let W : List ℕ = varint_bytes_within (suc k) (v / 128) in
    let p = within-reads k (v / 128) r (room_next k v h) in
    bytes-cases (λ l. varint_within (suc (suc k)) (l ++ r) ≡ Some (v, length l)) (suc k) v (λ g. within-ends v r k g)
    (λ g. within_more (v % 128 + 128) (W ++ r) (suc k) (omega arith) ∙ ap (more (v % 128 + 128)) p ∙ more-reads v (length W))

pub varint-reads : (v : ℕ) (r : List ℕ) → v < 2 ^ 64 → varint_of (varint_bytes v ++ r) ≡ Some (v, length (varint_bytes v))
unfolding varint_bytes varint_of
varint-reads v r h = within-reads 9 v r h

-- ---- a key

-- the number k as a key
key_reads : (f t k : ℕ) (r : List ℕ) → k ≡ 8 * f + t → t < 8 → 1 ≤ f → f < 2 ^ 29
    → key_read (varint_bytes k ++ r) ≡ typed_key f t (length (varint_bytes k))
key_reads f t k r e s h g =
    let d : k / 8 ≡ f = omega arith in
    let p = varint-reads k r (omega arith) in
    key-typed (varint_bytes k ++ r) k (length (varint_bytes k)) p (omega arith) (λ z. omega arith) t (omega arith)
    ∙ ap (λ (n : ℕ). typed_key n t (length (varint_bytes k))) d

module _ (f : ℕ) (h : 1 ≤ f) (g : f < 2 ^ 29) where
  pub number-key-reads : (r : List ℕ) → key_read (number_key f ++ r) ≡ Some (f, type.Varint, length (number_key f))
  number-key-reads r = key_reads f 0 (8 * f) r (omega arith) (omega arith) h g

  pub part-key-reads : (r : List ℕ) → key_read (part_key f ++ r) ≡ Some (f, type.Len, length (part_key f))
  part-key-reads r = key_reads f 2 (8 * f + 2) r refl (omega arith) h g

  -- ---- a field, and those behind it

  pub number-reads : (v : ℕ) (r : List ℕ) → v < 2 ^ 64 → fields_of (number_field f v ++ r) ≡ field f type.Varint (number v) ∷ fields_of r
  unfolding number_field
  number-reads v r b =
      let K : List ℕ = number_key f in
      let W : List ℕ = varint_bytes v in
      let says : body_of type.Varint (drop (length K) (K ++ (W ++ r))) ≡ Some (body.Number v (length W)) =
      ap (body_of type.Varint) (drop-append_seam K (W ++ r)) ∙ number-value (W ++ r) v (length W) (varint-reads v r b) in
      let behind : drop (length K + length W) (K ++ (W ++ r)) ≡ r = drop-append-add K (W ++ r) (length W) ∙ drop-append_seam W r in
      ap fields_of (append_assoc K W r)
      ∙ fields-number (K ++ (W ++ r)) (front-pos (8 * f) (W ++ r)) f type.Varint (length K) (number-key-reads (W ++ r)) v (length W) says
      ∙ ap (λ (l : List ℕ). field f type.Varint (number v) ∷ fields_of l) behind

  pub part-reads : (p r : List ℕ) → length p < 2 ^ 64 → fields_of (part_field f p ++ r) ≡ field f type.Len (bytes p) ∷ fields_of r
  unfolding part_field part_head
  part-reads p r b =
      let K : List ℕ = part_key f in
      let N : List ℕ = varint_bytes (length p) in
      let M : List ℕ = N ++ (p ++ r) in
      let room : length N + length p ≤ length M = omega (arith, length-append N (p ++ r), length-append p r) in
      let says : body_of type.Len (drop (length K) (K ++ M)) ≡ Some (body.Part (length N) (length p)) =
      ap (body_of type.Len) (drop-append_seam K M) ∙ part-fits M (length p) (length N) (varint-reads (length p) (p ++ r) b) room in
      let held : take (length p) (drop (length N) (drop (length K) (K ++ M))) ≡ p =
      ap (λ (l : List ℕ). take (length p) (drop (length N) l)) (drop-append_seam K M)
      ∙ ap (take (length p)) (drop-append_seam N (p ++ r))
      ∙ take-append_seam p r in
      let behind : drop (length K + (length N + length p)) (K ++ M) ≡ r =
      drop-append-add K M (length N + length p) ∙ drop-append-add N (p ++ r) (length p) ∙ drop-append_seam p r in
      ap fields_of (append_assoc (K ++ N) p r ∙ append_assoc K N (p ++ r))
      ∙ fields-part (K ++ M) (front-pos (8 * f + 2) M) f type.Len (length K) (part-key-reads M) (length N) (length p) says
      ∙ ap (λ (l : List ℕ). field f type.Len (bytes l) ∷ fields_of (drop (length K + (length N + length p)) (K ++ M))) held
      ∙ ap (λ (l : List ℕ). field f type.Len (bytes p) ∷ fields_of l) behind
