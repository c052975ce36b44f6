-- The numbers of a message that is bytes fit 64 bits, and the numbers in its parts do.
--
-- In order: a row of fields whose numbers are below 2 ^ 64 and whose parts are bytes (`Fitting`); that of bytes is one (`fields-fitting`),
-- and that of several parts (`join-fitting`); its numbers and parts (`number-below`, `parts-bytes`); so an assignment's epoch and ids
-- (`Wide`: `update-wide`, `response-wide`), and the ends of a segment's range (`start-below`, `end_below`).
-- Assumes nothing.
use Rattle.std.specs.Prelude.{Option, Some, None}
use Prim.Native.Nat.{ℕ, zero, suc, ◌-◌, ◌^◌, ◌<◌}
use native.Mathlib.Omega.{arith}
use mathlib.Core.Path.{◌≡◌, refl}
use mathlib.Core.List.{List, [], ◌∷◌}
use lib.ListN.{length, drop}
use lib.Dec.{leb, eqb}
use Rattle.slice.proofs.PartLaws.{Bytes, Bytes-take, Bytes-drop}
use Rattle.wire.specs.declared.WireType.{WireType}
use Rattle.wire.specs.declared.WireType.TheVariants as type
use Rattle.wire.specs.Varints.{varint_of}
use Rattle.wire.specs.Field.{number_from, part_from, fixed_of, number_body, part_of, key_read, body_of}
use Rattle.wire.specs.Fields.{Payload, number, bytes, fixed, cut, Field, bad_key, field, payload_of, field_by, size_by, fields_after, fields_of}
use Rattle.wire.proofs.VarintLaws.{varint-fits}
use Rattle.wire_values.specs.Values.{numbers_of, parts_of, last_after, join_fields, merged_fields, or_zero, number_in}
use Rattle.wire_readers.specs.Messages.{WireSegment, read_segment, WireAssignment, read_assignment, update_of, response_of}
use Rattle.keyed.proofs.KeyedLaws.{choose}
use Rattle.keyed.proofs.EachLaws.{Each, each_append, each_map}

-- ---- the fields of bytes

abbrev pub FittingContent : Payload → Type 0
FittingContent (number v) = v < 2 ^ 64
FittingContent (bytes l) = Bytes l
FittingContent fixed = Unit {0}
FittingContent cut = Unit {0}

abbrev pub FittingField : Field → Type 0
FittingField bad_key = Unit {0}
FittingField (field f w c) = FittingContent c

abbrev pub Fitting : List Field → Type 0
Fitting fs = Each FittingField fs

module _ (l : List ℕ) (h : Bytes l) where
  number-fitting : (v : Option (ℕ × ℕ)) → varint_of l ≡ v → FittingContent (payload_of (number_from v) l)
  number-fitting (Some (v, n)) e = varint-fits l h v n e
  number-fitting None e = tt

  part-fitting : (v : Option (ℕ × ℕ)) → FittingContent (payload_of (part_from v (length l)) l)
  part-fitting (Some (v, n)) =
      choose (λ b. FittingContent (payload_of b l)) (leb _ (length l)) (λ t. Bytes-take v (drop n l) (Bytes-drop n l h)) (λ t. tt)
  part-fitting None = tt

  fixed-fitting : (n : ℕ) → FittingContent (payload_of (fixed_of n l) l)
  unfolding fixed_of
  fixed-fitting n = choose (λ b. FittingContent (payload_of b l)) (leb n (length l)) (λ t. tt) (λ t. tt)

  body-fitting : (w : WireType) → FittingContent (payload_of (body_of w l) l)
  unfolding number_body part_of
  body-fitting type.Varint = number-fitting (varint_of l) refl
  body-fitting type.I64 = fixed-fitting 8
  body-fitting type.Len = part-fitting (varint_of l)
  body-fitting type.I32 = fixed-fitting 4

field-fitting : (k : Option (ℕ × WireType × ℕ)) (l : List ℕ) → Bytes l → FittingField (field_by k l)
field-fitting (Some (f, w, n)) l h = body-fitting (drop n l) (Bytes-drop n l h) w
field-fitting None l h = tt

after-fitting : (n : ℕ) (l : List ℕ) → Bytes l → Fitting (fields_after n l)
after-fitting n [] h = tt
after-fitting (suc n) (b ∷ l) h = after-fitting n l (λ i. h (suc i))
after-fitting zero (b ∷ l) h =
    let p = after-fitting (size_by (key_read (b ∷ l)) (b ∷ l) - 1) l (λ i. h (suc i)) in
    (field-fitting (key_read (b ∷ l)) (b ∷ l) h, choose Fitting (eqb (size_by (key_read (b ∷ l)) (b ∷ l)) 0) (λ t. tt) (λ t. p))

pub fields-fitting : (l : List ℕ) → Bytes l → Fitting (fields_of l)
unfolding fields_of
fields-fitting l h = after-fitting 0 l h

pub join-fitting : (ps : List (List ℕ)) → Each Bytes ps → Fitting (join_fields ps)
join-fitting [] h = tt
join-fitting (p ∷ ps) h = each_append FittingField (fields_of p) (join_fields ps) (fields-fitting p h.0) (join-fitting ps h.1)

-- ---- their numbers and parts

abbrev Below : ℕ → Type 0
Below v = v < 2 ^ 64

numbers-below : (n : ℕ) (fs : List Field) → Fitting fs → Each Below (numbers_of n fs)
numbers-below n [] h = tt
numbers-below n (bad_key ∷ fs) h = numbers-below n fs h.1
numbers-below n (field f w (number v) ∷ fs) h =
    let p = numbers-below n fs h.1 in choose (Each Below) (eqb f n) (λ t. (h.0, p)) (λ t. p)
numbers-below n (field f w (bytes l) ∷ fs) h = numbers-below n fs h.1
numbers-below n (field f w fixed ∷ fs) h = numbers-below n fs h.1
numbers-below n (field f w cut ∷ fs) h = numbers-below n fs h.1

pub parts-bytes : (n : ℕ) (fs : List Field) → Fitting fs → Each Bytes (parts_of n fs)
parts-bytes n [] h = tt
parts-bytes n (bad_key ∷ fs) h = parts-bytes n fs h.1
parts-bytes n (field f w (number v) ∷ fs) h = parts-bytes n fs h.1
parts-bytes n (field f w (bytes l) ∷ fs) h = let p = parts-bytes n fs h.1 in choose (Each Bytes) (eqb f n) (λ t. (h.0, p)) (λ t. p)
parts-bytes n (field f w fixed ∷ fs) h = parts-bytes n fs h.1
parts-bytes n (field f w cut ∷ fs) h = parts-bytes n fs h.1

last-below : (x : Option ℕ) (l : List ℕ) → or_zero x < 2 ^ 64 → Each Below l → or_zero (last_after x l) < 2 ^ 64
last-below x [] h f = h
last-below x (v ∷ l) h f = last-below (Some v) l f.0 f.1

pub number-below : (n : ℕ) (fs : List Field) → Fitting fs → number_in n fs < 2 ^ 64
number-below n fs h = last-below None (numbers_of n fs) (omega arith) (numbers-below n fs h)

-- ---- assignments

abbrev pub WideSegment : WireSegment → Type 0
WideSegment w = w.segment_id < 256 ^ 8

pub record Wide (a : WireAssignment) : Type 0 where
  pub epoch : a.layout_epoch < 256 ^ 8
  pub segments : Each WideSegment a.segments

segment-wide : (p : List ℕ) → Bytes p → WideSegment (read_segment p)
unfolding read_segment
segment-wide p h = number-below 1 (fields_of p) (fields-fitting p h)

pub assignment-wide : (fs : List Field) → Fitting fs → Wide (read_assignment fs)
unfolding read_assignment
assignment-wide fs h =
    record { epoch = number-below 1 fs h; segments = each_map Bytes WideSegment read_segment segment-wide (parts_of 2 fs) (parts-bytes 2 fs h) }

-- of the singular message in field n
merged-wide : (n : ℕ) (m : List ℕ) → Bytes m → Wide (read_assignment (merged_fields n (fields_of m)))
merged-wide n m h =
    assignment-wide (merged_fields n (fields_of m)) (join-fitting (parts_of n (fields_of m)) (parts-bytes n (fields_of m) (fields-fitting m h)))

pub update-wide : (m : List ℕ) → Bytes m → Wide (update_of m).assignment
unfolding update_of
update-wide m h = merged-wide 2 m h

pub response-wide : (m : List ℕ) → Bytes m → Wide (response_of m).assignment
unfolding response_of
response-wide m h = merged-wide 4 m h

pub start-below : (p : List ℕ) → (read_segment p).hash_start < 2 ^ 32
unfolding read_segment
start-below p = omega arith

pub end_below : (p : List ℕ) → (read_segment p).hash_end < 2 ^ 32
unfolding read_segment
end_below p = omega arith
