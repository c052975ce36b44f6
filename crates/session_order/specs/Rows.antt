-- Internal: no claim cites it; whoever reads the claims may skip it.
--
-- Messages that differ only in the order of their segments, by computation: two segments change places around an
-- unknown field and the epoch.
-- Assumes nothing.
use Rattle.std.specs.Prelude.{ℕ, List, [], ◌∷◌, ◌++◌}
use Rattle.wire.specs.declared.WireType.TheVariants as type
use Rattle.wire.specs.Varints.{varint_of}
use Rattle.wire.specs.Field.{fixed_of, number_body, part_of, key_read}
use Rattle.wire.specs.Fields.{number, Field, field, fields_of}
use Rattle.session_order.specs.SegmentOrder.{segment, Reordered, Rearranged, SameUpdate}

-- the parts of segment 0 from 0 to 7fff and of segment 7 from 8000 to ffff, without their names
abbrev pub low : List ℕ
low = 0x08 ∷ 0x00 ∷ 0x10 ∷ 0x00 ∷ 0x18 ∷ 0xff ∷ 0xff ∷ 0x01 ∷ []

abbrev pub high : List ℕ
high = 0x08 ∷ 0x07 ∷ 0x10 ∷ 0x80 ∷ 0x80 ∷ 0x02 ∷ 0x18 ∷ 0xff ∷ 0xff ∷ 0x03 ∷ []

-- low, an unknown field 9, the epoch 3, high
abbrev pub low_first : List ℕ
low_first = 0x12 ∷ 0x08 ∷ (low ++ (0x48 ∷ 0x05 ∷ 0x08 ∷ 0x03 ∷ 0x12 ∷ 0x0a ∷ high))

-- high, field 9, the epoch, low
abbrev pub high_first : List ℕ
high_first = 0x12 ∷ 0x0a ∷ (high ++ (0x48 ∷ 0x05 ∷ 0x08 ∷ 0x03 ∷ 0x12 ∷ 0x08 ∷ low))

-- the updates of consumer 7
abbrev pub update : List ℕ → List ℕ
update assignment = 0x08 ∷ 0x07 ∷ 0x12 ∷ 0x1a ∷ assignment

-- field 9 and the epoch
abbrev nine : Field
nine = field 9 type.Varint (number 5)

abbrev epoch : Field
epoch = field 1 type.Varint (number 3)

-- high goes to the front, then low to the end
reordered : Reordered (segment low ∷ nine ∷ epoch ∷ segment high ∷ []) (segment high ∷ nine ∷ epoch ∷ segment low ∷ [])
reordered =
    Reordered.then (Reordered.same (segment low) (Reordered.same nine (Reordered.earlier high epoch [])))
    (Reordered.then (Reordered.same (segment low) (Reordered.earlier high nine (epoch ∷ [])))
    (Reordered.then (Reordered.later low (segment high) (nine ∷ epoch ∷ []))
    (Reordered.then (Reordered.same (segment high) (Reordered.later low nine (epoch ∷ [])))
    (Reordered.same (segment high) (Reordered.same nine (Reordered.later low epoch []))))))

pub either_first : SameUpdate (update low_first) (update high_first)
unfolding varint_of fixed_of number_body part_of key_read fields_of
either_first =
    Rearranged.same (field 1 type.Varint (number 7)) (Rearranged.assignment low_first high_first reordered Rearranged.end)
