-- Public: the packed delta: its value, the bytes that stand for it, and the value that bytes stand for.
--
-- "epoch 64 bits, lost count 16, gained count 16, lost ids, gained records as in a sheet." Reading is total, as for a packed assignment; `is_delta` tests afterwards.
-- A delta has no size limit.
-- Assumes nothing.
use Rattle.std.specs.Prelude.{ℕ, zero, suc, ◌+◌, ◌*◌, Bool, true, ◌&&◌, List, [], ◌∷◌, ◌++◌, length, drop, leb, eqb}
use Rattle.slice_int.specs.Be.{bytes_of}
use Rattle.packed.specs.Assignment.{AssignedSegment, encode_segments, size_segments, num, decode_segments, ok_from}

-- ---- the value

pub record AssignmentDelta : Type 0 where
  pub layout_epoch : ℕ
  pub lost : List ℕ
  pub gained : List AssignedSegment

-- ---- from a value to bytes

unfoldable pub encode_ids : List ℕ → List ℕ
encode_ids [] = []
encode_ids (id ∷ ids) = bytes_of 8 id ++ encode_ids ids

unfoldable pub encode_delta : AssignmentDelta → List ℕ
encode_delta d =
    bytes_of 8 d.layout_epoch
    ++ (bytes_of 2 (length d.lost) ++ (bytes_of 2 (length d.gained) ++ (encode_ids d.lost ++ encode_segments d.gained)))

-- the bytes before the ids, epoch and two counts; of an id
abbrev pub delta_head : ℕ
delta_head = 12

abbrev pub id_size : ℕ
id_size = 8

-- places of the counts
abbrev pub lost_count : ℕ
lost_count = 8

abbrev pub gained_count : ℕ
gained_count = 10

-- how many bytes those are
unfoldable pub size_delta : AssignmentDelta → ℕ
size_delta d = delta_head + id_size * length d.lost + size_segments d.gained

-- ---- from bytes to a value, whatever the bytes are

unfoldable pub decode_ids : ℕ → List ℕ → List ℕ
decode_ids zero l = []
decode_ids (suc n) l = num 8 l ∷ decode_ids n (drop id_size l)

-- with so many lost ids and gained records
abbrev pub delta_with : ℕ → ℕ → List ℕ → AssignmentDelta
delta_with m n l = record { layout_epoch = num 8 l; lost = decode_ids m (drop delta_head l); gained = decode_segments n (drop (delta_head + id_size * m) l) }

unfoldable pub decode_delta : List ℕ → AssignmentDelta
decode_delta l = delta_with (num 2 (drop lost_count l)) (num 2 (drop gained_count l)) l

-- ---- which values are deltas, and which bytes

-- the ids rise strictly, from low on
unfoldable pub ids_from : ℕ → List ℕ → Bool
ids_from low [] = true
ids_from low (id ∷ ids) = leb low id && ids_from (suc id) ids

-- "It is malformed if ids do not rise, a record is bad ..."
unfoldable pub ok_delta : AssignmentDelta → Bool
ok_delta d = ids_from 0 d.lost && ok_from 0 d.gained

-- a delta stands at the front; what follows it is not looked at
unfoldable pub starts_delta : List ℕ → Bool
starts_delta l = leb (size_delta (decode_delta l)) (length l) && ok_delta (decode_delta l)

-- "... or it ends early or late."
unfoldable pub is_delta : List ℕ → Bool
is_delta l = eqb (size_delta (decode_delta l)) (length l) && ok_delta (decode_delta l)
