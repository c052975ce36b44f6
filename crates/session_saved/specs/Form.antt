-- Public: a session as bytes, to be kept where power is lost. All numbers are most significant byte first:
--
--     0     the mark, "CUD1"
--     4     the length of the whole, 4 bytes
--     8     consumer id, incarnation, floor (0 where it is unset), queue count, eight drain positions, 8 bytes each
--     104   whether there is a floor, registered, invalidated: a byte each, 1 or 0
--     107   the store's front, up to the queue's end
--     end   CRC-32 of all before, 4 bytes
--
-- Reading is total, as in all packed forms: `saved_record` and `saved_store` give what the bytes say, and `is_saved` tests whether they may say it.
-- Assumes nothing.
use Rattle.std.specs.Prelude.{ℕ, zero, suc, ◌+◌, ◌-◌, ◌*◌, ◌≡◌, refl, Bool, ◌&&◌, List, [], ◌∷◌, ◌++◌, length, take, drop, get_or, leb, eqb}
use Rattle.slice_int.specs.Be.{be_at, bytes_of}
use Rattle.crc32.specs.Crc.{crc32}
use Rattle.session.specs.declared.SessionRecord.{SessionRecord}
use Rattle.session.specs.Store.{min_store, queue_in, queue_end}
use Rattle.session.specs.Session.{readers}
use Rattle.export_record.specs.declared.Record.{Record}
use Rattle.export_record.specs.Replies.{record_of, export_record}

-- "CUD1", as a number
abbrev pub mark : ℕ
mark = 0x43554431

pub mark-bytes : bytes_of 4 mark ≡ 0x43 ∷ 0x55 ∷ 0x44 ∷ 0x31 ∷ []
unfolding bytes_of
mark-bytes = refl

-- bytes before the store's part, and of the checksum
abbrev pub head : ℕ
head = 107

abbrev pub sum_size : ℕ
sum_size = 4

-- what a form is longer than its store's part
abbrev pub frame : ℕ
frame = head + sum_size

-- ---- from a session to bytes

-- the first n positions
unfoldable pub encode_positions : ℕ → List ℕ → List ℕ
encode_positions zero positions = []
encode_positions (suc n) positions = encode_positions n positions ++ bytes_of 8 (get_or positions n 0)

-- the record as the exported calls have it: bytes for its flags
unfoldable pub encode_record : Record → List ℕ
encode_record c =
    bytes_of 8 c.consumer_id
    ++ (bytes_of 8 c.incarnation
    ++ (bytes_of 8 c.epoch_floor
    ++ (bytes_of 8 c.queue_count
    ++ (encode_positions readers c.drain_positions ++ (c.has_floor ∷ c.registered ∷ c.invalidated ∷ [])))))

-- what is in use of a store: its front, up to the queue's end
unfoldable pub used_part : SessionRecord → (store : List ℕ) → List ℕ
used_part r store = take (queue_end (queue_in store r.queue_count)) store

-- all but the checksum
unfoldable pub encode_body : SessionRecord → (store : List ℕ) → List ℕ
encode_body r store =
    bytes_of 4 mark ++ (bytes_of 4 (frame + length (used_part r store)) ++ (encode_record (export_record r) ++ used_part r store))

unfoldable pub encode_saved : SessionRecord → (store : List ℕ) → List ℕ
encode_saved r store = encode_body r store ++ bytes_of sum_size (crc32 (encode_body r store))

-- ---- from bytes to a session, whatever the bytes are

unfoldable pub positions_in : ℕ → List ℕ → List ℕ
positions_in zero bytes = []
positions_in (suc n) bytes = positions_in n bytes ++ (be_at 8 bytes (40 + 8 * n) ∷ [])

unfoldable pub record_in : List ℕ → Record
record_in bytes =
    record {
      consumer_id = be_at 8 bytes 8;
      incarnation = be_at 8 bytes 16;
      epoch_floor = be_at 8 bytes 24;
      queue_count = be_at 8 bytes 32;
      drain_positions = positions_in readers bytes;
      has_floor = get_or bytes 104 0;
      registered = get_or bytes 105 0;
      invalidated = get_or bytes 106 0;
    }

-- a flag: 0 says no, all others yes
unfoldable pub saved_record : List ℕ → SessionRecord
saved_record bytes = record_of (record_in bytes)

unfoldable pub saved_store : List ℕ → List ℕ
saved_store bytes = take (length bytes - frame) (drop head bytes)

-- the checksum that stands at the end is that of the bytes before it
unfoldable pub sum_holds : List ℕ → Bool
sum_holds bytes = eqb (be_at sum_size bytes (length bytes - sum_size)) (crc32 (take (length bytes - sum_size) bytes))

-- three slots at least, the mark, the length of the bytes lent, the checksum
unfoldable pub is_saved : List ℕ → Bool
is_saved bytes =
    leb (frame + min_store) (length bytes)
    && (eqb (be_at 4 bytes 0) mark && (eqb (be_at 4 bytes 4) (length bytes) && sum_holds bytes))
