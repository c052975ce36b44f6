-- What is read of a form that was written: mark, length, record, part and checksum are those that went in.
--
-- In order: what is written is bytes (`Bytes-positions` to `Bytes-body`); a number where it stands (`here`, `on`); the positions (`positions-read`); the
-- form of a session that is sound (`record-read`, `store-read`, `form-read`).
-- Assumes nothing.
use Prim.Native.Nat.{ℕ, zero, suc, ◌+◌, ◌-◌, ◌*◌, ◌^◌, ◌≤◌, ◌<◌}
use native.Mathlib.Decide.{dec_le}
use native.Mathlib.Omega.{arith}
use mathlib.Core.Path.{◌≡◌, refl, sym, ap, ap₂, ◌∙◌}
use mathlib.Core.Bool.{Bool, true, false, not}
use mathlib.Core.List.{List, [], ◌∷◌, ◌++◌, append_assoc, append-nil}
use lib.ListN.{length, take, drop, get_or}
use lib.Seq.{take-suc, take_all, take_at, drop_at, drop-drop, get_or-drop}
use lib.Dec.{lit<}
use borrow.Author.Tests.{eq-eqb}
use Rattle.slice.specs.Bytes.{Bytes}
use Rattle.slice.proofs.PartLaws.{Bytes-take, Bytes-nil, Bytes-cons, Bytes-append}
use Rattle.slice_int.specs.Be.{be, be_at, bytes_of}
use Rattle.slice_int.proofs.BeLaws.{length-bytes_of, be-front, drop-front, Bytes-number, Bytes-front}
use Rattle.crc32.specs.Crc.{crc32}
use Rattle.crc32.proofs.DiffersLaws.{crc-word}
use Rattle.session.specs.declared.SessionRecord.{SessionRecord}
use Rattle.session.specs.Store.{queue_in, queue_end}
use Rattle.session.specs.Session.{view, damaged}
use Rattle.session_record.specs.Floors.{floor_value}
use Rattle.export_record.specs.declared.Record.{Record}
use Rattle.export_record.specs.Replies.{flag, floor_is_set, record_of, export_record}
use Rattle.export_record.proofs.RecordLaws.{record-returns}
use Rattle.session_store.proofs.StoreLaws.{count_most, position_in}
use Rattle.session_saved.specs.Form.{mark, encode_positions, encode_record, used_part, encode_body, encode_saved, positions_in, record_in}
use Rattle.session_saved.specs.Form.{saved_record, saved_store, is_saved}
use Rattle.session_saved.specs.Restores.{Fits}
use Rattle.session_saved.proofs.FormLaws.{length-positions, length-body, length-saved, length-used}
use Rattle.session_saved.proofs.FrontLaws.{end-most, end-least, ends}
use Rattle.session_saved.proofs.CallLaws.{sum-decides}

-- ---- what is written is bytes

Bytes-positions : (n : ℕ) (ps : List ℕ) → Bytes (encode_positions n ps)
unfolding encode_positions
Bytes-positions zero ps = Bytes-nil
Bytes-positions (suc n) ps =
    Bytes-append (encode_positions n ps) (bytes_of 8 (get_or ps n 0)) (Bytes-positions n ps) (Bytes-number 8 (get_or ps n 0))

flag-byte : (t : Bool) → flag t < 256
flag-byte true = lit< tt
flag-byte false = lit< tt

Bytes-used : (r : SessionRecord) (st : List ℕ) → Bytes st → Bytes (used_part r st)
unfolding used_part
Bytes-used r st h = Bytes-take (queue_end (queue_in st r.queue_count)) st h

Bytes-record : (r : SessionRecord) → Bytes (encode_record (export_record r))
unfolding encode_record export_record
Bytes-record r =
    let z : List ℕ = flag (floor_is_set r.epoch_floor) ∷ flag r.registered ∷ flag r.invalidated ∷ [] in
    let y : List ℕ = encode_positions 8 r.drain_positions ++ z in
    let x : List ℕ = bytes_of 8 r.queue_count ++ y in
    let w : List ℕ = bytes_of 8 (floor_value r.epoch_floor) ++ x in
    let v : List ℕ = bytes_of 8 r.incarnation.0 ++ w in
    Bytes-front 8 r.consumer_id v
    (Bytes-front 8 r.incarnation.0 w
    (Bytes-front 8 (floor_value r.epoch_floor) x
    (Bytes-front 8 r.queue_count y
    (Bytes-append (encode_positions 8 r.drain_positions) z (Bytes-positions 8 r.drain_positions)
    (Bytes-cons (flag (floor_is_set r.epoch_floor)) (flag r.registered ∷ flag r.invalidated ∷ []) (flag-byte (floor_is_set r.epoch_floor))
    (Bytes-cons (flag r.registered) (flag r.invalidated ∷ []) (flag-byte r.registered)
    (Bytes-cons (flag r.invalidated) [] (flag-byte r.invalidated) Bytes-nil)))))))

Bytes-body : (r : SessionRecord) (st : List ℕ) → Bytes st → Bytes (encode_body r st)
unfolding encode_body
Bytes-body r st h =
    let c : List ℕ = encode_record (export_record r) in
    let part : List ℕ = used_part r st in
    Bytes-front 4 mark (bytes_of 4 (111 + length part) ++ (c ++ part))
    (Bytes-front 4 (111 + length part) (c ++ part) (Bytes-append c part (Bytes-record r) (Bytes-used r st h)))

-- ---- a number where it stands

module _ (f q : List ℕ) (at w v : ℕ) (e : drop at f ≡ bytes_of w v ++ q) where
  here : v < 256 ^ w → be_at w f at ≡ v
  unfolding be_at
  here h = ap (λ (l : List ℕ). be (take w l)) e ∙ be-front w v q h

  on : drop (at + w) f ≡ q
  on = sym (drop-drop w at f) ∙ ap (drop w) e ∙ drop-front w v q

-- ---- the positions

position-there : (ps : List ℕ) (m n : ℕ) (z : List ℕ) → n < m
    → take 8 (drop (8 * n) (encode_positions m ps ++ z)) ≡ bytes_of 8 (get_or ps n 0)
unfolding encode_positions
position-there ps zero n z h = absurd (omega arith)
position-there ps (suc m) n z h =
    ap (λ (l : List ℕ). take 8 (drop (8 * n) l)) (append_assoc (encode_positions m ps) (bytes_of 8 (get_or ps m 0)) z)
    ∙ go (position-there ps m n (bytes_of 8 (get_or ps m 0) ++ z)) (dec_le (suc n) m)
  where
    go : (n < m → take 8 (drop (8 * n) (encode_positions m ps ++ (bytes_of 8 (get_or ps m 0) ++ z))) ≡ bytes_of 8 (get_or ps n 0))
        → Dec (suc n ≤ m) → take 8 (drop (8 * n) (encode_positions m ps ++ (bytes_of 8 (get_or ps m 0) ++ z))) ≡ bytes_of 8 (get_or ps n 0)
    go ih (yes k) = ih (omega arith)
    go ih (no k) =
        let e : m ≡ n = omega arith in
        ap (take 8) (drop_at (encode_positions m ps) (bytes_of 8 (get_or ps m 0) ++ z) (8 * n) (omega (arith, length-positions m ps)))
        ∙ take_at (bytes_of 8 (get_or ps m 0)) z 8 (length-bytes_of 8 (get_or ps m 0))
        ∙ ap (λ (k : ℕ). bytes_of 8 (get_or ps k 0)) e

module _ (f ps q : List ℕ) (e : drop 40 f ≡ encode_positions 8 ps ++ q) (l : length ps ≡ 8) (h : (k : ℕ) → k < 8 → get_or ps k 0 < 2 ^ 64) where
  position-read : (n : ℕ) → n < 8 → be_at 8 f (40 + 8 * n) ≡ get_or ps n 0
  unfolding be_at
  position-read n k =
      let v = bytes_of 8 (get_or ps n 0) in
      ap (λ (x : List ℕ). be (take 8 x)) (sym (drop-drop (8 * n) 40 f) ∙ ap (drop (8 * n)) e)
      ∙ ap be (position-there ps 8 n q k ∙ sym (take_at v [] 8 (length-bytes_of 8 (get_or ps n 0))))
      ∙ be-front 8 (get_or ps n 0) [] (h n k)

  positions-read : (n : ℕ) → n ≤ 8 → positions_in n f ≡ take n ps
  unfolding positions_in
  positions-read zero k = refl
  positions-read (suc n) k =
      ap₂ (λ (x : List ℕ) (y : ℕ). x ++ (y ∷ [])) (positions-read n (omega arith)) (position-read n (omega arith))
      ∙ sym (take-suc ps n 0 (omega arith))

-- ---- the form of a session that is sound

module _ (r : SessionRecord) (st : List ℕ) (fit : Fits r) (bytes : Bytes st) (big : 6144 ≤ length st)
    (valid : damaged (view r st) ≡ false) where
  abbrev f : List ℕ
  f = encode_saved r st

  abbrev part : List ℕ
  part = used_part r st

  abbrev sum : List ℕ
  sum = bytes_of 4 (crc32 (encode_body r st))

  abbrev c : Record
  c = export_record r

  pub part-least : 6144 ≤ length part
  part-least = omega (arith, length-used r st _ (ends r st valid big), end-least r st valid _ (ends r st valid big))

  part-most : length part ≤ 2105344
  part-most = omega (arith, length-used r st _ (ends r st valid big), end-most r st valid _ (ends r st valid big))

  d0 : drop 0 f ≡ bytes_of 4 mark ++ (bytes_of 4 (111 + length part) ++ (encode_record c ++ (part ++ sum)))
  unfolding encode_saved encode_body
  d0 = simp append_assoc

  d4 : drop 4 f ≡ bytes_of 4 (111 + length part) ++ (encode_record c ++ (part ++ sum))
  d4 = on f _ 0 4 mark d0

  -- behind each of the four numbers
  abbrev flags : List ℕ
  flags = c.has_floor ∷ c.registered ∷ c.invalidated ∷ (part ++ sum)

  abbrev fifth : List ℕ
  fifth = encode_positions 8 c.drain_positions ++ flags

  abbrev fourth : List ℕ
  fourth = bytes_of 8 c.queue_count ++ fifth

  abbrev third : List ℕ
  third = bytes_of 8 c.epoch_floor ++ fourth

  abbrev second : List ℕ
  second = bytes_of 8 c.incarnation ++ third

  d8 : drop 8 f ≡ bytes_of 8 c.consumer_id ++ second
  unfolding encode_record
  d8 = on f _ 4 4 _ d4 ∙ simp append_assoc

  d16 : drop 16 f ≡ second
  d16 = on f _ 8 8 _ d8

  d24 : drop 24 f ≡ third
  d24 = on f _ 16 8 _ d16

  d32 : drop 32 f ≡ fourth
  d32 = on f _ 24 8 _ d24

  d40 : drop 40 f ≡ fifth
  d40 = on f _ 32 8 _ d32

  d104 : drop 104 f ≡ flags
  d104 =
      sym (drop-drop 64 40 f)
      ∙ ap (drop 64) d40
      ∙ drop_at (encode_positions 8 c.drain_positions) flags 64 (length-positions 8 c.drain_positions)

  d107 : drop 107 f ≡ part ++ sum
  d107 = sym (drop-drop 3 104 f) ∙ ap (drop 3) d104

  flag_at : (k : ℕ) → get_or f (104 + k) 0 ≡ get_or flags k 0
  flag_at k = sym (get_or-drop 104 f k 0) ∙ ap (λ (l : List ℕ). get_or l k 0) d104

  sound : not (damaged (view r st)) ≡ true
  sound = ap not valid

  -- positions lie within the queue, which has 1,024 at most
  position-word : (k : ℕ) → k < 8 → get_or r.drain_positions k 0 < 2 ^ 64
  position-word k h = omega (arith, position_in r st sound k h, count_most r st sound)

  module _ (a b d n : ℕ) (ps : List ℕ) (x y z : ℕ) where
    fields : be_at 8 f 8 ≡ a → be_at 8 f 16 ≡ b → be_at 8 f 24 ≡ d → be_at 8 f 32 ≡ n → positions_in 8 f ≡ ps
        → get_or f 104 0 ≡ x → get_or f 105 0 ≡ y → get_or f 106 0 ≡ z
        → record_in f
        ≡ record {
          consumer_id = a;
          incarnation = b;
          epoch_floor = d;
          queue_count = n;
          drain_positions = ps;
          has_floor = x;
          registered = y;
          invalidated = z;
        }
    unfolding record_in
    fields ea eb ed en ep ex ey ez = rw (ea, eb, ed, en, ep, ex, ey, ez)

  record-in : record_in f ≡ c
  unfolding export_record
  record-in =
      fields _ _ _ _ _ _ _ _
      (here f _ 8 8 _ d8 fit.consumer)
      (here f _ 16 8 _ d16 fit.incarnation)
      (here f _ 24 8 _ d24 fit.floor)
      (here f _ 32 8 _ d32 (omega (arith, count_most r st sound)))
      (positions-read f r.drain_positions flags d40 fit.positions position-word 8 (omega arith)
      ∙ take_all 8 r.drain_positions (omega (arith, fit.positions)))
      (flag_at 0)
      (flag_at 1)
      (flag_at 2)

  pub record-read : saved_record f ≡ r
  unfolding saved_record
  record-read = ap record_of record-in ∙ record-returns r

  pub store-read : saved_store f ≡ part
  unfolding saved_store
  store-read =
      let e : length f - 111 ≡ length part = omega (arith, length-saved r st) in
      ap₂ (λ (k : ℕ) (l : List ℕ). take k l) e d107 ∙ take_at part sum (length part) refl

  pub form-read : is_saved f ≡ true
  unfolding encode_saved
  form-read =
      let b = encode_body r st in
      let e : length f - 4 ≡ length b = omega (arith, length-saved r st, length-body r st) in
      let t : take (length f - 4) f ≡ b = take_at b sum (length f - 4) (sym e) in
      let d : drop (length f - 4) f ≡ sum ++ [] = drop_at b sum (length f - 4) (sym e) ∙ sym (append-nil sum) in
      let s : be_at 4 f (length f - 4) ≡ crc32 b = here f [] (length f - 4) 4 (crc32 b) d (crc-word b (Bytes-body r st bytes)) in
      sym
      (sum-decides f (omega (arith, length-saved r st, part-least)) (be_at 4 f 0) refl (here f _ 0 4 mark d0 (lit< tt)) (be_at 4 f 4) refl
      (here f _ 4 4 _ d4 (omega (arith, part-most)) ∙ sym (length-saved r st)) _ _ refl refl)
      ∙ eq-eqb _ _ (s ∙ ap crc32 (sym t))
