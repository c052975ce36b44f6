-- Laws of the saved form: its lengths, its writing part by part, and what is read of it.
--
-- In order: lengths (`length-positions` to `length-saved`); the writes of src/ (`positions-on`, `record-written`, `saved-written`).
-- Assumes nothing.
use Prim.Native.Nat.{ℕ, zero, suc, ◌+◌, ◌-◌, ◌*◌, ◌≤◌, ◌<◌}
use native.Mathlib.Numerals.{add-one}
use native.Mathlib.Omega.{arith}
use mathlib.Core.Path.{◌≡◌, refl, sym, ap, ap₂, ◌∙◌}
use mathlib.Core.List.{List, [], ◌∷◌, ◌++◌}
use lib.ListN.{length, take, get_or, set, length-append}
use lib.Seq.{length-take-le}
use Rattle.slice_int.specs.Be.{bytes_of}
use Rattle.slice_int.specs.Put.{put}
use Rattle.slice_int.proofs.BeLaws.{length-bytes_of}
use Rattle.slice_int.proofs.PutLaws.{length-put, put-nil, put_one, put-after, put-before, take_put}
use Rattle.crc32.specs.Crc.{crc32}
use Rattle.session.specs.declared.SessionRecord.{SessionRecord}
use Rattle.session.specs.Store.{queue_in, queue_end}
use Rattle.export_record.specs.declared.Record.{Record}
use Rattle.export_record.specs.Replies.{export_record}
use Rattle.session_store.specs.Places.{QueueEnds}
use Rattle.session_saved.specs.Form.{mark, encode_positions, encode_record, used_part, encode_body, encode_saved}

-- ---- lengths

pub length-positions : (n : ℕ) (ps : List ℕ) → length (encode_positions n ps) ≡ 8 * n
unfolding encode_positions
length-positions zero ps = refl
length-positions (suc n) ps =
    length-append (encode_positions n ps) (bytes_of 8 (get_or ps n 0))
    ∙ omega (arith, length-positions n ps, length-bytes_of 8 (get_or ps n 0))

pub length-record : (c : Record) → length (encode_record c) ≡ 99
unfolding encode_record
length-record c =
    simp (length-append, length-bytes_of, length-positions)

pub length-used : (r : SessionRecord) (st : List ℕ) (end : ℕ) → QueueEnds st r.queue_count end → length (used_part r st) ≡ end
unfolding used_part
length-used r st end q =
    length-take-le (queue_end (queue_in st r.queue_count)) st (omega (arith, q.at, q.inside)) ∙ sym q.at

pub length-body : (r : SessionRecord) (st : List ℕ) → length (encode_body r st) ≡ 107 + length (used_part r st)
unfolding encode_body
length-body r st = simp (length-append, length-bytes_of, length-record) (omega arith)

pub length-saved : (r : SessionRecord) (st : List ℕ) → length (encode_saved r st) ≡ 111 + length (used_part r st)
unfolding encode_saved
length-saved r st =
    length-append (encode_body r st) (bytes_of 4 (crc32 (encode_body r st)))
    ∙ omega (arith, length-body r st, length-bytes_of 4 (crc32 (encode_body r st)))

-- ---- written

-- right before what was written last
before : (o p q : List ℕ) (at n : ℕ) (A B : List ℕ) → p ≡ put o n B → q ≡ put p at A → n ≡ at + length A → n + length B ≤ length o
    → q ≡ put o at (A ++ B)
before o p q at n A B ep eq e h = eq ∙ ap (λ (l : List ℕ). put l at A) ep ∙ put-before o at n A B e h

module _ (o ps : List ℕ) where
  pub positions-none : o ≡ put o 40 (encode_positions 0 ps)
  unfolding encode_positions
  positions-none = sym (put-nil o 40)

  pub positions-on : (k : ℕ) (p q : List ℕ) → k < 8 → 104 ≤ length o → p ≡ put o 40 (encode_positions k ps)
      → q ≡ put p (40 + 8 * k) (bytes_of 8 (get_or ps k 0)) → q ≡ put o 40 (encode_positions (k + 1) ps)
  unfolding encode_positions
  positions-on k p q h l ep eq =
      let A = encode_positions k ps in
      let B = bytes_of 8 (get_or ps k 0) in
      let la : length A ≡ 8 * k = length-positions k ps in
      let lb : length B ≡ 8 = length-bytes_of 8 (get_or ps k 0) in
      eq
      ∙ ap (λ (l : List ℕ). put l (40 + 8 * k) B) ep
      ∙ ap (λ (n : ℕ). put (put o 40 A) (40 + n) B) (sym la)
      ∙ put-after o 40 A B (omega arith)
      ∙ ap (λ (n : ℕ). put o 40 (encode_positions n ps)) (sym (add-one k))

  pub positions-long : (k : ℕ) → k ≤ 8 → 104 ≤ length o → length (put o 40 (encode_positions k ps)) ≡ length o
  positions-long k h l = length-put o 40 (encode_positions k ps) (omega (arith, length-positions k ps))

-- the output behind each write of a record, from its last flag on
pub record Writes (o : List ℕ) (c : Record) (p1 p2 p3 p4 p5 p6 p7 p8 : List ℕ) : Type 0 where
  pub invalidated : p1 ≡ set o 106 c.invalidated
  pub registered : p2 ≡ set p1 105 c.registered
  pub has-floor : p3 ≡ set p2 104 c.has_floor
  pub positions : p4 ≡ put p3 40 (encode_positions 8 c.drain_positions)
  pub count : p5 ≡ put p4 32 (bytes_of 8 c.queue_count)
  pub floor : p6 ≡ put p5 24 (bytes_of 8 c.epoch_floor)
  pub incarnation : p7 ≡ put p6 16 (bytes_of 8 c.incarnation)
  pub consumer : p8 ≡ put p7 8 (bytes_of 8 c.consumer_id)

pub record-written : (o : List ℕ) (c : Record) (p1 p2 p3 p4 p5 p6 p7 p8 : List ℕ) → 107 ≤ length o → Writes o c p1 p2 p3 p4 p5 p6 p7 p8
    → p8 ≡ put o 8 (encode_record c)
unfolding encode_record
record-written o c p1 p2 p3 p4 p5 p6 p7 p8 h w =
    let a = bytes_of 8 c.consumer_id in
    let b = bytes_of 8 c.incarnation in
    let d = bytes_of 8 c.epoch_floor in
    let n = bytes_of 8 c.queue_count in
    let ps = encode_positions 8 c.drain_positions in
    let i : List ℕ = c.invalidated ∷ [] in
    let ri : List ℕ = c.registered ∷ i in
    let fs : List ℕ = c.has_floor ∷ ri in
    let la : length a ≡ 8 = length-bytes_of 8 c.consumer_id in
    let lb : length b ≡ 8 = length-bytes_of 8 c.incarnation in
    let ld : length d ≡ 8 = length-bytes_of 8 c.epoch_floor in
    let ln : length n ≡ 8 = length-bytes_of 8 c.queue_count in
    let lp : length ps ≡ 64 = length-positions 8 c.drain_positions in
    let l4 : length (ps ++ fs) ≡ 67 = length-append ps fs ∙ omega arith in
    let l5 : length (n ++ (ps ++ fs)) ≡ 75 = length-append n (ps ++ fs) ∙ omega arith in
    let l6 : length (d ++ (n ++ (ps ++ fs))) ≡ 83 = length-append d (n ++ (ps ++ fs)) ∙ omega arith in
    let l7 : length (b ++ (d ++ (n ++ (ps ++ fs)))) ≡ 91 = length-append b (d ++ (n ++ (ps ++ fs))) ∙ omega arith in
    let e1 : p1 ≡ put o 106 i = w.invalidated ∙ put_one o 106 c.invalidated (omega arith) in
    let k1 : length p1 ≡ length o = ap length e1 ∙ length-put o 106 i (omega arith) in
    let e2 : p2 ≡ put o 105 ri =
    before o p1 p2 105 106 (c.registered ∷ []) i e1 (w.registered ∙ put_one p1 105 c.registered (omega arith)) refl (omega arith) in
    let k2 : length p2 ≡ length o = ap length e2 ∙ length-put o 105 ri (omega arith) in
    let e3 : p3 ≡ put o 104 fs =
    before o p2 p3 104 105 (c.has_floor ∷ []) ri e2 (w.has-floor ∙ put_one p2 104 c.has_floor (omega arith)) refl (omega arith) in
    let e4 : p4 ≡ put o 40 (ps ++ fs) = before o p3 p4 40 104 ps fs e3 w.positions (omega arith) (omega arith) in
    let e5 : p5 ≡ put o 32 (n ++ (ps ++ fs)) = before o p4 p5 32 40 n (ps ++ fs) e4 w.count (omega arith) (omega arith) in
    let e6 : p6 ≡ put o 24 (d ++ (n ++ (ps ++ fs))) = before o p5 p6 24 32 d (n ++ (ps ++ fs)) e5 w.floor (omega arith) (omega arith) in
    let e7 : p7 ≡ put o 16 (b ++ (d ++ (n ++ (ps ++ fs)))) =
    before o p6 p7 16 24 b (d ++ (n ++ (ps ++ fs))) e6 w.incarnation (omega arith) (omega arith) in
    before o p7 p8 8 16 a (b ++ (d ++ (n ++ (ps ++ fs)))) e7 w.consumer (omega arith) (omega arith)

-- the output behind each write of a session whose queue ends at end
pub record Saves (r : SessionRecord) (st : List ℕ) (end : ℕ) (o p1 p2 p3 p4 p5 : List ℕ) (sum : ℕ) : Type 0 where
  pub part : p1 ≡ put o 107 (take end st)
  pub state : p2 ≡ put p1 8 (encode_record (export_record r))
  pub size : p3 ≡ put p2 4 (bytes_of 4 (end + 111))
  pub mark-at : p4 ≡ put p3 0 (bytes_of 4 mark)
  pub summed : sum ≡ crc32 (take (end + 111 - 4) p4)
  pub sum-at : p5 ≡ put p4 (end + 111 - 4) (bytes_of 4 sum)

module _ (r : SessionRecord) (st : List ℕ) (end : ℕ) (q : QueueEnds st r.queue_count end) where
  pub part-is : take end st ≡ used_part r st
  unfolding used_part
  part-is = ap (λ (n : ℕ). take n st) q.at

  pub saved-written : (o p1 p2 p3 p4 p5 : List ℕ) (sum : ℕ) → end + 111 ≤ length o → Saves r st end o p1 p2 p3 p4 p5 sum
      → p5 ≡ put o 0 (encode_saved r st)
  unfolding encode_saved encode_body
  saved-written o p1 p2 p3 p4 p5 sum h w =
      let part = used_part r st in
      let c = encode_record (export_record r) in
      let size = bytes_of 4 (111 + length part) in
      let m = bytes_of 4 mark in
      let lp : length part ≡ end = length-used r st end q in
      let lc : length c ≡ 99 = length-record (export_record r) in
      let ls : length size ≡ 4 = length-bytes_of 4 (111 + length part) in
      let lm : length m ≡ 4 = length-bytes_of 4 mark in
      let l2 : length (c ++ part) ≡ 99 + end = length-append c part ∙ omega arith in
      let l3 : length (size ++ (c ++ part)) ≡ 103 + end = length-append size (c ++ part) ∙ omega arith in
      let lb : length (encode_body r st) ≡ end + 111 - 4 = length-body r st ∙ omega arith in
      let e1 : p1 ≡ put o 107 part = w.part ∙ ap (put o 107) part-is in
      let e2 : p2 ≡ put o 8 (c ++ part) = before o p1 p2 8 107 c part e1 w.state (omega arith) (omega arith) in
      let f : end + 111 ≡ 111 + length part = omega arith in
      let e3 : p3 ≡ put o 4 (size ++ (c ++ part)) =
      before o p2 p3 4 8 size (c ++ part) e2 (w.size ∙ ap (λ (n : ℕ). put p2 4 (bytes_of 4 n)) f) (omega arith) (omega arith) in
      let e4 : p4 ≡ put o 0 (encode_body r st) =
      before o p3 p4 0 4 m (size ++ (c ++ part)) e3 w.mark-at (omega arith) (omega arith) in
      let t : take (end + 111 - 4) p4 ≡ encode_body r st =
      ap₂ (λ (n : ℕ) (l : List ℕ). take n l) (sym lb) e4 ∙ take_put o 0 (encode_body r st) (omega arith) in
      let z : end + 111 - 4 ≡ 0 + length (encode_body r st) = omega arith in
      let s : sum ≡ crc32 (encode_body r st) = w.summed ∙ ap crc32 t in
      w.sum-at
      ∙ ap₂ (λ (l : List ℕ) (n : ℕ). put l (end + 111 - 4) (bytes_of 4 n)) e4 s
      ∙ ap (λ (n : ℕ). put (put o 0 (encode_body r st)) n (bytes_of 4 (crc32 (encode_body r st)))) z
      ∙ put-after o 0 (encode_body r st) (bytes_of 4 (crc32 (encode_body r st)))
      (omega (arith, lb, length-bytes_of 4 (crc32 (encode_body r st))))
