-- The delta from what the two merges wrote and the three numbers that were written before it.
--
-- In order: ids and records as entries (`ids-entries`, `records-entries`); there is room for those that may be lost (`lost-room`) and,
-- behind them, for those that may be gained (`gained-room`); the counts are small (`few-merged`); the five writes are the delta (`whole`).
-- Assumes nothing.
use Prim.Native.Nat.{ℕ, ◌+◌, ◌*◌, ◌≤◌}
use native.Mathlib.Omega.{arith}
use mathlib.Core.Path.{◌≡◌, refl, sym, ap, ◌∙◌}
use mathlib.Core.Bool.{Bool, true, false}
use mathlib.Core.List.{List, [], ◌∷◌, ◌++◌, map}
use lib.ListN.{length, length-append}
use Rattle.slice_int.specs.Be.{bytes_of}
use Rattle.slice_int.specs.Put.{put}
use Rattle.slice_int.proofs.BeLaws.{length-bytes_of}
use Rattle.slice_int.proofs.PutLaws.{put-after, put-before}
use Rattle.packed.specs.Assignment.{AssignedSegment, id_of, decode_assignment, encode_segment, encode_segments}
use Rattle.packed.specs.Assignment.{size_segments, size_assignment, starts_assignment}
use Rattle.packed.proofs.RoundLaws.{length-encode_segments}
use Rattle.packed_delta.specs.Delta.{AssignmentDelta, encode_ids, encode_delta, size_delta}
use Rattle.packed_delta.specs.Change.{delta_between}
use Rattle.packed_delta.proofs.RoundLaws.{length-encode_ids}
use Rattle.packed_delta.proofs.ShortLaws.{length_without, length_ids, few-records, delta-short}
use Rattle.packed_diff.specs.Merge.{entry, entries, only_in, MergedIs}
use Rattle.packed_diff.specs.declared.Merged.{Merged}
use Rattle.packed_diff.proofs.TurnLaws.{starts-slot}

-- ---- ids and records as entries

ids-entries : (gs : List AssignedSegment) → entries false gs ≡ encode_ids (map id_of gs)
unfolding entries entry encode_ids
ids-entries [] = refl
ids-entries (g ∷ gs) = ap (λ (l : List ℕ). bytes_of 8 g.segment_id ++ l) (ids-entries gs)

records-entries : (gs : List AssignedSegment) → entries true gs ≡ encode_segments gs
unfolding entries entry encode_segments
records-entries [] = refl
records-entries (g ∷ gs) = ap (λ (l : List ℕ). encode_segment g ++ l) (records-entries gs)

length-lost : (gs : List AssignedSegment) → length (entries false gs) ≡ 8 * length gs
length-lost gs = ap length (ids-entries gs) ∙ length-encode_ids (map id_of gs) ∙ ap (λ (n : ℕ). 8 * n) (length_ids gs)

length-gained : (gs : List AssignedSegment) → length (entries true gs) ≡ size_segments gs
length-gained gs = ap length (records-entries gs) ∙ length-encode_segments gs

-- ---- room

pub lost-room : (s : List ℕ) → starts_assignment s ≡ true → length (entries false (decode_assignment s).segments) ≤ 1160
lost-room s h = omega (arith, few-records (decode_assignment s) (starts-slot s h), length-lost (decode_assignment s).segments)

module _ (x y : List ℕ) (hx : starts_assignment x ≡ true) where
  few-only : length (only_in x y) ≤ 145
  few-only =
      omega (
        arith,
        length_without (decode_assignment x).segments (decode_assignment y).segments,
        few-records (decode_assignment x) (starts-slot x hx),
      )

  pub few-merged : {w : Bool} {o : List ℕ} {at : ℕ} {r : Merged} {o' : List ℕ} → MergedIs x y w o at r o' → r.count ≤ 145
  few-merged v = omega (arith, v.count, few-only)

  pub gained-room : (o : List ℕ) (r : Merged) (o' : List ℕ) → starts_assignment y ≡ true → 3210 ≤ length o → length o' ≡ length o
      → MergedIs x y false o 12 r o' → r.next + length (entries true (decode_assignment y).segments) ≤ length o'
  unfolding size_assignment
  gained-room o r o' hy k e v =
      omega (arith, v.next, few-only, length-lost (only_in x y), starts-slot y hy, length-gained (decode_assignment y).segments)

-- ---- the five writes

-- each is next to what was written before
together : (o : List ℕ) (d : AssignmentDelta) (at : ℕ) → at ≡ 12 + length (encode_ids d.lost)
    → at + length (encode_segments d.gained) ≤ length o
    → put (put (put (put (put o 12 (encode_ids d.lost)) at (encode_segments d.gained)) 10 (bytes_of 2 (length d.gained))) 8
    (bytes_of 2 (length d.lost))) 0 (bytes_of 8 d.layout_epoch)
    ≡ put o 0 (encode_delta d)
unfolding encode_delta
together o d at e h =
    let L : List ℕ = encode_ids d.lost in
    let G : List ℕ = encode_segments d.gained in
    let B : List ℕ = bytes_of 2 (length d.gained) in
    let A : List ℕ = bytes_of 2 (length d.lost) in
    let E : List ℕ = bytes_of 8 d.layout_epoch in
    let lb : length B ≡ 2 = length-bytes_of 2 (length d.gained) in
    let la : length A ≡ 2 = length-bytes_of 2 (length d.lost) in
    let le : length E ≡ 8 = length-bytes_of 8 d.layout_epoch in
    let l12 : length (L ++ G) ≡ length L + length G = length-append L G in
    let l10 : length (B ++ (L ++ G)) ≡ length B + length (L ++ G) = length-append B (L ++ G) in
    let l8 : length (A ++ (B ++ (L ++ G))) ≡ length A + length (B ++ (L ++ G)) = length-append A (B ++ (L ++ G)) in
    let s12 : put (put o 12 L) at G ≡ put o 12 (L ++ G) =
    ap (λ (n : ℕ). put (put o 12 L) n G) e ∙ put-after o 12 L G (omega arith) in
    let s10 : put (put o 12 (L ++ G)) 10 B ≡ put o 10 (B ++ (L ++ G)) = put-before o 10 12 B (L ++ G) (omega arith) (omega arith) in
    let s8 : put (put o 10 (B ++ (L ++ G))) 8 A ≡ put o 8 (A ++ (B ++ (L ++ G))) =
    put-before o 8 10 A (B ++ (L ++ G)) (omega arith) (omega arith) in
    let s0 : put (put o 8 (A ++ (B ++ (L ++ G)))) 0 E ≡ put o 0 (E ++ (A ++ (B ++ (L ++ G)))) =
    put-before o 0 8 E (A ++ (B ++ (L ++ G))) (omega arith) (omega arith) in
    cc

pub whole : (x y o : List ℕ) (e : ℕ) (lost gained : Merged) (o1 o2 o3 o4 o5 : List ℕ) → starts_assignment x ≡ true
    → starts_assignment y ≡ true → 3210 ≤ length o → e ≡ (decode_assignment y).layout_epoch
    → MergedIs x y false o 12 lost o1 → MergedIs y x true o1 lost.next gained o2 → o3 ≡ put o2 10 (bytes_of 2 gained.count)
    → o4 ≡ put o3 8 (bytes_of 2 lost.count) → o5 ≡ put o4 0 (bytes_of 8 e)
    → (gained.next ≡ size_delta (delta_between (decode_assignment x) (decode_assignment y)))
    × (o5 ≡ put o 0 (encode_delta (delta_between (decode_assignment x) (decode_assignment y))))
unfolding delta_between size_delta
whole x y o e lost gained o1 o2 o3 o4 o5 hx hy ho he a b w3 w4 w5 =
    let d : AssignmentDelta = delta_between (decode_assignment x) (decode_assignment y) in
    let L : List ℕ = encode_ids d.lost in
    let G : List ℕ = encode_segments d.gained in
    let el : entries false (only_in x y) ≡ L = ids-entries (only_in x y) in
    let eg : entries true (only_in y x) ≡ G = records-entries (only_in y x) in
    let cl : lost.count ≡ length d.lost = a.count ∙ sym (length_ids (only_in x y)) in
    let cg : gained.count ≡ length d.gained = b.count in
    let nl : lost.next ≡ 12 + length L = a.next ∙ ap (λ (l : List ℕ). 12 + length l) el in
    let ng : gained.next ≡ lost.next + length G = b.next ∙ ap (λ (l : List ℕ). lost.next + length l) eg in
    let w1 : o1 ≡ put o 12 L = a.wrote ∙ ap (put o 12) el in
    let w2 : o2 ≡ put o1 lost.next G = b.wrote ∙ ap (put o1 lost.next) eg in
    let z : gained.next ≡ 12 + 8 * length d.lost + size_segments d.gained =
    omega (arith, nl, ng, length-encode_ids d.lost, length-encode_segments d.gained) in
    let s : 12 + 8 * length d.lost + size_segments d.gained ≤ 3210 =
    delta-short (decode_assignment x) (decode_assignment y) (starts-slot x hx) (starts-slot y hy) in
    let k : o5 ≡ put (put (put (put (put o 12 L) lost.next G) 10 (bytes_of 2 (length d.gained))) 8 (bytes_of 2 (length d.lost))) 0
    (bytes_of 8 d.layout_epoch) =
    cc in
    (z, k ∙ together o d lost.next nl (omega (arith, ng)))
