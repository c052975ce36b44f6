-- The cases of `join_outcome` and `joined_delta`, as `join` and `write_join` meet them.
--
-- In order: bytes that are refused (`no-first`, `no_second`) and those that are joined (`both`); the rows of a delta (`rows_in`), and a
-- walk over them (`Walks`, `walks`); what is joined, where it comes from (`result`); a count that has no packed form (`many-lost`,
-- `many-gained`); no room for the head and the ids (`no-head`) or for the records (`no-records`); the joined delta is written
-- (`all-written`).
-- Assumes nothing.
use Rattle.std.specs.Prelude.{None, Ok}
use Prim.Native.Nat.{ℕ, ◌+◌, ◌-◌, ◌*◌, ◌≤◌, ◌<◌}
use native.Mathlib.Omega.{arith}
use mathlib.Core.Path.{◌≡◌, refl, sym, ap, ◌∙◌, subst}
use mathlib.Core.Bool.{Bool, true, false, and-false}
use mathlib.Core.List.{List, ◌++◌}
use lib.ListN.{length, length-append}
use borrow.Author.Tests.{le-leb, lt-leb}
use Rattle.refusal.specs.declared.Refusal.TheVariants.{MalformedInput, ResultTooLong}
use Rattle.output.specs.Output.{outcome, refuse, written}
use Rattle.slice_int.specs.Be.{be_at, bytes_of}
use Rattle.slice_int.specs.Put.{put}
use Rattle.slice_int.proofs.BeLaws.{length-bytes_of}
use Rattle.slice_int.proofs.PutLaws.{put-before}
use Rattle.packed.specs.Assignment.{AssignedSegment, encode_segments, size_segments, num}
use Rattle.packed.proofs.AssignmentLaws.{length-segments_of}
use Rattle.packed.proofs.RoundLaws.{length-encode_segments}
use Rattle.packed_delta.specs.Delta.{AssignmentDelta, encode_ids, encode_delta, size_delta, decode_delta, is_delta}
use Rattle.packed_delta.specs.Join.{join}
use Rattle.packed_delta.proofs.RoundLaws.{length-ids_of, length-encode_ids, length-encode_delta, Walkable, walkable}
use Rattle.packed_delta.proofs.DeltaLaws.{is-delta-proper, join-overlay}
use Rattle.packed_overlay.specs.Overlay.{overlay, records_in, ids_in, RecordRow, IdRow, fit_of, union}
use Rattle.packed_join.specs.declared.Rows.{Rows}
use Rattle.packed_join.specs.JoinRows.{rows_of, rows_of_delta}
use Rattle.packed_join.specs.JoinOutcome.{countable, max_count, joined_delta, join_outcome}
use Rattle.packed_overlay.proofs.FitLaws.{Fits, fit-beyond}

-- ---- both lent forms

module _ (d e o : List ℕ) where
  pub no-first : is_delta d ≡ false → refuse MalformedInput o ≡ join_outcome d e o
  unfolding join_outcome
  no-first h = simp h

  pub no_second : is_delta e ≡ false → refuse MalformedInput o ≡ join_outcome d e o
  unfolding join_outcome
  no_second h = simp (h, and-false)

  pub both : is_delta d ≡ true → is_delta e ≡ true → joined_delta (join (decode_delta d) (decode_delta e)) o ≡ join_outcome d e o
  unfolding join_outcome joined_delta
  both h k = simp (h, k)

-- ---- the rows of a delta

pub rows_in : {d : List ℕ} {m n : ℕ} → Walkable d m n → rows_of m n ≡ rows_of_delta d
rows_in {d} {m} {n} v =
    let a : m ≡ length (decode_delta d).lost = sym (ap length v.lost-is ∙ length-ids_of m _) in
    let b : n ≡ length (decode_delta d).gained = sym (ap length v.gained-is ∙ length-segments_of n _) in
    cc

pub record Walks (d : List ℕ) (a : Rows) : Type 0 where
  pub is-delta : is_delta d ≡ true
  pub head : 12 ≤ length d
  pub ids : IdRow d a.lost
  pub lost-is : (decode_delta d).lost ≡ ids_in d a.lost
  pub records : RecordRow d a.gained
  pub gained-is : (decode_delta d).gained ≡ records_in d a.gained

pub walks : (d : List ℕ) (a : Rows) → is_delta d ≡ true → a ≡ rows_of_delta d → Walks d a
unfolding decode_delta
walks d a h q =
    let m : ℕ = length (decode_delta d).lost in
    let n : ℕ = length (decode_delta d).gained in
    let v : Walkable d m n = walkable d m n (length-ids_of _ _) (length-segments_of _ _) h in
    subst (Walks d) (sym q)
    record {
      is-delta = h;
      head = omega (arith, v.ids-fit);
      ids = record { fits = v.ids-fit; rise = v.ids-rise };
      lost-is = v.lost-is;
      records = v.records;
      gained-is = v.gained-is;
    }

-- ---- what is joined

module _ {d e : List ℕ} {a b : Rows} (v : Walks d a) (w : Walks e b) (o : List ℕ) where
  abbrev J : AssignmentDelta
  J = join (decode_delta d) (decode_delta e)

  abbrev L : List ℕ
  L = union (ids_in d a.lost) (ids_in e b.lost)

  abbrev G : List AssignedSegment
  G = overlay (ids_in e b.lost) (records_in e b.gained) (records_in d a.gained)

  abbrev X : AssignmentDelta
  X = record { layout_epoch = num 8 e; lost = L; gained = G }

  result : J ≡ X
  unfolding join decode_delta union overlay
  result =
      let p = is-delta-proper d v.is-delta in
      cc (join-overlay (decode_delta d) (decode_delta e) p, v.lost-is, v.gained-is, w.lost-is, w.gained-is)

  long : length (encode_delta X) ≡ 12 + 8 * length L + size_segments G
  unfolding size_delta
  long = length-encode_delta X

  -- for either reason
  uncounted : countable X ≡ false → refuse ResultTooLong o ≡ joined_delta J o
  unfolding joined_delta
  uncounted h = sym (ap (λ (x : AssignmentDelta). joined_delta x o) result ∙ simp h)

  no_room : length o < 12 + 8 * length L + size_segments G → refuse ResultTooLong o ≡ joined_delta J o
  unfolding joined_delta written
  no_room h = go (countable X) refl
    where
      go : (t : Bool) → countable X ≡ t → refuse ResultTooLong o ≡ joined_delta J o
      go true q =
          sym (ap (λ (x : AssignmentDelta). joined_delta x o) result
          ∙ simp (q, lt-leb (length (encode_delta X)) (length o) (omega (arith, long))))
      go false q = uncounted q

  -- so many ids are lost
  module _ {m : ℕ} (q : m ≡ length L) where
    pub many-lost : 65535 < m → refuse ResultTooLong o ≡ joined_delta J o
    many-lost h = uncounted (simp (lt-leb (length L) max_count (omega arith)))

    pub no-head : length o < 12 + 8 * m → refuse ResultTooLong o ≡ joined_delta J o
    no-head h = no_room (omega arith)

    pub no-records : None ≡ fit_of (length o - (12 + 8 * m)) G → refuse ResultTooLong o ≡ joined_delta J o
    no-records h = no_room (omega (arith, fit-beyond (length o - (12 + 8 * m)) G h))

    -- and so many records gained, in so many bytes
    module _ {limit n z : ℕ} (f : Fits limit G n z) where
      pub many-gained : 65535 < n → refuse ResultTooLong o ≡ joined_delta J o
      many-gained h = uncounted (simp (lt-leb (length G) max_count (omega (arith, f.count)), and-false))

      -- the five writes, each in front of the one before
      pub all-written : m ≤ 65535 → n ≤ 65535 → 12 + 8 * m + z ≤ length o → (o1 o2 o3 o4 o5 : List ℕ) (epoch : ℕ)
          → o1 ≡ put o (12 + 8 * m) (encode_segments G) → o2 ≡ put o1 12 (encode_ids L) → o3 ≡ put o2 10 (bytes_of 2 n)
          → o4 ≡ put o3 8 (bytes_of 2 m) → epoch ≡ be_at 8 e 0 → o5 ≡ put o4 0 (bytes_of 8 epoch)
          → outcome (Ok (12 + 8 * m + z)) o5 ≡ joined_delta J o
      unfolding joined_delta written encode_delta num be_at
      all-written hm hn h o1 o2 o3 o4 o5 epoch w1 w2 w3 w4 we w5 =
          let R : List ℕ = encode_segments G in
          let I : List ℕ = encode_ids L in
          let B : List ℕ = bytes_of 2 (length G) in
          let A : List ℕ = bytes_of 2 (length L) in
          let E : List ℕ = bytes_of 8 (num 8 e) in
          let lr : length R ≡ z = length-encode_segments G ∙ sym f.size in
          let li : length I ≡ 8 * length L = length-encode_ids L in
          let lb : length B ≡ 2 = length-bytes_of 2 (length G) in
          let la : length A ≡ 2 = length-bytes_of 2 (length L) in
          let le : length E ≡ 8 = length-bytes_of 8 (num 8 e) in
          let l12 : length (I ++ R) ≡ length I + length R = length-append I R in
          let l10 : length (B ++ (I ++ R)) ≡ length B + length (I ++ R) = length-append B (I ++ R) in
          let l8 : length (A ++ (B ++ (I ++ R))) ≡ length A + length (B ++ (I ++ R)) = length-append A (B ++ (I ++ R)) in
          let s12 : put (put o (12 + 8 * m) R) 12 I ≡ put o 12 (I ++ R) = put-before o 12 (12 + 8 * m) I R (omega arith) (omega arith) in
          let s10 : put (put o 12 (I ++ R)) 10 B ≡ put o 10 (B ++ (I ++ R)) = put-before o 10 12 B (I ++ R) (omega arith) (omega arith) in
          let s8 : put (put o 10 (B ++ (I ++ R))) 8 A ≡ put o 8 (A ++ (B ++ (I ++ R))) =
          put-before o 8 10 A (B ++ (I ++ R)) (omega arith) (omega arith) in
          let s0 : put (put o 8 (A ++ (B ++ (I ++ R)))) 0 E ≡ put o 0 (E ++ (A ++ (B ++ (I ++ R)))) =
          put-before o 0 8 E (A ++ (B ++ (I ++ R))) (omega arith) (omega arith) in
          let k : o5 ≡ put o 0 (encode_delta X) = cc (q, f.count) in
          let t : length (encode_delta X) ≡ 12 + 8 * m + z = omega (arith, long, f.size) in
          let c : countable X ≡ true =
          simp (le-leb (length L) max_count (omega arith), le-leb (length G) max_count (omega (arith, f.count))) in
          sym (ap (λ (x : AssignmentDelta). joined_delta x o) result ∙ simp (c, t, le-leb (12 + 8 * m + z) (length o) h, ← k))
