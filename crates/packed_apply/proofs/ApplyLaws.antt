-- The cases of `apply_outcome`, as `apply` meets them.
--
-- In order: bytes that are refused (`no-assignment`, `no-delta`); how many records fit a slot (`few-fit`); the records of the result where
-- they come from (`overlaid`, `result`); a result that is beyond a slot (`too_long`), has no room (`no_room`), or is written (`all-written`).
-- Assumes nothing.
use Rattle.std.specs.Prelude.{None, Ok}
use Prim.Native.Nat.{ℕ, ◌+◌, ◌*◌, ◌≤◌, ◌<◌}
use native.Mathlib.Omega.{arith}
use mathlib.Core.Path.{◌≡◌, sym, ap, ◌∙◌}
use mathlib.Core.Bool.{false, and-false}
use mathlib.Core.List.{List, ◌++◌}
use lib.ListN.{length, drop, length-append}
use borrow.Author.Tests.{le-leb, lt-leb}
use Rattle.refusal.specs.declared.Refusal.TheVariants.{MalformedInput, AssignmentTooLong, ResultTooLong}
use Rattle.output.specs.Output.{outcome, refuse, written}
use Rattle.slice_int.specs.Be.{be_at, bytes_of}
use Rattle.slice_int.specs.Put.{put}
use Rattle.slice_int.proofs.BeLaws.{length-bytes_of}
use Rattle.slice_int.proofs.PutLaws.{put-before}
use Rattle.packed.specs.Assignment.{AssignedSegment, ConsumerAssignment, slot_size, encode_segments, encode_assignment, size_segments}
use Rattle.packed.specs.Assignment.{size_assignment, num, decode_segments, decode_assignment, is_assignment}
use Rattle.packed.proofs.RoundLaws.{length-encode_segments, length-encode_assignment}
use Rattle.packed.proofs.WholeLaws.{Whole}
use Rattle.packed_delta.specs.Delta.{decode_ids, decode_delta, is_delta}
use Rattle.packed_delta.specs.Join.{apply}
use Rattle.packed_delta.proofs.RoundLaws.{Walkable}
use Rattle.packed_delta.proofs.ShortLaws.{size-records}
use Rattle.packed_overlay.specs.Overlay.{overlay, fit_of}
use Rattle.packed_apply.specs.ApplyOutcome.{applied, apply_outcome}
use Rattle.packed_overlay.proofs.FitLaws.{Fits, fit-beyond}

-- ---- bytes that are refused

module _ (s d o : List ℕ) where
  pub no-assignment : is_assignment s ≡ false → refuse MalformedInput o ≡ apply_outcome s d o
  unfolding apply_outcome
  no-assignment e = simp e

  pub no-delta : is_delta d ≡ false → refuse MalformedInput o ≡ apply_outcome s d o
  unfolding apply_outcome
  no-delta e = simp (e, and-false)

-- ---- the result

-- the count of records that fit a slot has a packed form
pub few-fit : {gs : List AssignedSegment} {n z : ℕ} → Fits 2038 gs n z → n ≤ 145
few-fit {gs} f = omega (arith, f.count, f.within, size-records gs)

-- count records behind the head of s, overlaid with losses ids and gains records of d
abbrev pub overlaid : List ℕ → List ℕ → ℕ → ℕ → ℕ → List AssignedSegment
overlaid s d count losses gains =
    overlay (decode_ids losses (drop 12 d)) (decode_segments gains (drop (12 + 8 * losses) d)) (decode_segments count (drop 10 s))

module _ {s d : List ℕ} {count losses gains : ℕ} (w : Whole s count) (v : Walkable d losses gains) (o : List ℕ) where
  abbrev R : List AssignedSegment
  R = overlaid s d count losses gains

  abbrev X : ConsumerAssignment
  X = record { layout_epoch = num 8 d; segments = R }

  result : apply_outcome s d o ≡ applied X o
  unfolding apply_outcome applied apply decode_delta overlay
  result =
      let e : apply (decode_delta d) (decode_assignment s) ≡ X = cc (w.segments-are, v.lost-is, v.gained-is) in
      simp (w.is-assignment, v.is-delta, e)

  pub too_long : None ≡ fit_of 2038 R → refuse AssignmentTooLong o ≡ apply_outcome s d o
  unfolding applied size_assignment
  too_long e = sym (result ∙ simp (lt-leb (10 + size_segments R) slot_size (omega (arith, fit-beyond 2038 R e))))

  module _ {n z : ℕ} (f : Fits 2038 R n z) where
    written_or_not : apply_outcome s d o ≡ written (encode_assignment X) o
    unfolding applied size_assignment
    written_or_not = result ∙ simp (le-leb (10 + size_segments R) slot_size (omega (arith, f.within)))

    long : length (encode_assignment X) ≡ 10 + z
    unfolding size_assignment
    long = length-encode_assignment X ∙ ap (λ (k : ℕ). 10 + k) (sym f.size)

    pub no_room : length o < 10 + z → refuse ResultTooLong o ≡ apply_outcome s d o
    unfolding written
    no_room h = sym (written_or_not ∙ simp (lt-leb (length (encode_assignment X)) (length o) (omega (arith, long))))

    -- the three writes, each in front of the one before
    pub all-written : 10 + z ≤ length o → (o1 o2 o3 : List ℕ) (epoch : ℕ) → o1 ≡ put o 10 (encode_segments R) → o2 ≡ put o1 8 (bytes_of 2 n)
        → epoch ≡ be_at 8 d 0 → o3 ≡ put o2 0 (bytes_of 8 epoch) → outcome (Ok (10 + z)) o3 ≡ apply_outcome s d o
    unfolding written encode_assignment num be_at
    all-written h o1 o2 o3 epoch w1 w2 e w3 =
        let G : List ℕ = encode_segments R in
        let C : List ℕ = bytes_of 2 (length R) in
        let E : List ℕ = bytes_of 8 (num 8 d) in
        let lg : length G ≡ z = length-encode_segments R ∙ sym f.size in
        let lc : length C ≡ 2 = length-bytes_of 2 (length R) in
        let le : length E ≡ 8 = length-bytes_of 8 (num 8 d) in
        let lcg : length (C ++ G) ≡ length C + length G = length-append C G in
        let s8 : put (put o 10 G) 8 C ≡ put o 8 (C ++ G) = put-before o 8 10 C G (omega arith) (omega arith) in
        let s0 : put (put o 8 (C ++ G)) 0 E ≡ put o 0 (E ++ (C ++ G)) = put-before o 0 8 E (C ++ G) (omega arith) (omega arith) in
        let k : o3 ≡ put o 0 (encode_assignment X) = cc f.count in
        sym (written_or_not ∙ simp (long, le-leb (10 + z) (length o) h, ← k))
