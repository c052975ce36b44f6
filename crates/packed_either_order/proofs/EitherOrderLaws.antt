-- The law of specs/EitherOrder (`either_order`), and that it is false without its hypothesis (`order-shows`).
--
-- In order: a choice by tests that agree (`chosen`); two forms of one length written (`written_behind`); deltas that
-- differ in the epoch alone, and the call join (`delta-behind` to `join-behind`); the same of assignments
-- (`assignment-behind` to `applied-behind`); bytes that agree from byte 8 on, read as a delta, and the call apply
-- (`further` to `apply-behind`); the law.
-- Assumes nothing.
use Rattle.std.specs.Prelude.{Result, Ok}
use Prim.Native.Nat.{ℕ, ◌+◌, ◌-◌, ◌*◌, ◌≤◌, ◌<◌}
use native.Mathlib.Omega.{arith}
use mathlib.Core.Path.{◌≡◌, refl, sym, ap, ap₂, ◌∙◌}
use mathlib.Core.Bool.{Bool, true, false, cond, ◌&&◌, and_comm, false≢true}
use mathlib.Core.List.{List, ◌++◌}
use lib.ListN.{length, take, drop, length-take, length-drop, drop_of_length-le}
use lib.Seq.{drop-drop, drop-append-le}
use lib.Dec.{eqb, leb}
use borrow.Author.Tests.{leb-true, leb-false, eqb-true, eqb-false, eq-eqb, ne_eqb}
use Rattle.slice.specs.BoolLaws.{both_true}
use Rattle.slice.proofs.PartLaws.{drop-take}
use Rattle.refusal.specs.declared.Refusal.{Refusal}
use Rattle.output.specs.Output.{Outcome, written}
use Rattle.slice_int.specs.Be.{bytes_of}
use Rattle.slice_int.specs.Put.{put}
use Rattle.slice_int.proofs.BeLaws.{drop-front}
use Rattle.packed.specs.Assignment.{ConsumerAssignment, slot_size, encode_segments, encode_assignment, size_assignment}
use Rattle.packed.specs.Assignment.{num, decode_assignment, is_assignment}
use Rattle.packed.proofs.RoundLaws.{length-encode_assignment}
use Rattle.packed_delta.specs.Delta.{AssignmentDelta, encode_ids, encode_delta, size_delta, decode_delta, ok_delta, is_delta}
use Rattle.packed_delta.specs.Join.{Apart, apply, join}
use Rattle.packed_delta.proofs.RoundLaws.{length-encode_delta}
use Rattle.packed_delta.proofs.DeltaLaws.{is-delta-proper}
use Rattle.packed_delta.proofs.CommuteLaws.{lost-commutes, gained-commutes}
use Rattle.packed_join.specs.JoinOutcome.{countable, joined_delta, join_outcome}
use Rattle.packed_apply.specs.ApplyOutcome.{applied, apply_outcome}
use Rattle.packed_either_order.specs.EitherOrder.{SameButEpoch, EitherOrder, Law}
use Rattle.packed_either_order.specs.Needed.{loses, gains, room, needed}

-- ---- what is written

-- tests that agree choose two outcomes, or the same one twice
chosen : (b c : Bool) {x y : Outcome} (z : Outcome) → b ≡ c → (b ≡ true → SameButEpoch x y)
    → SameButEpoch (cond b x z) (cond c y z)
chosen true true z e h = h refl
chosen true false z e h = absurd (false≢true (sym e))
chosen false true z e h = absurd (false≢true e)
chosen false false z e h = record { answer = refl; behind = refl }

-- two forms of one length that agree from byte 8 on
written_behind : (a b out : List ℕ) → 8 ≤ length a → length a ≡ length b → drop 8 a ≡ drop 8 b
    → SameButEpoch (written a out) (written b out)
unfolding written put
written_behind a b out h e f =
    chosen (leb (length a) (length out)) (leb (length b) (length out)) _ (ap (λ (n : ℕ). leb n (length out)) e) (λ t.
    record {
      answer = ap Ok e;
      behind =
          drop-append-le 8 a (drop (0 + length a) out) h
          ∙ ap₂ (λ (x : List ℕ) (n : ℕ). x ++ drop (0 + n) out) f e
          ∙ sym (drop-append-le 8 b (drop (0 + length b) out) (omega arith));
    })

-- ---- the call join

module _ (d e : AssignmentDelta) (p : d.lost ≡ e.lost) (q : d.gained ≡ e.gained) where
  delta-behind : drop 8 (encode_delta d) ≡ drop 8 (encode_delta e)
  unfolding encode_delta
  delta-behind =
      let rest : List ℕ = encode_ids e.lost ++ encode_segments e.gained in
      drop-front 8 d.layout_epoch _
      ∙ (cc)
      ∙ sym (drop-front 8 e.layout_epoch (bytes_of 2 (length e.lost) ++ (bytes_of 2 (length e.gained) ++ rest)))

  delta-length : length (encode_delta d) ≡ length (encode_delta e)
  unfolding size_delta
  delta-length = length-encode_delta d ∙ (cc) ∙ sym (length-encode_delta e)

  joined-behind : (out : List ℕ) → SameButEpoch (joined_delta d out) (joined_delta e out)
  unfolding joined_delta size_delta
  joined-behind out =
      chosen (countable d) (countable e) _ (cc) (λ t.
      written_behind _ (encode_delta e) out (omega (arith, length-encode_delta d)) delta-length delta-behind)

join-behind : (d e out : List ℕ) → Apart (decode_delta d) (decode_delta e)
    → SameButEpoch (join_outcome d e out) (join_outcome e d out)
unfolding join_outcome joined_delta
join-behind d e out h =
    chosen (is_delta d && is_delta e) (is_delta e && is_delta d) _ (and_comm (is_delta d) (is_delta e)) (λ t.
    let r = is-delta-proper d (both_true (is_delta d) (is_delta e) t).0 in
    let s = is-delta-proper e (both_true (is_delta d) (is_delta e) t).1 in
    joined-behind (join (decode_delta d) (decode_delta e)) (join (decode_delta e) (decode_delta d)) (lost-commutes (decode_delta d) (decode_delta e) r s)
    (gained-commutes (decode_delta d) (decode_delta e) r s h) out)

-- ---- the call apply

module _ (a b : ConsumerAssignment) (p : a.segments ≡ b.segments) where
  assignment-behind : drop 8 (encode_assignment a) ≡ drop 8 (encode_assignment b)
  unfolding encode_assignment
  assignment-behind =
      drop-front 8 a.layout_epoch _
      ∙ (cc)
      ∙ sym (drop-front 8 b.layout_epoch (bytes_of 2 (length b.segments) ++ encode_segments b.segments))

  assignment-size : size_assignment a ≡ size_assignment b
  unfolding size_assignment
  assignment-size = cc

  applied-behind : (out : List ℕ) → SameButEpoch (applied a out) (applied b out)
  unfolding applied size_assignment
  applied-behind out =
      let fits : ℕ → Bool = λ n. leb n slot_size in
      chosen (fits (size_assignment a)) (fits (size_assignment b)) _ (ap fits assignment-size) (λ t.
      written_behind (encode_assignment a) (encode_assignment b) out (omega (arith, length-encode_assignment a))
      (length-encode_assignment a ∙ assignment-size ∙ sym (length-encode_assignment b)) assignment-behind)

-- lengths that agree but for the first 8 bytes are both a size above 8, or neither is
size_fits : (s m n : ℕ) → 8 < s → m - 8 ≡ n - 8 → eqb s m ≡ eqb s n
size_fits s m n h e = go (eqb s m) refl
  where
    go : (t : Bool) → eqb s m ≡ t → eqb s m ≡ eqb s n
    go true t = t ∙ sym (eq-eqb s n (omega (arith, eqb-true s m t)))
    go false t = t ∙ sym (ne_eqb s n (λ q. eqb-false s m t (omega arith)))

module _ (x y : List ℕ) (h : drop 8 x ≡ drop 8 y) where
  further : (n : ℕ) → drop (8 + n) x ≡ drop (8 + n) y
  further n = sym (drop-drop n 8 x) ∙ ap (drop n) h ∙ drop-drop n 8 y

  lost-behind : (decode_delta x).lost ≡ (decode_delta y).lost
  unfolding decode_delta
  lost-behind = cc (further 4)

  gained-behind : (decode_delta x).gained ≡ (decode_delta y).gained
  unfolding decode_delta
  gained-behind =
      let m : ℕ = num 2 (drop 8 x) in
      let f : drop (8 + (4 + 8 * m)) x ≡ drop (8 + (4 + 8 * m)) y = further (4 + 8 * m) in
      let e : 8 + (4 + 8 * m) ≡ 12 + 8 * m = omega arith in
      let g : drop (12 + 8 * m) x ≡ drop (12 + 8 * m) y = rw e at f in
      cc (further 2)

  -- both are deltas, or neither is
  is-behind : is_delta x ≡ is_delta y
  unfolding is_delta ok_delta size_delta
  is-behind =
      let l : length x - 8 ≡ length y - 8 = sym (length-drop 8 x) ∙ ap length h ∙ length-drop 8 y in
      cc (lost-behind, gained-behind, size_fits (size_delta (decode_delta x)) (length x) (length y) (omega arith) l)

  segments-behind : (a : ConsumerAssignment) → (apply (decode_delta x) a).segments ≡ (apply (decode_delta y) a).segments
  unfolding apply
  segments-behind a = cc (lost-behind, gained-behind)

  apply-behind : (s out : List ℕ) → SameButEpoch (apply_outcome s x out) (apply_outcome s y out)
  unfolding apply_outcome applied
  apply-behind s out =
      let both : Bool → Bool = λ t. is_assignment s && t in
      chosen (both (is_delta x)) (both (is_delta y)) _ (ap both is-behind) (λ t.
      applied-behind (apply (decode_delta x) (decode_assignment s)) (apply (decode_delta y) (decode_assignment s)) (segments-behind (decode_assignment s)) out)

-- ---- the law

-- the fronts of what agrees from byte 8 on
front-behind : (n : ℕ) (x y : List ℕ) → drop 8 x ≡ drop 8 y → drop 8 (take n x) ≡ drop 8 (take n y)
front-behind n x y h = go (leb 8 n) refl
  where
    go : (t : Bool) → leb 8 n ≡ t → drop 8 (take n x) ≡ drop 8 (take n y)
    go true t =
        let e : n ≡ 8 + (n - 8) = omega (arith, leb-true 8 n t) in
        ap (λ (k : ℕ). drop 8 (take k x)) e
        ∙ drop-take 8 (n - 8) x
        ∙ ap (take (n - 8)) h
        ∙ sym (drop-take 8 (n - 8) y)
        ∙ ap (λ (k : ℕ). drop 8 (take k y)) (sym e)
    go false t =
        let k = leb-false 8 n t in
        drop_of_length-le (take n x) {i = 8} (omega (arith, length-take n x))
        ∙ sym (drop_of_length-le (take n y) {i = 8} (omega (arith, length-take n y)))

pub either_order : Law
either_order d e h =
    record {
      joins = λ out. join-behind d e out h;
      applied = λ out a o n q. apply-behind _ _ (front-behind n _ _ (join-behind d e out h).behind) a o;
    }

-- without the hypothesis there is no such law: the two of Needed are answered with other lengths
pub order-shows : ((d e : List ℕ) → EitherOrder d e) → ⊥
order-shows f =
    let p : ◌≡◌ {A = Result ℕ Refusal} (Ok 34) (Ok 20) =
    sym needed.lost-first-answer
    ∙ ((f (encode_delta loses) (encode_delta gains)).joins room).answer
    ∙ needed.gained-first-answer in
    let q : ◌≡◌ {A = ℕ} 34 20 = cc in
    omega arith
