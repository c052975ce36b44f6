-- Laws of a walk over deltas and log together, and of the answers.
--
-- In order: a delta's entries at the front of a log (`in_both`, `in-not`); a walk over deltas and log (`Follow`:
-- `follow-start`, `follow-bad`, `follow-few`, `follow-wrong`, `follow-next`, `follow-end`); which bytes are a log
-- (`log-odd`, `log-set`, `log-valid`); the answers (`checked-deltas`, `checked-log`, `checked-told`).
-- Assumes nothing.
use Rattle.std.specs.Prelude.{Ok, Err}
use Prim.Native.Nat.{ℕ, zero, suc, ◌+◌, ◌-◌, ◌*◌, ◌/◌, ◌%◌, ◌≤◌, ◌<◌}
use native.Mathlib.Omega.{arith}
use mathlib.Core.Path.{◌≡◌, refl, sym, ap, ◌∙◌, subst}
use mathlib.Core.Logic.{inl, inr}
use mathlib.Core.Bool.{Bool, true, false, cond, ◌&&◌, ◌||◌, and-false}
use mathlib.Core.List.{List, [], ◌∷◌, map}
use lib.ListN.{length, take, drop, length-drop}
use lib.Seq.{drop-drop}
use lib.Dec.{leb, eqb}
use borrow.Author.Tests.{le-leb, lt-leb, eq-eqb, ne_eqb}
use Rattle.slice.specs.BoolLaws.{both_true}
use Rattle.refusal.specs.declared.Refusal.TheVariants.{MalformedInput, InvalidLog}
use Rattle.packed.specs.Assignment.{AssignedSegment, decode_segments}
use Rattle.packed_delta.specs.Delta.{AssignmentDelta, decode_ids, decode_delta, size_delta, ok_delta, starts_delta}
use Rattle.packed_delta.proofs.RoundLaws.{Front}
use Rattle.attach_entries.specs.declared.Entry.{Entry}
use Rattle.attach_entries.specs.declared.Entry.TheVariants.{Detach}
use Rattle.attach_entries.specs.Log.{is_nil, behind, are_at_most, deltas_at_most, are_deltas, deltas_of}
use Rattle.attach_entries.specs.Log.{entries_in, log_entries, clear_in, is_log}
use Rattle.attach_entries.specs.Passes.{attach_of, detaches, attaches, Checked}
use Rattle.attach_entries.specs.Follows.{all_in, follows}
use Rattle.attach_log.specs.Steps.{part_in, delta_in}
use Rattle.attach_log.proofs.PartLaws.{attach-ids}
use Rattle.attach_log.proofs.WalkLaws.{lost-count, gained-count, fits, not-nil, nil_end}
use Rattle.attach_rows.proofs.EntryLaws.{entries-row, drop-entries, length-row, take_row}
use Rattle.attach_entries.proofs.PassLaws.{AllValid, follows-passes, passes-follows, not-both}

-- ---- a delta's entries

module _ (s : List ℕ) (m n : ℕ) (log : List ℕ) (q : ℕ) (t : Bool) (e : t ≡ part_in false s 12 m log q m) where
  lost-there : t ≡ all_in (map Detach (decode_ids m (drop 12 s))) (entries_in m (drop q log))
  lost-there = e

  pub in-not : t ≡ false → false ≡ delta_in s m n (drop q log)
  unfolding delta_in
  in-not h = simp (← lost-there, h)

  pub in_both : t ≡ true → (r : Bool) → r ≡ part_in true s (12 + 8 * m) n log (q + 9 * m) n → r ≡ delta_in s m n (drop q log)
  unfolding delta_in
  in_both h r f =
      f
      ∙ ap (λ (l : List Entry). all_in l (entries_in n (drop (q + 9 * m) log))) (attach-ids (decode_segments n (drop (12 + 8 * m) s)))
      ∙ simp (← lost-there, h, drop-drop (9 * m) q log)

-- ---- one delta of a walk

nil-most : (f : ℕ) (l : List ℕ) → is_nil l ≡ true → deltas_at_most f l ≡ []
unfolding deltas_at_most
nil-most zero l h = refl
nil-most (suc f) l h = simp h

record Most (f : ℕ) (l : List ℕ) : Type 0 where
  starts : starts_delta l ≡ true
  rest : are_at_most (f - 1) (behind l) ≡ true
  deltas : deltas_at_most f l ≡ decode_delta l ∷ deltas_at_most (f - 1) (behind l)

most : (f : ℕ) (l : List ℕ) → is_nil l ≡ false → are_at_most f l ≡ true → Most f l
unfolding are_at_most deltas_at_most
most zero l h k = absurd (not-both k h)
most (suc f) l h k =
    let e : f ≡ suc f - 1 = omega arith in
    let b = both_true (starts_delta l) _ (simp h at k) in
    record {
      starts = b.0;
      rest = ap (λ (g : ℕ). are_at_most g (behind l)) (sym e) ∙ b.1;
      deltas = simp h (ap (λ (g : ℕ). decode_delta l ∷ deltas_at_most g (behind l)) e);
    }

and_assoc : (a b c : Bool) → (a && (b && c)) ≡ ((a && b) && c)
and_assoc true b c = refl
and_assoc false b c = refl

-- a delta's entries are at the front of the log's
abbrev parts : AssignmentDelta → ℕ → ℕ → List Entry → Bool
parts d m n es = all_in (detaches d) (take m es) && all_in (attaches d) (take n (drop m es))

follows-first : (d : AssignmentDelta) (ds : List AssignmentDelta) (es : List Entry) (m n : ℕ)
    → length d.lost ≡ m → length d.gained ≡ n
    → follows (d ∷ ds) es ≡ (leb (m + n) (length es) && (parts d m n es && follows ds (drop (m + n) es)))
unfolding follows
follows-first d ds es m n em en =
    ap (λ (k : ℕ). leb (k + length d.gained) (length es) && (all_in (detaches d) (take k es)
    && (all_in (attaches d) (take (length d.gained) (drop k es)) && follows ds (drop (k + length d.gained) es)))) em
    ∙ ap (λ (k : ℕ). leb (m + k) (length es) && (all_in (detaches d) (take m es)
    && (all_in (attaches d) (take k (drop m es)) && follows ds (drop (m + k) es)))) en
    ∙ ap (λ (t : Bool). leb (m + n) (length es) && t)
    (and_assoc (all_in (detaches d) (take m es)) (all_in (attaches d) (take n (drop m es))) (follows ds (drop (m + n) es)))

-- ---- a walk over deltas and log

-- at the places p and q what is left of both decides
pub record Follow (s log : List ℕ) (p q left : ℕ) : Type 0 where
  pub count : ℕ
  pub bound : p ≤ length s
  pub place : q + 9 * left ≤ length log
  pub valid : are_at_most count (drop p s) ≡ true
  pub decides : follows (deltas_of s) (log_entries log) ≡ follows (deltas_at_most count (drop p s)) (entries_in left (drop q log))

pub follow-start : (s log : List ℕ) → are_deltas s ≡ true → Follow s log 0 0 (length log / 9)
unfolding are_deltas deltas_of log_entries
follow-start s log h = record { count = length s; bound = omega arith; place = omega arith; valid = h; decides = refl }

module _ (s log : List ℕ) (p q left : ℕ) (w : Follow s log p q left) where
  pub follow-end : length s ≤ p → eqb left 0 ≡ follows (deltas_of s) (log_entries log)
  unfolding follows
  follow-end h =
      sym (w.decides
      ∙ ap (λ (ds : List AssignmentDelta). follows ds (entries_in left (drop q log)))
      (nil-most w.count (drop p s) (nil_end s p h))
      ∙ ap (λ (n : ℕ). eqb n 0) (length-row entries-row left (drop q log)))

  module _ (h : p < length s) where
    here : Most w.count (drop p s)
    here = most w.count (drop p s) (not-nil s p h) w.valid

    -- a delta does stand there
    pub follow-bad : starts_delta (drop p s) ≡ false → ⊥
    follow-bad e = not-both here.starts e

    module _ (m n z : ℕ) (f : Front (drop p s) m n z) where
      abbrev es : List Entry
      es = entries_in left (drop q log)

      abbrev later : List AssignmentDelta
      later = deltas_at_most (w.count - 1) (behind (drop p s))

      abbrev d : AssignmentDelta
      d = decode_delta (drop p s)

      turn : follows (deltas_of s) (log_entries log) ≡ (leb (m + n) left && (parts d m n es && follows later (drop (m + n) es)))
      turn =
          w.decides
          ∙ ap (λ (ds : List AssignmentDelta). follows ds es) here.deltas
          ∙ follows-first d later es m n (lost-count f) (gained-count f)
          ∙ ap (λ (k : ℕ). leb (m + n) k && (parts d m n es && follows later (drop (m + n) es)))
          (length-row entries-row left (drop q log))

      pub follow-few : left < m + n → false ≡ follows (deltas_of s) (log_entries log)
      follow-few k = sym (turn ∙ simp (lt-leb (m + n) left k))

      module _ (k : m + n ≤ left) where
        lost-entries : take m es ≡ entries_in m (drop q log)
        lost-entries = take_row entries-row m left (drop q log) (omega arith)

        gained-entries : take n (drop m es) ≡ entries_in n (drop (9 * m) (drop q log))
        gained-entries =
            ap (take n) (drop-entries m left (drop q log) (omega arith))
            ∙ take_row entries-row n (left - m) (drop (9 * m) (drop q log)) (omega arith)

        other_entries : drop (m + n) es ≡ entries_in (left - m - n) (drop (q + 9 * (m + n)) log)
        other_entries =
            let e : left - (m + n) ≡ left - m - n = omega arith in
            drop-entries (m + n) left (drop q log) k
            ∙ ap (λ (i : ℕ). entries_in i (drop (9 * (m + n)) (drop q log))) e
            ∙ ap (entries_in (left - m - n)) (drop-drop (9 * (m + n)) q log)

        here-is : parts d m n es ≡ delta_in (drop p s) m n (drop q log)
        unfolding delta_in
        here-is =
            let ids : List ℕ = decode_ids m (drop 12 (drop p s)) in
            let gs : List AssignedSegment = decode_segments n (drop (12 + 8 * m) (drop p s)) in
            ap (λ (x : List ℕ). all_in (map Detach x) (take m es) && all_in (attaches d) (take n (drop m es))) f.lost-is
            ∙ ap (λ (x : List AssignedSegment). all_in (map Detach ids) (take m es) && all_in (map attach_of x) (take n (drop m es)))
            f.gained-is
            ∙ ap (λ (x : List Entry). all_in (map Detach ids) x && all_in (map attach_of gs) (take n (drop m es))) lost-entries
            ∙ ap (λ (x : List Entry). all_in (map Detach ids) (entries_in m (drop q log)) && all_in (map attach_of gs) x) gained-entries

        turn_in : follows (deltas_of s) (log_entries log)
            ≡ (delta_in (drop p s) m n (drop q log) && follows later (drop (m + n) es))
        turn_in =
            turn
            ∙ ap (λ (t : Bool). t && (parts d m n es && follows later (drop (m + n) es))) (le-leb (m + n) left k)
            ∙ ap (λ (t : Bool). t && follows later (drop (m + n) es)) here-is

        pub follow-wrong : delta_in (drop p s) m n (drop q log) ≡ false → false ≡ follows (deltas_of s) (log_entries log)
        follow-wrong e = sym (turn_in ∙ ap (λ (t : Bool). t && follows later (drop (m + n) es)) e)

        behind-is : behind (drop p s) ≡ drop (p + z) s
        behind-is = ap (λ (y : ℕ). drop y (drop p s)) (sym f.size_is) ∙ drop-drop z p s

        pub follow-next : delta_in (drop p s) m n (drop q log) ≡ true → Follow s log (p + z) (q + 9 * (m + n)) (left - m - n)
        follow-next e =
            let y : length (drop p s) ≡ length s - p = length-drop p s in
            record {
              count = w.count - 1;
              bound = omega (arith, fits f);
              place = omega (arith, w.place);
              valid = ap (are_at_most (w.count - 1)) (sym behind-is) ∙ here.rest;
              decides =
                  turn_in
                  ∙ ap (λ (t : Bool). t && follows later (drop (m + n) es)) e
                  ∙ ap (λ (l : List Entry). follows later l) other_entries
                  ∙ ap (λ (l : List ℕ). follows (deltas_at_most (w.count - 1) l) (entries_in (left - m - n) (drop (q + 9 * (m + n)) log)))
                  behind-is;
            }

-- ---- which bytes are a log

module _ (log : List ℕ) where
  pub log-odd : (length log % 9 ≡ 0 → ⊥) → is_log log ≡ false
  unfolding is_log
  log-odd h = simp (ne_eqb (length log % 9) 0 h)

  pub log-set : clear_in (length log / 9) log ≡ false → is_log log ≡ false
  unfolding is_log
  log-set h = simp (h, and-false)

  pub log-valid : length log % 9 ≡ 0 → clear_in (length log / 9) log ≡ true → is_log log ≡ true
  unfolding is_log
  log-valid h k = simp (eq-eqb (length log % 9) 0 h, k)

-- ---- the answers

all_valid : (f : ℕ) (l : List ℕ) → are_at_most f l ≡ true → AllValid (deltas_at_most f l)
unfolding are_at_most deltas_at_most starts_delta
all_valid zero l h = tt
all_valid (suc f) l h = go (is_nil l) refl (all_valid f (behind l))
  where
    go : (t : Bool) → is_nil l ≡ t → (are_at_most f (behind l) ≡ true → AllValid (deltas_at_most f (behind l)))
        → AllValid (cond (is_nil l) [] (decode_delta l ∷ deltas_at_most f (behind l)))
    go true e r = subst AllValid (sym (ap (λ (t : Bool). cond t [] (decode_delta l ∷ deltas_at_most f (behind l))) e)) tt
    go false e r =
        let k : (starts_delta l && are_at_most f (behind l)) ≡ true =
        sym (ap (λ (t : Bool). t || (starts_delta l && are_at_most f (behind l))) e) ∙ h in
        let b = both_true (starts_delta l) _ k in
        let o : ok_delta (decode_delta l) ≡ true = (both_true (leb (size_delta (decode_delta l)) (length l)) _ b.0).1 in
        subst AllValid (sym (ap (λ (t : Bool). cond t [] (decode_delta l ∷ deltas_at_most f (behind l))) e)) (o, r b.1)

module _ (s log : List ℕ) where
  pub checked-deltas : are_deltas s ≡ false → Checked s log (Err MalformedInput)
  unfolding Checked
  checked-deltas e = inl (e, refl)

  module _ (e : are_deltas s ≡ true) where
    pub checked-log : is_log log ≡ false → Checked s log (Err InvalidLog)
    unfolding Checked
    checked-log f = inr (e, f, refl)

    pub checked-told : is_log log ≡ true → (b : Bool) → b ≡ follows (deltas_of s) (log_entries log) → Checked s log (Ok b)
    unfolding Checked are_deltas deltas_of
    checked-told f b h = (
      e,
      f,
      λ t. follows-passes (deltas_of s) (log_entries log) (all_valid (length s) s e) (sym h ∙ t),
      λ p. h ∙ passes-follows (deltas_of s) (log_entries log) p,
    )
