-- Laws of tails: bytes put in front of an array's last bytes.
--
-- In order: one byte in front (`Longer`, `tail-set`, `longer-set`); a mark and four hexadecimal digits (`put_word`); the loop over a number's decimal digits
-- (`Counting`: `counting-start`, `counting-next`, `counting-end`); the descriptor (`descriptor-is`), its part of the array, and its length
-- (`descriptor-part`, `descriptor-from`).
-- Assumes nothing.
use Prim.Native.Nat.{ℕ, suc, ◌+◌, ◌-◌, ◌/◌, ◌%◌, ◌^◌, ◌≤◌, ◌<◌}
use native.Mathlib.Omega.{arith}
use mathlib.Core.Path.{◌≡◌, refl, sym, ap, ◌∙◌, subst}
use mathlib.Core.List.{List, [], ◌∷◌, ◌++◌, append_assoc, append-nil}
use lib.ListN.{length, take, drop, set, length-append, length-drop, length-set, drop_of_length-le}
use lib.Seq.{length-take-le, set_split, drop_at}
use Rattle.topic_types.specs.declared.KeyRange.{KeyRange}
use Rattle.topic_types.specs.declared.SegmentId.{SegmentId}
use Rattle.slice.proofs.PartLaws.{rest}
use Rattle.slice_int.specs.Put.{put}
use Rattle.slice_int.proofs.PutLaws.{put_one, put-snoc, put-after, length-put}
use Rattle.name_topic.specs.Names.{hex_digit, hex4, decimal_within, decimal, descriptor}
use Rattle.name_topic.specs.Answers.{tail_of, Room, DecimalIs, DescriptorIs}
use Rattle.name_topic.specs.declared.descriptor.Tail.{Tail}
use Rattle.name_topic.proofs.NameLaws.{hex4-length, decimal-next, decimal-end, digits-fewer}

-- ---- bytes in front

-- r is t with the bytes bs in front
pub record Longer (t : Tail) (bs : List ℕ) (r : Tail) : Type 0 where
  pub long : length r.bytes ≡ 32
  pub from : r.from + length bs ≡ t.from
  pub tail : tail_of r ≡ bs ++ tail_of t

pub tail-set : (l : List ℕ) (n b : ℕ) → 0 < n → n ≤ length l → drop (n - 1) (set l (n - 1) b) ≡ b ∷ drop n l
tail-set l n b h k =
    let e : suc (n - 1) ≡ n = omega arith in
    let f : length (take (n - 1) l) ≡ n - 1 = length-take-le (n - 1) l (omega arith) in
    ap (drop (n - 1)) (set_split l (n - 1) b (omega arith))
    ∙ drop_at (take (n - 1) l) (b ∷ drop (suc (n - 1)) l) (n - 1) f
    ∙ rw e

-- one byte stored right in front
pub longer-set : (l : List ℕ) (n b : ℕ) → 0 < n → n ≤ 32 → length l ≡ 32
    → Longer (record { bytes = l; from = n }) (b ∷ []) (record { bytes = set l (n - 1) b; from = n - 1 })
longer-set l n b h k e =
    record { long = simp length-set e; from = omega arith; tail = tail-set l n b h (omega arith) }

-- ---- hexadecimal

-- a mark and four digits, stored one after the other
pub put_word : (o : List ℕ) (at m v a b c d : ℕ) → at + 5 ≤ length o
    → a ≡ hex_digit (v / 4096 % 16) → b ≡ hex_digit (v / 256 % 16) → c ≡ hex_digit (v / 16 % 16) → d ≡ hex_digit (v % 16)
    → set (set (set (set (set o at m) (at + 1) a) (at + 2) b) (at + 3) c) (at + 4) d ≡ put o at (m ∷ hex4 v)
unfolding hex4
put_word o at m v a b c d h ea eb ec ed =
    ap (λ (l : List ℕ). set (set (set (set l (at + 1) a) (at + 2) b) (at + 3) c) (at + 4) d) (put_one o at m (omega arith))
    ∙ ap (λ (l : List ℕ). set (set (set l (at + 2) b) (at + 3) c) (at + 4) d) (put-snoc o at 1 (m ∷ []) a refl (omega arith))
    ∙ ap (λ (l : List ℕ). set (set l (at + 3) c) (at + 4) d) (put-snoc o at 2 (m ∷ a ∷ []) b refl (omega arith))
    ∙ ap (λ (l : List ℕ). set l (at + 4) d) (put-snoc o at 3 (m ∷ a ∷ b ∷ []) c refl (omega arith))
    ∙ put-snoc o at 4 (m ∷ a ∷ b ∷ c ∷ []) d refl (omega arith)
    ∙ rw (ea, eb, ec, ed)

-- ---- decimal

-- r holds the last digits of id; v is what is left, and the place says how many digits it may have
pub record Counting (id : ℕ) (r : Tail) (v : ℕ) : Type 0 where
  pub room : Room 13 r
  pub below : v < 10 ^ (r.from - 12)
  pub value : decimal id ≡ decimal_within (r.from - 12) v ++ tail_of r

pub counting-start : (id : ℕ) (r : Tail) → r.from ≡ 32 → length r.bytes ≡ 32 → id < 10 ^ 20 → Counting id r id
unfolding decimal
counting-start id r e k h =
    let f : r.from - 12 ≡ 20 = omega arith in
    let g : tail_of r ≡ [] = drop_of_length-le r.bytes {i = r.from} (omega arith) in
    record {
      room = record { low = omega arith; high = omega arith; long = k };
      below = rw f h;
      value = sym (rw (f, g) (append-nil (decimal_within 20 id)));
    }

module _ (id : ℕ) (r : Tail) (v : ℕ) (C : Counting id r v) (q : Tail) (b : ℕ) (L : Longer r (b ∷ []) q) where
  digits-left : r.from - 12 ≡ suc (r.from - 13)
  digits-left = omega (arith, C.room)

  value-at : decimal id ≡ decimal_within (suc (r.from - 13)) v ++ tail_of r
  value-at = C.value ∙ ap (λ (k : ℕ). decimal_within k v ++ tail_of r) digits-left

  pub counting-next : b ≡ 0x30 + v % 10 → 10 ≤ v → Counting id q (v / 10)
  counting-next e h =
      let p = digits-fewer (r.from - 13) v h (subst (λ (k : ℕ). v < 10 ^ k) digits-left C.below) in
      let g : r.from - 13 ≡ q.from - 12 = omega (arith, L.from) in
      let f : tail_of q ≡ (0x30 + v % 10) ∷ tail_of r = L.tail ∙ rw e in
      record {
        room = record { low = omega (arith, p.0, L.from); high = omega (arith, C.room, L.from); long = L.long };
        below = subst (λ (k : ℕ). v / 10 < 10 ^ k) g p.1;
        value =
            value-at
            ∙ decimal-next (r.from - 13) v (tail_of r) (tail_of q) h f
            ∙ ap (λ (k : ℕ). decimal_within k (v / 10) ++ tail_of q) g;
      }

  pub counting-end : b ≡ 0x30 + v → v < 10 → DecimalIs id q
  counting-end e h =
      record {
        room = record { low = omega (arith, C.room, L.from); high = omega (arith, C.room, L.from); long = L.long };
        tail = L.tail ∙ rw e (sym (value-at ∙ ap (λ (l : List ℕ). l ++ tail_of r) (decimal-end (r.from - 13) v h)));
      }

-- ---- the descriptor

-- what was put, and what stands behind it
drop-put-at : (o : List ℕ) (at : ℕ) (A : List ℕ) → at ≤ length o → drop at (put o at A) ≡ A ++ drop (at + length A) o
unfolding put
drop-put-at o at A h = drop_at (take at o) (A ++ drop (at + length A) o) at (length-take-le at o h)

-- the id, then two words and a mark right before it
pub descriptor-is : (range : KeyRange) (id : SegmentId) (t : Tail) (at : ℕ) (a b : List ℕ) → DecimalIs id.0 t → at + 11 ≡ t.from
    → a ≡ put t.bytes at (0x2F ∷ hex4 range.start) → b ≡ put a (at + 5) (0x2D ∷ hex4 range.end)
    → DescriptorIs range id (record { bytes = set b (at + 10) 0x2D; from = at })
unfolding descriptor
descriptor-is range id t at a b D f ea eb =
    let o : List ℕ = t.bytes in
    let A : List ℕ = 0x2F ∷ hex4 range.start in
    let B : List ℕ = 0x2D ∷ hex4 range.end in
    let W : List ℕ = (A ++ B) ++ (0x2D ∷ []) in
    let la : length A ≡ 5 = ap suc (hex4-length range.start) in
    let lb : length B ≡ 5 = ap suc (hex4-length range.end) in
    let lab : length (A ++ B) ≡ 10 = length-append A B ∙ omega arith in
    let lw : length W ≡ 11 = length-append (A ++ B) (0x2D ∷ []) ∙ omega arith in
    let lo : length o ≡ 32 = D.room.long in
    let high : t.from ≤ 32 = D.room.high in
    let e : set b (at + 10) 0x2D ≡ put o at W =
    ap (λ (l : List ℕ). set l (at + 10) 0x2D) (eb ∙ ap (λ (l : List ℕ). put l (at + 5) B) ea ∙ ap (λ (n : ℕ). put (put o at A) (at + n) B) (sym la) ∙ put-after o at A B (omega arith))
    ∙ put-snoc o at 10 (A ++ B) 0x2D lab (omega arith) in
    let g : at + length W ≡ t.from = omega arith in
    record {
      room = record { low = omega arith; high = omega arith; long = ap length e ∙ length-put o at W (omega arith) ∙ lo };
      tail = ap (drop at) e ∙ drop-put-at o at W (omega arith) ∙ ap (λ (n : ℕ). W ++ drop n o) g ∙ ap (λ (l : List ℕ). W ++ l) D.tail ∙ simp append_assoc;
    }

module _ (range : KeyRange) (id : SegmentId) (r : Tail) (D : DescriptorIs range id r) where
  -- `&bytes[from..]` of an array of 32
  pub descriptor-part : take (32 - r.from) (drop r.from r.bytes) ≡ descriptor range id
  descriptor-part =
      ap (λ (n : ℕ). take (n - r.from) (tail_of r)) (sym D.room.long) ∙ rest r.bytes r.from ∙ D.tail

  pub descriptor-from : length (descriptor range id) ≡ 32 - r.from
  descriptor-from = ap length (sym D.tail) ∙ length-drop r.from r.bytes ∙ ap (λ (n : ℕ). n - r.from) D.room.long
