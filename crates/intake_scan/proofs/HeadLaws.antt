-- Laws of what a walk over a segment keeps of its head.
--
-- In order: the numbers of fields 0 to 3, by their fields (`NumbersKept`, with its cases from `numbers-start` on); the topic's place
-- (`TopicKept`, with its cases from `topic-start` on); the head that they give at the end (`head-says`).
-- Assumes nothing.
use Prim.Native.Nat.{ℕ, zero, suc, ◌+◌, ◌≤◌, ◌<◌}
use native.Mathlib.Omega.{arith}
use mathlib.Core.Path.{◌≡◌, refl, sym, ◌∙◌}
use mathlib.Core.Bool.{Bool, true, false}
use mathlib.Core.List.{List, [], ◌∷◌}
use lib.ListN.{length, take, drop, get_or, set, length-set}
use lib.Seq.{get_or-set_same, get_or-set_other}
use lib.Dec.{eqb}
use borrow.Author.Tests.{eqb-true, eqb-false}
use Rattle.wire.specs.Fields.{fields_of}
use Rattle.wire_values.specs.Values.{numbers_of, parts_of, last_part, number_in}
use Rattle.wire_values.proofs.FrontLaws.{numbers_from, parts_from, NumberAt, PartAt, number_same, number-other, part_same, part-other}
use Rattle.wire_values.proofs.WalkLaws.{Kept, kept-done, kept_next, kept-stays, later, number-start, part-start}
use Rattle.wire_readers.specs.Messages.{read_segment}
use Rattle.wire_readers.specs.Places.{head_of, SegmentIs}

pub record NumbersKept (s : List ℕ) (at : ℕ) (numbers : List ℕ) : Type 0 where
  pub long : length numbers ≡ 4
  pub each : (n : ℕ) → n < 4 → Kept later (number_in n (fields_of s)) (get_or numbers n 0) (numbers_from n s at)

zeros : (n : ℕ) → ◌≡◌ {A = ℕ} (get_or (0 ∷ 0 ∷ 0 ∷ 0 ∷ []) n 0) 0
zeros zero = refl
zeros (suc zero) = refl
zeros (suc (suc zero)) = refl
zeros (suc (suc (suc zero))) = refl
zeros (suc (suc (suc (suc n)))) = refl

pub numbers-start : (s : List ℕ) → NumbersKept s 0 (0 ∷ 0 ∷ 0 ∷ 0 ∷ [])
numbers-start s = record { long = refl; each = λ n h. kept-stays refl (zeros n) (number-start (numbers_of n (fields_of s))) }

module _ {s : List ℕ} {at : ℕ} {numbers : List ℕ} where
  pub numbers-stays : {next : ℕ} → ((n : ℕ) → numbers_from n s at ≡ numbers_from n s next) → NumbersKept s at numbers
      → NumbersKept s next numbers
  numbers-stays e k = record { long = k.long; each = λ n h. kept-stays (e n) refl (k.each n h) }

  module _ {f v size : ℕ} (q : NumberAt s at f v size) (k : NumbersKept s at numbers) where
    pub numbers-other : 4 ≤ f → NumbersKept s (at + size) numbers
    numbers-other h =
        record { long = k.long; each = λ n b. kept-stays (number-other q n (λ e. omega arith)) refl (k.each n b) }

    one_set : f < 4 → (n : ℕ) → n < 4 → (b : Bool) → eqb f n ≡ b
        → Kept later (number_in n (fields_of s)) (get_or (set numbers f v) n 0) (numbers_from n s (at + size))
    one_set h n g true e =
        let a : f ≡ n = eqb-true f n e in
        let l : f < length numbers = omega (arith, k.long) in
        kept_next (number_same q n a) (rw (← a) (get_or-set_same numbers f v 0 l)) (k.each n g)
    one_set h n g false e =
        let a : f ≡ n → ⊥ = eqb-false f n e in
        kept-stays (number-other q n a) (get_or-set_other numbers f n v 0 (λ z. a (sym z))) (k.each n g)

    pub numbers-set : f < 4 → NumbersKept s (at + size) (set numbers f v)
    numbers-set h =
        record { long = length-set numbers f v ∙ k.long; each = λ n g. one_set h n g (eqb f n) refl }

-- the place of the last topic so far
pub record TopicKept (s : List ℕ) (at start len : ℕ) : Type 0 where
  pub inside : start + len ≤ length s
  pub last : Kept later (last_part (parts_of 4 (fields_of s))) (take len (drop start s)) (parts_from 4 s at)

pub topic-start : (s : List ℕ) → TopicKept s 0 0 0
topic-start s = record { inside = omega arith; last = part-start (parts_of 4 (fields_of s)) }

module _ {s : List ℕ} {at start len : ℕ} (k : TopicKept s at start len) where
  pub topic-stays : {next : ℕ} → parts_from 4 s at ≡ parts_from 4 s next → TopicKept s next start len
  topic-stays e = record { inside = k.inside; last = kept-stays e refl k.last }

  module _ {f from size : ℕ} (q : PartAt s at f from size) {x y : ℕ} where
    pub topic-set : f ≡ 4 → x ≡ at + from → y ≡ size → TopicKept s (at + from + size) x y
    topic-set e a b =
        rw (a, b) (record { inside = q.inside; last = kept_next (part_same q 4 e) refl k.last })

    pub topic-other : (f ≡ 4 → ⊥) → x ≡ start → y ≡ len → TopicKept s (at + from + size) x y
    topic-other e a b = rw (a, b) (topic-stays (part-other q 4 e))

-- nothing is left of the segment
pub head-says : {s : List ℕ} {at : ℕ} {numbers : List ℕ} {start len : ℕ} → ((n : ℕ) → numbers_from n s at ≡ []) → parts_from 4 s at ≡ []
    → NumbersKept s at numbers → TopicKept s at start len → SegmentIs s (head_of numbers start len)
unfolding read_segment
head-says {s} {at} {numbers} e g k t =
    let d : (n : ℕ) → n < 4 → get_or numbers n 0 ≡ number_in n (fields_of s) = λ n h. kept-done (e n) (k.each n h) in
    record {
      id = d 1 (omega arith);
      start = rw (d 2 (omega arith));
      end = rw (d 3 (omega arith));
      inside = t.inside;
      topic = kept-done g t.last;
    }
