-- Ranges, the calls on them and the kind of a consumer are the Rust's (`new-agrees`, `length-agrees`,
-- `contains-agrees`, `contains-range-agrees`, `adjacent-agrees`, `to-wire-agrees`, `from-wire-agrees`). What a range
-- that `KeyRange::new` makes is: `new-bounds`.
--
-- `is_adjacent_to` tests first that a range does not end at the highest value. Where it does, no range that `KeyRange::new` makes starts
-- behind it (`touches-agrees`).
-- Assumes nothing.
use Rattle.std.specs.Prelude as std
use Prim.Native.Nat.{ℕ, zero, suc, ◌+◌, ◌≤◌}
use native.Mathlib.Omega.{arith}
use mathlib.Core.Path.{◌≡◌, refl, sym, ap, ap₂, ◌∙◌}
use mathlib.Core.Bool.{Bool, true, false, cond, ◌&&◌}
use lib.IntN.{pos, negsuc}
use lib.Dec.{eqb, ltb}
use borrow.Author.Tests.{ltb-false, ne_eqb}
use Rattle.topic_types.specs.declared.KeyRange.{KeyRange}
use Rattle.topic_types.specs.declared.KeyRangeError.{KeyRangeError}
use Rattle.topic_types.specs.declared.KeyRangeError.TheVariants.{StartOutOfBounds, EndOutOfBounds, Reversed}
use Rattle.topic_types.specs.declared.ScalableConsumerType.TheVariants.{Stream, Checkpoint}
use Rattle.topic_types.specs.KeyRanges.{max_hash, key_range, new_key_range}
use Rattle.topic_types.specs.ConsumerTypes.{to_wire, from_wire}
use Rattle.topic_types.proofs.KeyRangeLaws.{Makes, new-valid}
use Rattle.refusal.specs.declared.Refusal.TheVariants.{InvalidKeyRange}
use Rattle.refusal.specs.Steps.{take_range}
use Rattle.ranges_calls.specs.Calls.{values_in, holds_range, touches, length_of, contains_of, contains_range_of, is_adjacent_of}
use Rattle.rust_magnetar.specs.Result.{Result, Ok, Err, ◌>>=◌, map-err}
use Rattle.rust_magnetar.specs.Ranges.{MAX-HASH, KeyRange-new, KeyRange-len, KeyRange-contains, KeyRange-contains-range, KeyRange-is-adjacent-to}
use Rattle.rust_names.specs.Agree.{both, range_of, length_result, test_result, NewAgrees, LengthAgrees, ContainsAgrees, ContainsRangeAgrees}
use Rattle.rust_names.specs.Agree.{AdjacentAgrees, ToWireAgrees, FromWireAgrees}
use Rattle.refusal.specs.declared.Refusal.{Refusal}

pub new-agrees : NewAgrees
unfolding new_key_range
new-agrees s e = go (ltb max_hash s) (ltb max_hash e) (ltb e s)
  where
    go : (t u v : Bool)
        → cond t (Err (StartOutOfBounds s)) (cond u (Err (EndOutOfBounds e)) (cond v (Err (Reversed s e)) (Ok (key_range s e))))
        ≡ range_of
        (cond t (std.Err (StartOutOfBounds s)) (cond u (std.Err (EndOutOfBounds e)) (cond v (std.Err (Reversed s e)) (std.Ok (key_range s e)))))
    go true u v = refl
    go false true v = refl
    go false false true = refl
    go false false false = refl

pub new-bounds : (s e : ℕ) (r : KeyRange) → KeyRange-new s e ≡ Ok r → Makes s e r
new-bounds s e r made = go (new_key_range s e) refl (sym (new-agrees s e) ∙ made)
  where
    go : (x : std.Result KeyRange KeyRangeError) → new_key_range s e ≡ x → range_of x ≡ Ok r → Makes s e r
    go (std.Ok range) p q = let z : range ≡ r = cc in new-valid s e r (p ∙ ap std.Ok z)
    go (std.Err error) p q = let z : ◌≡◌ {A = ℕ} 0 1 = cc in absurd (omega arith)

-- the range that this port makes is made by the Rust of its own ends
pub valid-made : (s e : ℕ) (r : KeyRange) → new_key_range s e ≡ std.Ok r → KeyRange-new r.start r.end ≡ Ok r
valid-made s e r v =
    let m = (new-valid s e r v).made in
    ap (λ (x : KeyRange). KeyRange-new x.start x.end) m ∙ new-agrees s e ∙ ap range_of v

-- ---- calls on one range

pub length-agrees : LengthAgrees
unfolding length_of
length-agrees s e =
    ap (λ (r : Result KeyRange KeyRangeError). map-err InvalidKeyRange (r >>= (λ range. Ok (KeyRange-len range)))) (new-agrees s e)
    ∙ go (new_key_range s e)
  where
    go : (x : std.Result KeyRange KeyRangeError) → map-err InvalidKeyRange (range_of x >>= (λ range. Ok (KeyRange-len range))) ≡ length_result (take_range std.Err x (λ r. std.Ok (values_in r)))
    go (std.Ok range) = refl
    go (std.Err error) = refl

pub contains-agrees : ContainsAgrees
unfolding contains_of
contains-agrees s e hash =
    ap (λ (r : Result KeyRange KeyRangeError). map-err InvalidKeyRange (r >>= told)) (new-agrees s e) ∙ go (new_key_range s e)
  where
    told : KeyRange → Result Bool KeyRangeError
    told range = Ok (KeyRange-contains range hash)

    go : (x : std.Result KeyRange KeyRangeError) → map-err InvalidKeyRange (range_of x >>= told)
        ≡ test_result (take_range std.Err x (λ range. std.Ok (KeyRange-contains range hash)))
    go (std.Ok range) = refl
    go (std.Err error) = refl

-- ---- calls on two ranges

module _ (s e os oe : ℕ) (f g : KeyRange → KeyRange → Bool) where
  abbrev answer : (x y : std.Result KeyRange KeyRangeError) → std.Result Bool Refusal
  answer x y = take_range std.Err x (λ a. take_range std.Err y (λ b. std.Ok (g a b)))

  second : Result KeyRange KeyRangeError → KeyRange → Result Bool KeyRangeError
  second y a = y >>= (λ b. Ok (f a b))

  -- two tests that agree on the ranges that the ends make
  both-agree : ((a b : KeyRange) → new_key_range s e ≡ std.Ok a → new_key_range os oe ≡ std.Ok b → f a b ≡ g a b)
      → map-err InvalidKeyRange (both f s e os oe) ≡ test_result (answer (new_key_range s e) (new_key_range os oe))
  unfolding second
  both-agree h =
      ap₂ (λ (x y : Result KeyRange KeyRangeError). map-err InvalidKeyRange (x >>= second y)) (new-agrees s e) (new-agrees os oe)
      ∙ go (new_key_range s e) (new_key_range os oe) h
    where
      go : (x y : std.Result KeyRange KeyRangeError) → ((a b : KeyRange) → x ≡ std.Ok a → y ≡ std.Ok b → f a b ≡ g a b)
          → map-err InvalidKeyRange (range_of x >>= second (range_of y)) ≡ test_result (answer x y)
      go (std.Err error) y k = refl
      go (std.Ok a) (std.Err error) k = refl
      go (std.Ok a) (std.Ok b) k = ap (λ (t : Bool). Ok t) (k a b refl refl)

pub contains-range-agrees : ContainsRangeAgrees
unfolding contains_range_of
contains-range-agrees s e os oe = both-agree s e os oe KeyRange-contains-range holds_range (λ a b p q. refl)

-- a range that ends at the highest value has none behind it
behind-agrees : (n m : ℕ) → m ≤ max_hash → (ltb n MAX-HASH && eqb (n + 1) m) ≡ eqb (n + 1) m
behind-agrees n m h = go (ltb n MAX-HASH) refl
  where
    go : (t : Bool) → ltb n MAX-HASH ≡ t → (t && eqb (n + 1) m) ≡ eqb (n + 1) m
    go true e = refl
    go false e = sym (ne_eqb (n + 1) m (λ q. omega (arith, ltb-false n MAX-HASH e)))

touches-agrees : (a b : KeyRange) → a.start ≤ max_hash → b.start ≤ max_hash → KeyRange-is-adjacent-to a b ≡ touches a b
touches-agrees a b h k = rw (behind-agrees a.end b.start k, behind-agrees b.end a.start h)

start-bound : (s e : ℕ) (r : KeyRange) → new_key_range s e ≡ std.Ok r → r.start ≤ max_hash
start-bound s e r p = let m = new-valid s e r p in omega (arith, m.order, m.bound)

pub adjacent-agrees : AdjacentAgrees
unfolding is_adjacent_of
adjacent-agrees s e os oe =
    both-agree s e os oe KeyRange-is-adjacent-to touches (λ a b p q. touches-agrees a b (start-bound s e a p) (start-bound os oe b q))

-- ---- the kind of a consumer

pub to-wire-agrees : ToWireAgrees
unfolding to_wire
to-wire-agrees Stream = refl
to-wire-agrees Checkpoint = refl

pub from-wire-agrees : FromWireAgrees
unfolding from_wire
from-wire-agrees (pos zero) = refl
from-wire-agrees (pos (suc zero)) = refl
from-wire-agrees (pos (suc (suc n))) = rw (ne_eqb (suc (suc n)) 1 (λ q. omega arith))
from-wire-agrees (negsuc n) = refl
