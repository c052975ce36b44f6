-- The packed lists of a message are no longer than the message: a part of a field takes at least two bytes more than its content.
--
-- In order: the parts of two fields (`parts-size`); a sorted and a filtered list (`size-insert_all`, `size-filter`); a list of the diff, and both
-- (`list-size`, `lists-size`).
-- Assumes nothing.
use Rattle.std.specs.Prelude.{Option, Some, None}
use Prim.Native.Nat.{ℕ, zero, suc, ◌+◌, ◌-◌, ◌≤◌, ◌<◌}
use native.Mathlib.Decide.{dec_le}
use native.Mathlib.Omega.{arith}
use mathlib.Core.Path.{◌≡◌, refl, sym, ◌∙◌, subst}
use mathlib.Core.Bool.{Bool, true, false, cond}
use mathlib.Core.List.{List, [], ◌∷◌}
use lib.ListN.{length, take, drop, length-take, length-drop}
use lib.Dec.{eqb, leb}
use borrow.Author.Tests.{eqb-true}
use Rattle.wire.specs.declared.WireType.{WireType}
use Rattle.wire.specs.declared.WireType.TheVariants as type
use Rattle.wire.specs.declared.Body.{Body}
use Rattle.wire.specs.declared.Body.TheVariants as body
use Rattle.wire.specs.Varints.{varint_of}
use Rattle.wire.specs.Field.{key_read, body_of, number_from, number_body, fixed_of, part_from, part_of}
use Rattle.wire.specs.Fields.{Field, fields_of}
use Rattle.wire.proofs.VarintLaws.{VarintSized, varint-sized}
use Rattle.wire.proofs.FieldLaws.{body-size-after, key-size}
use Rattle.wire.proofs.FieldsLaws.{fields-nil, fields-bad-key, fields-cut, fields-number, fields-fixed, fields-part}
use Rattle.wire_values.specs.Values.{parts_of, join_fields}
use Rattle.keyed.specs.Keyed.{filter}
use Rattle.keyed.proofs.KeyedLaws.{choose}
use Rattle.std.specs.declared.cmp.Ordering.{Ordering}
use Rattle.std.specs.declared.cmp.Ordering.TheVariants.{Less, Equal, Greater}
use Rattle.watch_topics.specs.Topics.{order, by_order, insert, insert_all, sorted}
use Rattle.watch_topics.specs.Packed.{size_topics}
use Rattle.watch_topics.proofs.PackedLaws.{size-append}
use Rattle.wire_values.proofs.ValueLaws.{parts_join}
use Rattle.watch_window.specs.declared.Listing.{Listing}
use Rattle.watch_window.specs.declared.Listing.TheVariants.{Added, Removed}
use Rattle.watch_window.specs.Lists.{is_listed, named_in, field_of, list_of}

-- ---- the parts of two fields

-- a part's length takes a byte
abbrev Ahead : Option Body → Type 0
Ahead (Some (body.Part n len)) = 1 ≤ n
Ahead (Some (body.Number v n)) = Unit {0}
Ahead (Some (body.Fixed n)) = Unit {0}
Ahead None = Unit {0}

ahead-number : (r : Option (ℕ × ℕ)) → Ahead (number_from r)
ahead-number (Some (v, n)) = tt
ahead-number None = tt

ahead-fixed : (n : ℕ) (l : List ℕ) → Ahead (fixed_of n l)
unfolding fixed_of
ahead-fixed n l = choose Ahead (leb n (length l)) (λ e. tt) (λ e. tt)

ahead-part : (m : ℕ) (r : Option (ℕ × ℕ)) → VarintSized m r → Ahead (part_from r m)
ahead-part m (Some (v, n)) h = choose Ahead (leb (n + v) m) (λ e. h.0) (λ e. tt)
ahead-part m None h = tt

ahead : (w : WireType) (l : List ℕ) (b : Option Body) → body_of w l ≡ b → Ahead b
unfolding number_body part_of
ahead type.Varint l b e = subst Ahead e (ahead-number (varint_of l))
ahead type.I64 l b e = subst Ahead e (ahead-fixed 8 l)
ahead type.Len l b e = subst Ahead e (ahead-part (length l) (varint_of l) (varint-sized l))
ahead type.I32 l b e = subst Ahead e (ahead-fixed 4 l)

-- the parts of two fields among some take no more than n bytes
abbrev Within : ℕ → ℕ → ℕ → List Field → Type 0
Within f g n fs = size_topics (parts_of f fs) + size_topics (parts_of g fs) ≤ n

-- a part counts for one of two fields at most
counted : (a b : Bool) → (a ≡ true → b ≡ true → ⊥) → (t : List ℕ) (xs ys : List (List ℕ)) (n : ℕ)
    → 2 + length t + (size_topics xs + size_topics ys) ≤ n → size_topics (cond a (t ∷ xs) xs) + size_topics (cond b (t ∷ ys) ys) ≤ n
unfolding size_topics
counted true true k t xs ys n h = absurd (k refl refl)
counted true false k t xs ys n h = omega arith
counted false true k t xs ys n h = omega arith
counted false false k t xs ys n h = omega arith

module _ (f g : ℕ) (other : f ≡ g → ⊥) (l : List ℕ) (h : 0 < length l)
    (ih : (n : ℕ) → 1 ≤ n → Within f g (length l - n) (fields_of (drop n l))) where
  by-body : (k : ℕ) (w : WireType) (n : ℕ) → key_read l ≡ Some (k, w, n) → (b : Option Body) → body_of w (drop n l) ≡ b
      → Within f g (length l) (fields_of l)
  unfolding size_topics
  by-body k w n e (Some (body.Number v m)) q =
      let s = key-size l k w n e in
      rw (fields-number l h k w n e v m q) (omega (arith, ih (n + m) (omega arith)))
  by-body k w n e (Some (body.Fixed m)) q =
      let s = key-size l k w n e in
      rw (fields-fixed l h k w n e m q) (omega (arith, ih (n + m) (omega arith)))
  by-body k w n e None q = rw (fields-cut l h k w n e q) (omega arith)
  by-body k w n e (Some (body.Part m len)) q =
      let s = key-size l k w n e in
      let r : m + len ≤ length l - n = body-size-after w l n (Some (body.Part m len)) q in
      let a : 1 ≤ m = ahead w (drop n l) (Some (body.Part m len)) q in
      let i = ih (n + (m + len)) (omega arith) in
      let t = take len (drop m (drop n l)) in
      let tl : length t ≤ len = rw length-take (omega arith) in
      let c : eqb k f ≡ true → eqb k g ≡ true → ⊥ = λ x y. other (sym (eqb-true k f x) ∙ eqb-true k g y) in
      rw (fields-part l h k w n e m len q) (counted (eqb k f) (eqb k g) c t _ _ (length l) (omega (arith, i)))

  by_key : (k : Option (ℕ × WireType × ℕ)) → key_read l ≡ k → Within f g (length l) (fields_of l)
  unfolding size_topics
  by_key None e = rw (fields-bad-key l h e) (omega arith)
  by_key (Some (k, w, n)) e = by-body k w n e (body_of w (drop n l)) refl

parts_within : (n f g : ℕ) → (f ≡ g → ⊥) → (l : List ℕ) → length l ≤ n → Within f g (length l) (fields_of l)
unfolding size_topics
parts_within zero f g o l h = rw (fields-nil l h) (omega arith)
parts_within (suc n) f g o l h = go (λ m k. parts_within n f g o m k) (dec_le 1 (length l))
  where
    go : ((m : List ℕ) → length m ≤ n → Within f g (length m) (fields_of m)) → Dec (1 ≤ length l) → Within f g (length l) (fields_of l)
    go ih (no k) = rw (fields-nil l (omega arith)) (omega arith)
    go ih (yes k) =
        by_key f g o l k (λ m q.
        let d = length-drop m l in
        subst (λ (x : ℕ). Within f g x (fields_of (drop m l))) d (ih (drop m l) (omega (arith, d)))) (key_read l) refl

-- the parts in other parts take no more than these
join-size : (f g : ℕ) → (f ≡ g → ⊥) → (ps : List (List ℕ)) → size_topics (parts_of f (join_fields ps)) + size_topics (parts_of g (join_fields ps)) ≤ size_topics ps
unfolding size_topics
join-size f g o [] = omega arith
join-size f g o (p ∷ ps) =
    let a = size-append (parts_of f (fields_of p)) (parts_of f (join_fields ps)) in
    let b = size-append (parts_of g (fields_of p)) (parts_of g (join_fields ps)) in
    rw (parts_join f p ps, parts_join g p ps) (omega (arith, a, b, parts_within (length p) f g o p (omega arith), join-size f g o ps))

pub parts-size : (ev f g : ℕ) → (f ≡ g → ⊥) → (p : List ℕ) → size_topics (named_in ev f p) + size_topics (named_in ev g p) ≤ length p
parts-size ev f g o p =
    let w = parts_within (length p) ev (suc ev) (λ e. omega arith) p (omega arith) in
    omega (arith, join-size f g o (parts_of ev (fields_of p)), w)

-- ---- sorted and filtered

size-insert : (t : List ℕ) (l : List (List ℕ)) → size_topics (insert t l) ≤ 2 + length t + size_topics l
unfolding insert size_topics
size-insert t [] = omega arith
size-insert t (u ∷ us) = go (order t u) (size-insert t us)
  where
    go : (o : Ordering) → size_topics (insert t us) ≤ 2 + length t + size_topics us
        → size_topics (by_order o (t ∷ u ∷ us) (u ∷ us) (u ∷ insert t us)) ≤ 2 + length t + (2 + length u + size_topics us)
    go Less h = omega arith
    go Equal h = omega arith
    go Greater h = omega arith

pub size-insert_all : (ts l : List (List ℕ)) → size_topics (insert_all ts l) ≤ size_topics ts + size_topics l
unfolding insert_all size_topics
size-insert_all [] l = omega arith
size-insert_all (t ∷ ts) l = omega (arith, size-insert_all ts (insert t l), size-insert t l)

pub size-filter : (q : List ℕ → Bool) (l : List (List ℕ)) → size_topics (filter q l) ≤ size_topics l
unfolding size_topics
size-filter q [] = omega arith
size-filter q (t ∷ ts) =
    let i = size-filter q ts in
    choose (λ (x : List (List ℕ)). size_topics x ≤ 2 + length t + size_topics ts) (q t) (λ _. omega (arith, i)) (λ _. omega (arith, i))

-- a list is no longer than the topics that it is made of
list-named : (ev : ℕ) (which : Listing) (old : List (List ℕ)) (p : List ℕ)
    → size_topics (list_of ev which old p) ≤ size_topics (named_in ev (field_of which) p)
unfolding list_of size_topics
list-named ev which old p =
    let ts = named_in ev (field_of which) p in
    omega (arith, size-filter (is_listed which old (named_in ev 2 p)) (sorted ts), size-insert_all ts [])

pub list-size : (ev : ℕ) (which : Listing) (old : List (List ℕ)) (p : List ℕ) → size_topics (list_of ev which old p) ≤ length p
list-size ev which old p =
    omega (arith, list-named ev which old p, parts-size ev (field_of which) (suc (field_of which)) (λ e. omega arith) p)

pub lists-size : (ev : ℕ) (old : List (List ℕ)) (p : List ℕ)
    → size_topics (list_of ev Added old p) + size_topics (list_of ev Removed old p) ≤ length p
lists-size ev old p =
    omega (arith, list-named ev Added old p, list-named ev Removed old p, parts-size ev 1 2 (λ e. omega arith) p)
