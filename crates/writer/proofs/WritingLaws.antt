-- Bytes written to an output piece by piece, over plain lists.
--
-- In order: pieces as one list (`flat`); where a writer stands (`Writing`), its start (`writing_start`), what is left taken as pieces
-- (`writing-as`), a piece further (`writing-room`, `writing-next`), and its end (`writing-end`); what is put into a part up to the output's
-- end, said of the whole (`rest-long`, `put_rest`).
-- Assumes nothing.
use Prim.Native.Nat.{ℕ, ◌+◌, ◌-◌, ◌≤◌}
use native.Mathlib.Omega.{arith}
use mathlib.Core.Path.{◌≡◌, refl, sym, ap, ◌∙◌}
use mathlib.Core.List.{List, [], ◌∷◌, ◌++◌, append-nil}
use lib.ListN.{length, take, drop, length-append, length-drop, drop_of_length-le}
use lib.Seq.{drop-drop}
use borrow.Rule.Slice.PartMut.{put_mid}
use Rattle.slice.proofs.PartLaws.{rest}
use Rattle.slice_int.specs.Put.{put}
use Rattle.slice_int.proofs.PutLaws.{length-put, put-nil, put-after}

abbrev pub flat : List (List ℕ) → List ℕ
flat [] = []
flat (A ∷ As) = A ++ flat As

-- `all` goes to the place `to` of the output `first`. The output is `now` by now, and the pieces that are left, put at the place `at`, give
-- the whole
pub record Writing (first : List ℕ) (to : ℕ) (all now : List ℕ) (at : ℕ) (left : List (List ℕ)) : Type 0 where
  pub long : length now ≡ length first
  pub room : to + length all ≤ length first
  pub here : at + length (flat left) ≡ to + length all
  pub same : put now at (flat left) ≡ put first to all

pub writing_start : (o : List ℕ) (to : ℕ) (all : List ℕ) → to + length all ≤ length o → Writing o to all o to (all ∷ [])
writing_start o to all h =
    record { long = refl; room = h; here = ap (λ (l : List ℕ). to + length l) (append-nil all); same = ap (put o to) (append-nil all) }

module _ {o : List ℕ} {to : ℕ} {all p : List ℕ} {at : ℕ} where
  -- all that is left, in pieces
  pub writing-as : (As : List (List ℕ)) {A : List ℕ} → A ≡ flat As → Writing o to all p at (A ∷ []) → Writing o to all p at As
  writing-as As {A} e w =
      let f : flat As ≡ A ++ [] = sym (append-nil A ∙ e) in
      record {
        long = w.long;
        room = w.room;
        here = ap (λ (l : List ℕ). at + length l) f ∙ w.here;
        same = ap (put p at) f ∙ w.same;
      }

  module _ {A : List ℕ} {As : List (List ℕ)} (w : Writing o to all p at (A ∷ As)) where
    pub writing-room : at + length A ≤ length p
    writing-room = omega (arith, w.long, w.room, w.here, length-append A (flat As))

    pub writing-next : (n : ℕ) (q : List ℕ) → (n ≡ at + length A) × (q ≡ put p at A) → Writing o to all q n As
    writing-next n q f =
        let l = length-append A (flat As) in
        record {
          long = ap length f.1 ∙ length-put p at A writing-room ∙ w.long;
          room = w.room;
          here = omega (arith, w.here, f.0);
          same =
              ap (λ (x : List ℕ). put x n (flat As)) f.1
              ∙ ap (λ (k : ℕ). put (put p at A) k (flat As)) f.0
              ∙ put-after p at A (flat As) (omega (arith, w.long, w.room, w.here))
              ∙ w.same;
        }

  pub writing-end : Writing o to all p at [] → (at ≡ to + length all) × (p ≡ put o to all)
  writing-end w = (omega (arith, w.here), sym (put-nil p at) ∙ w.same)

-- ---- a part

-- `&mut s[a..]` has room for n elements
pub rest-long : (s : List ℕ) (a n : ℕ) → a + n ≤ length s → n ≤ length (take (length s - a) (drop a s))
rest-long s a n h = rw (rest s a, length-drop) (omega arith)

-- vs put at its front
pub put_rest : (s : List ℕ) (a : ℕ) (vs : List ℕ) → a + length vs ≤ length s
    → put_mid a (length s - a) s (put (take (length s - a) (drop a s)) 0 vs) ≡ put s a vs
unfolding put
put_rest s a vs h =
    let none : drop (length s - a) (drop a s) ≡ [] = drop_of_length-le (drop a s) {i = length s - a} (omega (arith, length-drop a s)) in
    let e : 0 + length vs ≡ length vs = omega arith in
    ap (λ (n : ℕ). take a s ++ ((vs ++ drop n (take (length s - a) (drop a s))) ++ drop (length s - a) (drop a s))) e
    ∙ ap (λ (l : List ℕ). take a s ++ ((vs ++ drop (length vs) l) ++ drop (length s - a) (drop a s))) (rest s a)
    ∙ ap (λ (l : List ℕ). take a s ++ ((vs ++ drop (length vs) (drop a s)) ++ l)) none
    ∙ ap (λ (l : List ℕ). take a s ++ l) (append-nil (vs ++ drop (length vs) (drop a s)))
    ∙ ap (λ (l : List ℕ). take a s ++ (vs ++ l)) (drop-drop (length vs) a s)
