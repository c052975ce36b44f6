-- Opening a session.
--
-- In order: the lengths of the texts together (`texts-room`); an identity written from its end to its front (`Writes`,
-- `written`); the cases of `open_outcome` (`open-short` to `open_done`).
-- Assumes nothing.
use Rattle.std.specs.Prelude.{Ok}
use Prim.Native.Nat.{ℕ, ◌+◌, ◌≤◌, ◌<◌}
use native.Mathlib.Omega.{arith}
use mathlib.Core.Path.{◌≡◌, refl, sym, ap, ◌∙◌}
use mathlib.Core.Bool.{Bool, true, false, cond, not}
use mathlib.Core.List.{List, [], ◌∷◌, ◌++◌}
use lib.ListN.{length, set, length-append}
use lib.Dec.{leb}
use borrow.Author.Tests.{leb-true, le-ltb, lt-ltb, not-true, not-false}
use Rattle.topic_types.specs.declared.ControllerIncarnation.{ControllerIncarnation}
use Rattle.refusal.specs.declared.Refusal.TheVariants.{StoreTooShort, InvalidUtf8, IdentityTooLong}
use Rattle.utf8.specs.Table.{is_utf8}
use Rattle.slice_int.specs.Be.{bytes_of}
use Rattle.slice_int.specs.Put.{put}
use Rattle.slice_int.proofs.BeLaws.{length-bytes_of}
use Rattle.slice_int.proofs.PutLaws.{length-put, put_one, put-before}
use Rattle.session.specs.declared.SessionRecord.{SessionRecord}
use Rattle.session.specs.declared.Changed.{Changed}
use Rattle.session.specs.declared.Answer.TheVariants.{Accepted}
use Rattle.session.specs.Identity.{Identity, kind_byte, texts_length, encode_identity}
use Rattle.session.specs.Calls.{OpenOutcome, not_opened, fresh_record, open_outcome}

-- ---- the lengths of the texts

pub texts-room : (a b c : ℕ) (t : Bool) → t ≡ leb (a + b + c) 2041 → not t ≡ false → a + b + c ≤ 2041
texts-room a b c t e f = leb-true (a + b + c) 2041 (sym e ∙ not-false t f)

-- ---- an identity written

-- right before what was written last
before : (o p q : List ℕ) (at n : ℕ) (A B : List ℕ) → p ≡ put o n B → q ≡ put p at A → n ≡ at + length A → n + length B ≤ length o
    → q ≡ put o at (A ++ B)
before o p q at n A B ep eq e h = eq ∙ ap (λ (l : List ℕ). put l at A) ep ∙ put-before o at n A B e h

-- the store behind each write, from the name on
pub record Writes (o : List ℕ) (i : Identity) (p1 p2 p3 p4 p5 p6 p7 : List ℕ) : Type 0 where
  pub name : p1 ≡ put o (7 + length i.topic + length i.subscription) i.consumer_name
  pub subscription : p2 ≡ put p1 (7 + length i.topic) i.subscription
  pub topic : p3 ≡ put p2 7 i.topic
  pub kind : p4 ≡ set p3 6 (kind_byte i.consumer_type)
  pub name-length : p5 ≡ put p4 4 (bytes_of 2 (length i.consumer_name))
  pub subscription-length : p6 ≡ put p5 2 (bytes_of 2 (length i.subscription))
  pub topic-length : p7 ≡ put p6 0 (bytes_of 2 (length i.topic))

pub written : (o : List ℕ) (i : Identity) (p1 p2 p3 p4 p5 p6 p7 : List ℕ) → texts_length i ≤ 2041 → 6144 ≤ length o
    → Writes o i p1 p2 p3 p4 p5 p6 p7 → p7 ≡ put o 0 (encode_identity i)
unfolding encode_identity
written o i p1 p2 p3 p4 p5 p6 p7 h k w =
    let a : List ℕ = i.topic in
    let b : List ℕ = i.subscription in
    let c : List ℕ = i.consumer_name in
    let A : List ℕ = bytes_of 2 (length a) in
    let B : List ℕ = bytes_of 2 (length b) in
    let C : List ℕ = bytes_of 2 (length c) in
    let d : ℕ = kind_byte i.consumer_type in
    let T : List ℕ = a ++ (b ++ c) in
    let ltc : length (b ++ c) ≡ length b + length c = length-append b c in
    let lt : length T ≡ length a + length (b ++ c) = length-append a (b ++ c) in
    let la : length A ≡ 2 = length-bytes_of 2 (length a) in
    let lb : length B ≡ 2 = length-bytes_of 2 (length b) in
    let lc : length C ≡ 2 = length-bytes_of 2 (length c) in
    let l5 : length (C ++ (d ∷ T)) ≡ length C + length (d ∷ T) = length-append C (d ∷ T) in
    let l6 : length (B ++ (C ++ (d ∷ T))) ≡ length B + length (C ++ (d ∷ T)) = length-append B (C ++ (d ∷ T)) in
    let e2 : p2 ≡ put o (7 + length a) (b ++ c) =
    before o p1 p2 (7 + length a) (7 + length a + length b) b c w.name w.subscription refl (omega arith) in
    let e3 : p3 ≡ put o 7 T = before o p2 p3 7 (7 + length a) a (b ++ c) e2 w.topic refl (omega arith) in
    let l3 : length p3 ≡ length o = ap length e3 ∙ length-put o 7 T (omega arith) in
    let e4 : p4 ≡ put o 6 (d ∷ T) =
    before o p3 p4 6 7 (d ∷ []) T e3 (w.kind ∙ put_one p3 6 d (omega arith)) refl (omega arith) in
    let e5 : p5 ≡ put o 4 (C ++ (d ∷ T)) = before o p4 p5 4 6 C (d ∷ T) e4 w.name-length (omega arith) (omega arith) in
    let e6 : p6 ≡ put o 2 (B ++ (C ++ (d ∷ T))) =
    before o p5 p6 2 4 B (C ++ (d ∷ T)) e5 w.subscription-length (omega arith) (omega arith) in
    before o p6 p7 0 2 A (B ++ (C ++ (d ∷ T))) e6 w.topic-length (omega arith) (omega arith)

-- ---- the cases

-- what the program answers, with the store that it leaves
abbrev pub opened : Changed → List ℕ → OpenOutcome
opened x st = record { answer = x.answer; next = x.next; store = st }

-- what is answered is what the call gives
pub told : {x y : Changed} (st : List ℕ) {o : OpenOutcome} → x ≡ y → opened y st ≡ o → opened x st ≡ o
told st e h = rw e h

-- the fresh record, as the program has it
module _ (consumer : ℕ) (incarnation : ControllerIncarnation) (i : Identity) (st : List ℕ) (r : SessionRecord)
    (er : r ≡ fresh_record consumer incarnation) where
  -- the store is long enough, and the texts are UTF-8: their lengths decide
  abbrev pub fitted : OpenOutcome
  fitted =
      cond (leb (texts_length i) 2041)
      (record { answer = (Ok Accepted); next = fresh_record consumer incarnation; store = put st 0 (encode_identity i) })
      (not_opened IdentityTooLong (fresh_record consumer incarnation) st)

  pub open-short : length st < 6144 → not_opened StoreTooShort r st ≡ open_outcome consumer incarnation i st
  unfolding open_outcome
  open-short h = simp (er, lt-ltb (length st) 6144 h)

  module _ (h : 6144 ≤ length st) (x : Bool) (ex : x ≡ is_utf8 i.topic) where
    pub topic-bad : not x ≡ true → not_opened InvalidUtf8 r st ≡ open_outcome consumer incarnation i st
    unfolding open_outcome
    topic-bad f = simp (er, le-ltb (length st) 6144 h, ← ex, not-true x f)

    module _ (f : not x ≡ false) (y : Bool) (ey : y ≡ is_utf8 i.subscription) where
      pub subscription-bad : not y ≡ true → not_opened InvalidUtf8 r st ≡ open_outcome consumer incarnation i st
      unfolding open_outcome
      subscription-bad g = simp (er, le-ltb (length st) 6144 h, ← ex, not-false x f, ← ey, not-true y g)

      module _ (g : not y ≡ false) (z : Bool) (ez : z ≡ is_utf8 i.consumer_name) where
        pub name-bad : not z ≡ true → not_opened InvalidUtf8 r st ≡ open_outcome consumer incarnation i st
        unfolding open_outcome
        name-bad k = simp (er, le-ltb (length st) 6144 h, ← ex, not-false x f, ← ey, not-false y g, ← ez, not-true z k)

        pub texts-valid : not z ≡ false → open_outcome consumer incarnation i st ≡ fitted
        unfolding open_outcome
        texts-valid k = simp (le-ltb (length st) 6144 h, ← ex, not-false x f, ← ey, not-false y g, ← ez, not-false z k)

  module _ (e : open_outcome consumer incarnation i st ≡ fitted) (t : Bool) (et : t ≡ leb (texts_length i) 2041) where
    pub open-long : not t ≡ true → not_opened IdentityTooLong r st ≡ open_outcome consumer incarnation i st
    open-long m = sym (e ∙ simp (← et, not-true t m, er))

    pub open_done : not t ≡ false → (q : List ℕ) → q ≡ put st 0 (encode_identity i)
        → ◌≡◌ {A = OpenOutcome} (record { answer = (Ok Accepted); next = r; store = q }) (open_outcome consumer incarnation i st)
    open_done m q eq = sym (e ∙ simp (← et, not-false t m, er, eq))
