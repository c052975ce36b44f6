-- The claim of specs/Opened (`open-tied`).
--
-- In order: the same texts and kind are the same identity (`same-own`, `same-only`); what an open comes to (`comes`); of an accepted one the
-- identity slot (`held`), the bytes behind it (`stays`), the answers of `match_of` (`match-told`) and the session on it (`topic-seen`, `not-damaged`).
-- Assumes nothing.
use Rattle.std.specs.Prelude.{Ok}
use Prim.Native.Nat.{ℕ, ◌+◌, ◌-◌, ◌≤◌}
use native.Mathlib.Omega.{arith}
use mathlib.Core.Path.{◌≡◌, refl, sym, ap, ◌∙◌, subst}
use mathlib.Core.Bool.{Bool, true, false, cond, true≢false}
use mathlib.Core.List.{List, ◌++◌}
use lib.ListN.{length, take, drop}
use lib.Dec.{ltb, leb}
use borrow.Author.Tests.{le-ltb, ltb-false, leb-true, eq-eqb, eqb-true}
use Rattle.slice.specs.BoolLaws.{both_true}
use Rattle.topic_types.specs.declared.ControllerIncarnation.{ControllerIncarnation}
use Rattle.topic_types.specs.declared.ScalableConsumerType.{ScalableConsumerType}
use Rattle.topic_types.specs.declared.ScalableConsumerType.TheVariants.{Stream, Checkpoint}
use Rattle.refusal.specs.declared.Refusal.{Refusal}
use Rattle.refusal.specs.declared.Refusal.TheVariants.{StoreTooShort, InvalidUtf8, IdentityTooLong}
use Rattle.slice.specs.Same.{same_bytes}
use Rattle.slice.proofs.SameLaws.{same_refl, same-eq}
use Rattle.slice_int.specs.Put.{put}
use Rattle.slice_int.proofs.PutLaws.{length-put, drop-put}
use Rattle.session.specs.declared.Answer.TheVariants as answer
use Rattle.packed_queue.specs.Entries.{start_entries}
use Rattle.session.specs.Store.{slot, queue_reads}
use Rattle.session.specs.Identity.{Identity, kind_byte, texts_length, encode_identity, identity_topic, subscription_of, consumer_name_of, identity_kind, is_identity}
use Rattle.session.specs.Session.{in_use, view, any_beyond, damaged}
use Rattle.session.specs.Calls.{OpenOutcome, fresh_record, not_opened, all_utf8, open_outcome, same_identity, match_of}
use Rattle.session.specs.Trace.{is_accepted}
use Rattle.session.proofs.SlotLaws.{put_same}
use Rattle.session.proofs.RoundLaws.{length-encode_identity, read-kind, read-topic, read-subscription, read_name, identity-reads}
use Rattle.session_open.specs.Opened.{same, told, Holds, Accepted, Tied, OpenTied}

-- ---- the same identity

kind-only : (k m : ScalableConsumerType) → kind_byte k ≡ kind_byte m → m ≡ k
kind-only Stream Stream e = refl
kind-only Stream Checkpoint e = absurd (omega (arith, e))
kind-only Checkpoint Stream e = absurd (omega (arith, e))
kind-only Checkpoint Checkpoint e = refl

same-own : (i : Identity) → same i i ≡ true
same-own i =
    simp (
      same_refl i.topic,
      same_refl i.subscription,
      same_refl i.consumer_name,
      eq-eqb (kind_byte i.consumer_type) (kind_byte i.consumer_type) refl,
    )

module _ (t s n t' s' n' : List ℕ) (k k' : ScalableConsumerType) where
  alike : t ≡ t' → s ≡ s' → n ≡ n' → k' ≡ k
      → ◌≡◌ {A = Identity} (record { topic = t'; subscription = s'; consumer_name = n'; consumer_type = k' })
      (record { topic = t; subscription = s; consumer_name = n; consumer_type = k })
  alike et es en ek = rw (et, es, en, ek)

same-only : (i j : Identity) → same i j ≡ true → j ≡ i
same-only i j e =
    let a = both_true (same_bytes i.topic j.topic) _ e in
    let b = both_true (same_bytes i.subscription j.subscription) _ a.1 in
    let c = both_true (same_bytes i.consumer_name j.consumer_name) _ b.1 in
    alike _ _ _ _ _ _ _ _ (same-eq _ _ a.0) (same-eq _ _ b.0) (same-eq _ _ c.0)
    (kind-only i.consumer_type j.consumer_type (eqb-true _ _ c.1))

told_same : (t : Bool) → told t ≡ Ok true → t ≡ true
told_same true e = refl
told_same false e = let z : ◌≡◌ {A = ℕ} 0 1 = cc in absurd (omega arith)

answered : (t : Bool) → cond t (Ok true) (Ok false) ≡ told t
answered true = refl
answered false = refl

-- ---- what an open comes to

module _ (consumer : ℕ) (incarnation : ControllerIncarnation) (i : Identity) (st : List ℕ) where
  -- what an accepted open gives
  abbrev done : OpenOutcome
  done = record { answer = (Ok answer.Accepted); next = fresh_record consumer incarnation; store = put st 0 (encode_identity i) }

  data Comes (o : OpenOutcome) : Type 0 where
    accepted : 6144 ≤ length st → all_utf8 i ≡ true → texts_length i ≤ 2041 → o ≡ done → Comes o
    refused : (x : Refusal) → o ≡ not_opened x (fresh_record consumer incarnation) st → Comes o

  comes : Comes (open_outcome consumer incarnation i st)
  unfolding open_outcome
  comes = go (ltb (length st) 6144) refl (all_utf8 i) refl (leb (texts_length i) 2041) refl
    where
      go : (x : Bool) → ltb (length st) 6144 ≡ x → (y : Bool) → all_utf8 i ≡ y → (z : Bool) → leb (texts_length i) 2041 ≡ z
          → Comes (open_outcome consumer incarnation i st)
      go true ex y ey z ez = Comes.refused StoreTooShort (simp ex)
      go false ex false ey z ez = Comes.refused InvalidUtf8 (simp (ex, ey))
      go false ex true ey false ez = Comes.refused IdentityTooLong (simp (ex, ey, ez))
      go false ex true ey true ez = Comes.accepted (ltb-false _ _ ex) ey (leb-true _ _ ez) (simp (ex, ey, ez))

-- ---- the store of an accepted open

module _ (i : Identity) (st : List ℕ) (long : 6144 ≤ length st) (utf8 : all_utf8 i ≡ true) (fits : texts_length i ≤ 2041) where
  abbrev written : List ℕ
  written = put st 0 (encode_identity i)

  fits-slot : length (encode_identity i) ≤ 2048
  fits-slot = omega (arith, length-encode_identity i)

  as_long : length written ≡ length st
  as_long = length-put st 0 (encode_identity i) (omega (arith, fits-slot))

  still-long : 6144 ≤ length written
  still-long = omega (arith, as_long)

  -- the rest of the slot is as it was
  abbrev behind : List ℕ
  behind = take (2048 - length (encode_identity i)) (drop (0 + length (encode_identity i)) st)

  front : slot written 0 ≡ encode_identity i ++ behind
  front = put_same 0 (encode_identity i) st fits-slot (omega arith)

  held : Holds i (slot written 0)
  held =
      record {
        formed = ap is_identity front ∙ identity-reads i behind fits utf8;
        topic = ap identity_topic front ∙ read-topic i behind fits;
        subscription = ap subscription_of front ∙ read-subscription i behind fits;
        consumer_name = ap consumer_name_of front ∙ read_name i behind fits;
        kind = ap identity_kind front ∙ read-kind i behind;
      }

  stays : drop (7 + texts_length i) written ≡ drop (7 + texts_length i) st
  stays =
      let e : 0 + length (encode_identity i) ≡ 7 + texts_length i = omega (arith, length-encode_identity i) in
      ap (λ (n : ℕ). drop n written) (sym e) ∙ drop-put st 0 (encode_identity i) (omega arith) ∙ ap (λ (n : ℕ). drop n st) e

  -- ---- `matches_registration` on it

  same-held : (j : Identity) → same_identity (slot written 0) j ≡ same i j
  same-held j = rw (held.topic, held.subscription, held.consumer_name, held.kind)

  match-told : (j : Identity) → match_of written j ≡ told (same i j)
  unfolding match_of
  match-told j = simp (le-ltb (length written) 6144 still-long, held.formed, same-held j) (answered (same i j))

  -- ---- the session on it

  module _ (consumer : ℕ) (incarnation : ControllerIncarnation) where
    topic-seen : (view (fresh_record consumer incarnation) written).topic ≡ i.topic
    unfolding view
    topic-seen = held.topic

    not-damaged : damaged (view (fresh_record consumer incarnation) written) ≡ false
    unfolding damaged view in_use queue_reads start_entries any_beyond
    not-damaged = simp held.formed

    left : Accepted consumer incarnation i st (done consumer incarnation i st)
    left =
        record {
          answer = refl;
          fresh = refl;
          holds = held;
          behind = stays;
          size = as_long;
          topic = topic-seen;
          sound = not-damaged;
          answers = match-told;
          own = match-told i ∙ ap told (same-own i);
          no_other = λ j h. same-only i j (told_same (same i j) (sym (match-told j) ∙ h));
        }

-- ---- the claim

pub open-tied : OpenTied
open-tied consumer incarnation i st = go (comes consumer incarnation i st)
  where
    go : Comes consumer incarnation i st (open_outcome consumer incarnation i st)
        → Tied consumer incarnation i st (open_outcome consumer incarnation i st)
    go (Comes.accepted long utf8 fits e) =
        record {
          accepted = λ _. subst (Accepted consumer incarnation i st) (sym e) (left i st long utf8 fits consumer incarnation);
          refused = λ f. absurd (true≢false (ap (λ (x : OpenOutcome). is_accepted x.answer) (sym e) ∙ f));
        }
    go (Comes.refused x e) =
        record {
          accepted = λ f. absurd (true≢false (sym f ∙ ap (λ (x : OpenOutcome). is_accepted x.answer) e));
          refused = λ _. ap (λ (x : OpenOutcome). x.store) e;
        }
