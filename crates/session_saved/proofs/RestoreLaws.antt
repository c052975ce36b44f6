-- The claim of specs/Restores (`save-restores`): a session that was saved is the session that is restored.
-- Assumes nothing.
use Rattle.std.specs.Prelude.{Ok}
use Prim.Native.Nat.{ℕ, ◌+◌, ◌-◌, ◌≤◌}
use native.Mathlib.Omega.{arith}
use mathlib.Core.Path.{◌≡◌, refl, sym, ap, ap₂, ◌∙◌, subst}
use mathlib.Core.Bool.{Bool, true, false}
use mathlib.Core.List.{List}
use lib.ListN.{length, take, drop}
use lib.Seq.{take_all}
use lib.Dec.{ltb, leb}
use borrow.Author.Tests.{le-ltb, ltb-false}
use Rattle.slice.specs.Bytes.{Bytes}
use Rattle.slice_int.specs.Put.{put}
use Rattle.slice_int.proofs.PutLaws.{length-put, take_put, drop-put}
use Rattle.packed.specs.Assignment.{ConsumerAssignment}
use Rattle.output.specs.Output.{written}
use Rattle.session.specs.declared.SessionRecord.{SessionRecord}
use Rattle.session.specs.declared.Answer.TheVariants.{Accepted}
use Rattle.session.specs.Session.{Session, view, damaged}
use Rattle.session_store.specs.Places.{QueueEnds}
use Rattle.session_saved.specs.Form.{used_part, encode_saved}
use Rattle.session_saved.specs.Saved.{save_outcome, restore_part, restore_outcome}
use Rattle.session_saved.specs.Restores.{Fits, Restored, SaveRestores}
use Rattle.session_saved.proofs.FormLaws.{length-used, length-saved}
use Rattle.session_saved.proofs.FrontLaws.{ends, same-session, undamaged}
use Rattle.session_saved.proofs.ReadLaws.{record-read, store-read, form-read}

-- ---- an accepted save

module _ (r : SessionRecord) (st out : List ℕ) (n : ℕ) where
  abbrev f : List ℕ
  f = encode_saved r st

  pub record Saves : Type 0 where
    pub big : 6144 ≤ length st
    pub valid : damaged (view r st) ≡ false
    pub size : n ≡ length (encode_saved r st)
    pub front : take n (save_outcome r st out).out ≡ encode_saved r st

  saves : (save_outcome r st out).answer ≡ Ok n → Saves
  unfolding save_outcome written
  saves e = go (ltb (length st) 6144) refl (damaged (view r st)) refl (leb (length f) (length out)) refl
    where
      go : (x : Bool) → ltb (length st) 6144 ≡ x → (y : Bool) → damaged (view r st) ≡ y → (z : Bool) → leb (length f) (length out) ≡ z → Saves
      go true ex y ey z ez =
          let k : ◌≡◌ {A = ℕ} 0 1 = cc (simp ex at e) in
          absurd (omega arith)
      go false ex true ey z ez =
          let k : ◌≡◌ {A = ℕ} 0 1 = cc (simp (ex, ey) at e) in
          absurd (omega arith)
      go false ex false ey false ez =
          let k : ◌≡◌ {A = ℕ} 0 1 = cc (simp (ex, ey, ez) at e) in
          absurd (omega arith)
      go false ex false ey true ez =
          let s : n ≡ length f = cc (simp (ex, ey, ez) at e) in
          let o : (save_outcome r st out).out ≡ put out 0 f = simp (ex, ey, ez) in
          record {
            big = ltb-false _ _ ex;
            valid = ey;
            size = s;
            front = ap₂ (λ (k : ℕ) (l : List ℕ). take k l) s o ∙ take_put out 0 f (omega arith);
          }

-- ---- its form restored

module _ (r : SessionRecord) (n n' : ℕ) (s s' : Bool) (t t' : List ℕ) (b b' l l' : ConsumerAssignment) (q q' : List ConsumerAssignment) where
  one : n ≡ n' → s ≡ s' → t ≡ t' → b ≡ b' → l ≡ l' → q ≡ q'
      → ◌≡◌ {A = Session} (record { state = r; size = n; sound = s; topic = t; baseline = b; list = l; queue = q })
      (record { state = r; size = n'; sound = s'; topic = t'; baseline = b'; list = l'; queue = q' })
  one en es et eb el eq = rw (en, es, et, eb, el, eq)

module _ (r : SessionRecord) (st t : List ℕ) (fit : Fits r) (bytes : Bytes st) (big : 6144 ≤ length st)
    (valid : damaged (view r st) ≡ false) (room : length (used_part r st) ≤ length t) where
  abbrev part : List ℕ
  part = used_part r st

  abbrev back : List ℕ
  back = put t 0 part

  q : QueueEnds st r.queue_count (length part)
  q =
      subst (QueueEnds st r.queue_count) (sym (length-used r st _ (ends r st valid big))) (ends r st valid big)

  part-front : take (length part) st ≡ part
  unfolding used_part
  part-front = ap (λ (n : ℕ). take n st) q.at

  part_sound : damaged (view r part) ≡ false
  part_sound = undamaged r st valid part (length part) q (part-front ∙ sym (take_all (length part) part (omega arith)))

  alike : take (length part) st ≡ take (length part) back
  alike = part-front ∙ sym (take_put t 0 part (omega arith))

  comes : restore_outcome (encode_saved r st) t ≡ record { answer = (Ok Accepted); next = r; store = back }
  unfolding restore_outcome restore_part
  comes =
      simp (
        form-read r st fit bytes big valid,
        record-read r st fit bytes big valid,
        store-read r st fit bytes big valid,
        part_sound,
        le-ltb (length t) (length part) room,
      )

  left : Restored r st t (length part) (record { answer = (Ok Accepted); next = r; store = back })
  unfolding view
  left =
      let s = same-session r st valid back (length part) q alike in
      let z : length part ≡ 0 + length part = omega arith in
      let l : length back ≡ length t = length-put t 0 part (omega arith) in
      record {
        answer = refl;
        next = refl;
        same = s;
        undamaged = undamaged r st valid back (length part) q alike;
        behind = ap (λ (n : ℕ). drop n back) z ∙ drop-put t 0 part (omega arith) ∙ ap (λ (n : ℕ). drop n t) (sym z);
        size = l;
        whole = λ e. one r _ _ _ _ _ _ _ _ _ _ _ _ (l ∙ e) s.sound s.topic s.baseline s.list s.queue;
      }

-- ---- the claim

pub save-restores : SaveRestores
save-restores r st out t n fit bytes e room =
    let s = saves r st out n e in
    let k : n - 111 ≡ length (used_part r st) = omega (arith, s.size, length-saved r st) in
    subst (λ (m : ℕ). Restored r st t m (restore_outcome (take n (save_outcome r st out).out) t)) (sym k)
    (subst (λ (f : List ℕ). Restored r st t (length (used_part r st)) (restore_outcome f t)) (sym s.front)
    (subst (Restored r st t (length (used_part r st))) (sym (comes r st t fit bytes s.big s.valid (omega (arith, k, room))))
    (left r st t fit bytes s.big s.valid (omega (arith, k, room)))))
