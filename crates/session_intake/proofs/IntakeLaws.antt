-- A message's assignment in the buffer.
--
-- In order: the topic as a part of the store (`topic-end`, `topic-text`); what stands in the buffer behind an intake (`intake-answers`); a
-- message of two fields, of which the second holds an assignment (`ordered-taken`).
-- Assumes nothing.
use Rattle.std.specs.Prelude.{Option, Some, Result, Ok}
use Prim.Native.Nat.{ℕ, ◌+◌, ◌-◌, ◌≤◌, ◌<◌}
use native.Mathlib.Nat.{add-sub_cancel_left}
use native.Mathlib.Omega.{arith}
use mathlib.Core.Path.{◌≡◌, refl, sym, ap, ◌∙◌, subst}
use mathlib.Core.Bool.{true}
use mathlib.Core.List.{List, [], ◌∷◌, append-nil}
use mathlib.Core.Logic.{inl, inr}
use lib.ListN.{length, take, drop, get_or, length-drop}
use lib.Seq.{take-take}
use lib.Dec.{leb}
use borrow.Author.Tests.{leb-true, eq-eqb}
use Rattle.slice.specs.BoolLaws.{both_true}
use Rattle.slice.proofs.PartLaws.{drop-take, Bytes}
use Rattle.slice_int.specs.Be.{be, be_at}
use Rattle.slice_int.specs.Put.{put}
use Rattle.slice_int.proofs.PutLaws.{length-put}
use Rattle.utf8.specs.Table.{is_utf8}
use Rattle.wire.specs.declared.WireType.TheVariants as type
use Rattle.wire.specs.Fields.{number, bytes, field, fields_of}
use Rattle.wire.proofs.FieldsLaws.{fields-nil}
use Rattle.wire_schema.specs.declared.MessageKind.TheVariants.{ScalableConsumerAssignment}
use Rattle.wire_schema.specs.FirstFault.{first_fault, Sound}
use Rattle.wire_schema.proofs.SoundLaws.{update-row, response-row}
use Rattle.wire_ordered.specs.Ordered.{NumberIs, PartField}
use Rattle.wire_values.specs.Values.{merged_fields}
use Rattle.wire_readers.specs.Messages.{update_of, response_of}
use Rattle.wire_readers.specs.Messages as wire
use Rattle.packed.specs.Assignment.{ConsumerAssignment, encode_assignment, decode_assignment, size_assignment, ok_assignment, starts_assignment}
use Rattle.packed.proofs.RoundLaws.{FitAssignment, length-encode_assignment, read-assignment, starts-encode}
use Rattle.intake_content.specs.Content.{Content, refused, taken, content_of}
use Rattle.intake_content.proofs.WideLaws.{Wide, update-wide, response-wide}
use Rattle.intake_content.proofs.ContentLaws.{content-fits}
use Rattle.intake.specs.Intake.{IntakeIs}
use Rattle.intake_ordered.specs.Taken.{OrderedTaken, OrderedIs}
use Rattle.session.specs.Store.{slot}
use Rattle.session.specs.Identity.{identity_topic, is_identity}
use Rattle.packed_queue.proofs.EntryLaws.{size_ok}
use Rattle.session_intake.specs.Taken.{AssignmentField, message_with, content_in, TopicEnd, Answers, OrderedMessageTaken}
use Rattle.refusal.specs.declared.Refusal.{Refusal}

-- ---- the topic

topic-front : (st : List ℕ) → be_at 2 (slot st 0) 0 ≡ be_at 2 st 0
unfolding be_at slot
topic-front st = ap be (take-take 2 2048 st (omega arith))

topic-cut : (st : List ℕ) (n : ℕ) → n ≤ 2041 → take n (drop 7 (slot st 0)) ≡ take n (drop 7 st)
unfolding slot
topic-cut st n h = ap (take n) (drop-take 7 2041 st) ∙ take-take n 2041 (drop 7 st) h

module _ (l : List ℕ) (e : is_identity l ≡ true) where
  texts : (be_at 2 l 0 + be_at 2 l 2 + be_at 2 l 4 ≤ 2041) × (is_utf8 (identity_topic l) ≡ true)
  unfolding is_identity
  texts =
      let n : ℕ = be_at 2 l 0 + be_at 2 l 2 + be_at 2 l 4 in
      let p = both_true (leb n 2041) _ (both_true (leb (get_or l 6 0) 1) _ e).1 in
      (leb-true n 2041 p.0, (both_true (is_utf8 (identity_topic l)) _ p.1).0)

module _ (st : List ℕ) (h : is_identity (slot st 0) ≡ true) where
  pub topic-end : (n : ℕ) → n ≡ be_at 2 st 0 → 6144 ≤ length st → TopicEnd st (7 + n)
  unfolding identity_topic
  topic-end n e l =
      let s : n ≤ 2041 = omega (arith, e, topic-front st, (texts (slot st 0) h).0) in
      record {
        ordered = omega arith;
        within = omega arith;
        is =
            ap (λ (k : ℕ). take k (drop 7 st)) (add-sub_cancel_left 7 n) ∙ sym (topic-cut st n s)
            ∙ ap (λ (k : ℕ). take k (drop 7 (slot st 0))) (e ∙ sym (topic-front st));
      }

  pub topic-text : (end : ℕ) → TopicEnd st end → is_utf8 (take (end - 7) (drop 7 st)) ≡ true
  topic-text end t = ap is_utf8 t.is ∙ (texts (slot st 0) h).1

-- ---- the buffer

-- a packed assignment put at its front
put-answers : (a : ConsumerAssignment) (b b' : List ℕ) (n : ℕ) → length b ≡ 2048 → FitAssignment a → ok_assignment a ≡ true
    → n ≡ size_assignment a → b' ≡ put b 0 (encode_assignment a) → Answers (Ok n) b' (taken a)
unfolding put
put-answers a b b' n l f o e w =
    let z : length (encode_assignment a) ≡ size_assignment a = length-encode_assignment a in
    let v : decode_assignment b' ≡ a = ap decode_assignment w ∙ read-assignment a (drop (0 + length (encode_assignment a)) b) f in
    record {
      is = ap taken (sym v);
      ready =
          record {
            long = ap length w ∙ length-put b 0 (encode_assignment a) (omega (arith, size_ok a o)) ∙ l;
            starts = ap starts_assignment w ∙ starts-encode a (drop (0 + length (encode_assignment a)) b) f o;
            size = e ∙ ap size_assignment (sym v);
          };
    }

pub field-small : (n : ℕ) → AssignmentField n → (0 < n) × (n < 16)
field-small n (inl e) = (omega arith, omega arith)
field-small n (inr e) = (omega arith, omega arith)

field-wide : (m : List ℕ) → Bytes m → (n : ℕ) → AssignmentField n → Wide (wire.read_assignment (merged_fields n (fields_of m)))
unfolding update_of response_of
field-wide m h n (inl e) = subst (λ (k : ℕ). Wide (wire.read_assignment (merged_fields k (fields_of m)))) (sym e) (update-wide m h)
field-wide m h n (inr e) = subst (λ (k : ℕ). Wide (wire.read_assignment (merged_fields k (fields_of m)))) (sym e) (response-wide m h)

-- ---- a message of two fields

module _ (m : List ℕ) {head at from to : ℕ} (i : NumberIs 1 m 0 head at) (h : length m ≤ to)
    (v : (d : ℕ) → Sound d ScalableConsumerAssignment (take (to - from) (drop from m))) where
  message-row : (n : ℕ) → PartField n m at from to
      → fields_of m ≡ field 1 type.Varint (number head) ∷ field n type.Len (bytes (take (to - from) (drop from m))) ∷ []
  message-row n p =
      let z : fields_of (drop to m) ≡ [] = fields-nil (drop to m) (omega (arith, length-drop to m)) in
      i.fields ∙ rw (p.fields, z)

  message-valid : (n : ℕ) → AssignmentField n → PartField n m at from to → first_fault (message_with n) m ≡ Ok record {}
  message-valid n (inl e) p =
      let s = take (to - from) (drop from m) in
      rw e (update-row m head s (v 3) (message-row 2 (subst (λ (k : ℕ). PartField k m at from to) e p)))
  message-valid n (inr e) p =
      let s = take (to - from) (drop from m) in
      rw e (response-row m head s (v 3) (message-row 4 (subst (λ (k : ℕ). PartField k m at from to) e p)))

-- ---- what the functions answer

module _ (st m b b' : List ℕ) (n end : ℕ) (o : AssignmentField n) (e : TopicEnd st end) (l : length b ≡ 2048) (h : Bytes m) where
  pub intake-answers : (x : Result ℕ Refusal)
      → IntakeIs b x b' (content_of (take (end - 7) (drop 7 st)) (wire.read_assignment (merged_fields n (fields_of m))))
      → Answers x b' (content_in st n m)
  intake-answers x i = go (content_in st n m) refl (rw (← e.is) i)
    where
      go : (c : Content) → content_in st n m ≡ c → IntakeIs b x b' c → Answers x b' c
      go (refused y) p q = rw q (record { is = refl; ready = tt })
      go (taken a) p q =
          let f = content-fits (identity_topic (slot st 0)) _ (field-wide m h n o) a p in
          rw q.0 (put-answers a b b' (size_assignment a) l f.0 f.1 refl q.1)

  pub ordered-taken : (head at from to epoch size : ℕ) → NumberIs 1 m 0 head at → PartField n m at from to → length m ≤ to
      → (x : Option (ℕ × ℕ)) → x ≡ Some (epoch, size) → OrderedIs (take (end - 7) (drop 7 st)) (take (to - from) (drop from m)) b x b'
      → OrderedMessageTaken st m n head size b'
  ordered-taken head at from to epoch size i p g x y q =
      let t : OrderedTaken (take (end - 7) (drop 7 st)) (take (to - from) (drop from m)) b epoch size b' = rw y at q in
      let s : List ℕ = take (to - from) (drop from m) in
      let fs = message-row m i g t.valid n p in
      let w : merged_fields n (fields_of m) ≡ fields_of s = rw (fs, eq-eqb n n refl) (append-nil (fields_of s)) in
      let c : content_in st n m ≡ taken t.assignment = rw (w, ← e.is) t.content in
      let f = content-fits (identity_topic (slot st 0)) _ (field-wide m h n o) t.assignment c in
      record {
        valid = message-valid m i g t.valid n o p;
        part = s;
        fields = fs;
        answers = rw c (put-answers t.assignment b b' size l f.0 f.1 t.size t.packed);
      }
