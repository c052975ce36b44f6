-- Laws of what a command carries: the message of a field, by what was found of its parts (`one-part`, `one-message`, `other-parts`); each type
-- (`made`, `by-response` to `by-other`);
-- the command from its first fault and its type (`command-broken`, `command-untyped`, `command-typed`); its reply (`parts-reply`,
-- `other-reply`).
-- Assumes nothing.
use Rattle.std.specs.Prelude.{Some, None, Result, Ok, Err}
use Prim.Native.Nat.{ℕ, ◌+◌, ◌-◌, ◌^◌, ◌≤◌, ◌<◌}
use native.Mathlib.Nat.{add-sub_cancel_left}
use native.Mathlib.Omega.{arith}
use mathlib.Core.Path.{◌≡◌, refl, sym, ap, ◌∙◌}
use mathlib.Core.Bool.{true, false}
use mathlib.Core.List.{List, [], ◌∷◌}
use lib.IntN.{ℤ, pos, negsuc}
use lib.ListN.{length, take, drop}
use lib.Signed.{mag}
use mir.Syntax.{w32}
use mir.Val.{to_z, of_z}
use mir.Facts.{to_z-of_z}
use borrow.Author.Tests.{ne_eqb}
use Rattle.refusal.specs.declared.Refusal.{Refusal}
use Rattle.refusal.specs.declared.Refusal.TheVariants.{MissingField}
use Rattle.wire.specs.Fields.{fields_of}
use Rattle.wire_values.specs.Values.{numbers_of, present, last_of, or_zero, number_in}
use Rattle.wire_values.specs.Integers.{int32_of}
use Rattle.export_reply.specs.declared.Reply.{Reply}
use Rattle.export_reply.specs.Replies.{no, word_of, word_at, reply_with, taken_reply}
use Rattle.wire_required.proofs.LookLaws.{number-found}
use Rattle.wire_command.specs.declared.Found.{Found}
use Rattle.wire_command.specs.declared.Message.{Message}
use Rattle.wire_command.specs.declared.Message.TheVariants as message
use Rattle.wire_command.specs.declared.Command.{Command}
use Rattle.wire_command.specs.declared.Command.TheVariants as command
use Rattle.wire_command.specs.Shell.{shell_fields, shell_fault}
use Rattle.wire_command.specs.Places.{Place, places_of}
use Rattle.wire_command.specs.Steps.{found_after, found_in}
use Rattle.wire_command.specs.Commands.{Made, message_by, message_in, answer_for, command_by, command_of}
use Rattle.wire_command.specs.Replies.{command_reply}
use Rattle.wire_command.proofs.PlaceLaws.{AllInside, places-inside}

-- ---- the message of a field

-- as many as there are places, and those before
count-after : (x : Found) (ps : List Place) → (found_after x ps).count ≡ x.count + length ps
count-after x [] = omega arith
count-after x (p ∷ ps) = count-after (record { count = x.count + 1; start = p.start; length = p.length }) ps ∙ omega arith

count-in : (ps : List Place) → (found_in ps).count ≡ length ps
unfolding found_in
count-in ps = count-after _ ps ∙ omega arith

module _ (l : List ℕ) where
  -- one part: it lies inside, and is the message
  pub record One (x : Found) (ps : List Place) : Type 0 where
    pub inside : x.start + x.length ≤ length l
    pub is : message_by l ps
        ≡ message.At x.start x.length (number_in 1 (fields_of (take (x.start + x.length - x.start) (drop x.start l))))

  one_of : (ps : List Place) → AllInside l ps → (found_in ps).count ≡ 1 → One (found_in ps) ps
  unfolding found_in
  one_of [] i e = absurd (let z : ⊥ = omega (arith, e) in z)
  one_of (p ∷ []) i e = record { inside = i.0; is = rw (add-sub_cancel_left p.start p.length) }
  one_of (p ∷ q ∷ ps) i e = absurd (let z : ⊥ = omega (arith, e, count-in (p ∷ q ∷ ps)) in z)

  several : (ps : List Place) → ((found_in ps).count ≡ 1 → ⊥) → message.Parts (found_in ps).count ≡ message_by l ps
  unfolding found_in
  several [] e = refl
  several (p ∷ []) e = absurd (e refl)
  several (p ∷ q ∷ ps) e = ap message.Parts (count-in (p ∷ q ∷ ps))

  module _ (n : ℕ) (x : Found) (g : x ≡ found_in (places_of n l)) where
    pub one-part : x.count ≡ 1 → One x (places_of n l)
    one-part e = rw g (one_of (places_of n l) (places-inside n l) (sym (ap (λ (y : Found). y.count) g) ∙ e))

    pub one-message : x.count ≡ 1 → (id : ℕ)
        → id ≡ number_in 1 (fields_of (take (x.start + x.length - x.start) (drop x.start l)))
        → message.At x.start x.length id ≡ message_in n l
    unfolding message_in
    one-message e id q = ap (message.At x.start x.length) q ∙ sym (one-part e).is

    pub other-parts : (x.count ≡ 1 → ⊥) → message.Parts x.count ≡ message_in n l
    unfolding message_in
    other-parts e = rw g (several (places_of n l) (λ d. e (ap (λ (y : Found). y.count) g ∙ d)))

-- ---- the type

-- a command with a message, made as f makes it
pub made : {f : ℕ → ℕ → ℕ → Command} {post : ℕ → ℕ → ℕ → Command → Type 0} → ((x y z : ℕ) (c : Command) → post x y z c → c ≡ f x y z)
    → (t : ℤ) (m n : Message) (c : Command) → Made post t m c → m ≡ n → Ok c ≡ answer_for (λ x y z. Ok (f x y z)) t n
made h t (message.At start len id) n c e g = ap Ok (h start len id c e) ∙ ap (answer_for _ t) g
made h t (message.Parts k) n c e g = ap Ok e ∙ ap (answer_for _ t) g

module _ (t : ℤ) (l : List ℕ) where
  pub by-response : t ≡ pos 74 → answer_for (λ x y z. Ok (command.Response x y z)) (pos 74) (message_in 74 l) ≡ command_by t l
  unfolding command_by
  by-response e = rw e

  pub by-update : t ≡ pos 75 → answer_for (λ x y z. Ok (command.Update x y z)) (pos 75) (message_in 75 l) ≡ command_by t l
  unfolding command_by
  by-update e = rw e

  pub by-watch : t ≡ pos 77 → answer_for (λ x y z. Ok (command.Watch x y z)) (pos 77) (message_in 77 l) ≡ command_by t l
  unfolding command_by
  by-watch e = rw e

pub by-other : (t : ℤ) (l : List ℕ) → (t ≡ pos 74 → ⊥) → (t ≡ pos 75 → ⊥) → (t ≡ pos 77 → ⊥) → Ok (command.Other t) ≡ command_by t l
unfolding command_by
by-other (negsuc t) l a b c = refl
by-other (pos t) l a b c = rw (ne_eqb t 74 (λ e. a (ap pos e)), ne_eqb t 75 (λ e. b (ap pos e)), ne_eqb t 77 (λ e. c (ap pos e)))

-- ---- the command

module _ (l : List ℕ) where
  pub command-broken : (x : Refusal) → shell_fields (fields_of l) ≡ Err x → Err x ≡ command_of l
  unfolding command_of shell_fault
  command-broken x e = rw e

  module _ (e : shell_fields (fields_of l) ≡ Ok record {}) where
    pub command-typed : (v : ℕ) → Some v ≡ last_of (numbers_of 1 (fields_of l))
        → (t : ℤ) → t ≡ int32_of v → command_by t l ≡ command_of l
    unfolding command_of shell_fault
    command-typed v g t h =
        let there : present (numbers_of 1 (fields_of l)) ≡ true = sym (number-found 1 l (Some v) g) in
        let is : number_in 1 (fields_of l) ≡ v = sym (ap or_zero g) in
        rw (e, there, is, h)

    pub command-untyped : None ≡ last_of (numbers_of 1 (fields_of l)) → Err MissingField ≡ command_of l
    unfolding command_of shell_fault
    command-untyped g =
        let missing : present (numbers_of 1 (fields_of l)) ≡ false = sym (number-found 1 l None g) in
        rw (e, missing)

-- ---- in numbers

-- the word of a type that the program handed over as its 32 bits
word_back : {w : ℕ} (t : ℤ) → mag t < 2 ^ 31 → w ≡ word_of (to_z w32 (of_z w32 t)) → w ≡ word_of t
word_back t h e = e ∙ ap word_of (to_z-of_z {w = w32} (record { sfits = h }))

module _ {x : Result Command Refusal} {r : Reply} {t : ℤ} {w : ℕ} (h : mag t < 2 ^ 31) (g : w ≡ word_of (to_z w32 (of_z w32 t))) where
  pub parts-reply : (k : ℕ) → x ≡ Ok (command.Parts t k) → r ≡ taken_reply no (pos w ∷ pos k ∷ []) → r ≡ command_reply x
  unfolding command_reply reply_with word_at word_of
  parts-reply k e d = d ∙ ap (λ (v : ℕ). taken_reply no (pos v ∷ pos k ∷ [])) (word_back t h g) ∙ sym (ap command_reply e)

  pub other-reply : x ≡ Ok (command.Other t) → r ≡ taken_reply no (pos w ∷ []) → r ≡ command_reply x
  unfolding command_reply reply_with word_at word_of
  other-reply e d = d ∙ ap (λ (v : ℕ). taken_reply no (pos v ∷ [])) (word_back t h g) ∙ sym (ap command_reply e)
