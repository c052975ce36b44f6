-- The statements of specs/FromOpen: what an accepted open leaves (crates/session_open/specs/Opened) is what each demand starts from.
-- Assumes nothing.
use Rattle.std.specs.Prelude.{Ok}
use Prim.Native.Nat.{ℕ, ◌≤◌}
use mathlib.Core.Path.{◌≡◌, refl, sym, ap, ◌∙◌, subst}
use mathlib.Core.List.{List, []}
use Rattle.topic_types.specs.declared.ControllerIncarnation.{ControllerIncarnation}
use Rattle.topic_types.specs.declared.ScalableConsumerType.{ScalableConsumerType}
use Rattle.topic_types.specs.declared.ScalableConsumerType.TheVariants.{Stream, Checkpoint}
use Rattle.session.specs.declared.Answer.TheVariants as answer
use Rattle.session.specs.Identity.{Identity, kind_byte}
use Rattle.session.specs.Calls.{OpenOutcome, fresh_record, open_outcome}
use Rattle.session.specs.Trace.{is_accepted}
use Rattle.session.specs.DemandThree.{Fresh}
use Rattle.session.proofs.Claimed.{demand-three}
use Rattle.session_open.specs.Opened.{Accepted}
use Rattle.session_open.proofs.OpenedLaws.{open-tied}
use Rattle.rust_magnetar.specs.Session.{new}
use Rattle.rust_names.specs.Agree.{is_marked}
use Rattle.rust_session.specs.Values.{as_type}
use Rattle.rust_session.specs.Demand.{topic_in, Caller, rust_run, opened, fed_calls, all_roomy, store_for}
use Rattle.rust_session.proofs.Demanded.{demand-two-fed, demand-two}
use Rattle.rust_session.proofs.NoneDue.{demand-two-of-inputs}
use Rattle.rust_open.specs.FromOpen.{new_caller, OpensNew, DemandTwoFedFromOpen, DemandTwoFromOpen, DemandTwoOfInputsFromOpen}
use Rattle.rust_open.specs.FromOpen.{DemandThreeFromOpen}

kind-read : (k : ScalableConsumerType) → as_type (kind_byte k) ≡ k
kind-read Stream = refl
kind-read Checkpoint = refl

fresh-record : (consumer : ℕ) (incarnation : ControllerIncarnation) → Fresh (fresh_record consumer incarnation)
fresh-record consumer incarnation =
    record { unregistered = refl; no-floor = refl; not-invalidated = refl; no-queue = refl; positions = refl }

-- ---- of an accepted open

module _ (consumer : ℕ) (incarnation : ControllerIncarnation) (i : Identity) (st : List ℕ) where
  abbrev left : OpenOutcome
  left = open_outcome consumer incarnation i st

  module _ (e : left.answer ≡ Ok answer.Accepted) where
    leaves : Accepted consumer incarnation i st left
    leaves = (open-tied consumer incarnation i st).accepted (ap is_accepted e)

    fresh : Fresh left.next
    fresh = subst Fresh (sym leaves.fresh) (fresh-record consumer incarnation)

    topic-is : topic_in left.store ≡ i.topic
    topic-is = leaves.holds.topic

    opens : opened left.next left.store ≡ new_caller consumer incarnation i
    opens = λ j.
        record {
          session =
              new (leaves.fresh j).consumer_id (topic-is j) (leaves.holds.subscription j) (leaves.holds.consumer_name j)
              ((ap as_type leaves.holds.kind ∙ kind-read i.consumer_type) j) (leaves.fresh j).incarnation;
          taken = [];
        }

-- ---- the statements

pub opens-new : OpensNew
opens-new consumer incarnation i st e = opens consumer incarnation i st e

pub demand-two-fed-from-open : DemandTwoFedFromOpen
demand-two-fed-from-open consumer incarnation i st e unmarked calls bytes reader one =
    let o : OpenOutcome = open_outcome consumer incarnation i st in
    demand-two-fed o.next (fresh consumer incarnation i st e) o.store (ap is_marked (topic-is consumer incarnation i st e) ∙ unmarked)
    calls bytes reader one
    ∙ ap (λ (c : Caller). rust_run c (fed_calls o.next o.store calls)) (opens consumer incarnation i st e)

pub demand-two-from-open : DemandTwoFromOpen
demand-two-from-open consumer incarnation i st e unmarked calls bytes reader one none-due =
    let o : OpenOutcome = open_outcome consumer incarnation i st in
    demand-two o.next (fresh consumer incarnation i st e) o.store (ap is_marked (topic-is consumer incarnation i st e) ∙ unmarked)
    calls bytes reader one none-due
    ∙ ap (λ (c : Caller). rust_run c calls) (opens consumer incarnation i st e)

pub demand-two-of-inputs-from-open : DemandTwoOfInputsFromOpen
demand-two-of-inputs-from-open consumer incarnation i st e unmarked room most big calls bytes reader one roomy =
    let o : OpenOutcome = open_outcome consumer incarnation i st in
    let a : Accepted consumer incarnation i st o = leaves consumer incarnation i st e in
    let t = topic-is consumer incarnation i st e in
    let d = demand-two-of-inputs o.next (fresh consumer incarnation i st e) o.store (ap is_marked t ∙ unmarked) a.holds.formed room most
    (subst (λ (n : ℕ). store_for room ≤ n) (sym a.size) big) calls bytes reader one (ap (λ p. all_roomy room p calls) t ∙ roomy) in
    (d.0, d.1 ∙ ap (λ (c : Caller). rust_run c calls) (opens consumer incarnation i st e))

pub demand-three-from-open : DemandThreeFromOpen
demand-three-from-open consumer incarnation i st e reader low calls bytes drained =
    let o : OpenOutcome = open_outcome consumer incarnation i st in
    demand-three reader low o.next (fresh consumer incarnation i st e) o.store calls bytes drained
