-- `session_open::matches_registration` meets its contract.
-- Assumes nothing.
use mathlib.Core.Bool.{not}
use Prim.Native.Nat.{ℕ}
use native.Mathlib.Omega.{arith}
use mathlib.Core.Path.{◌≡◌, sym, ap, ◌∙◌}
use mathlib.Core.List.{List}
use lib.Seq.{length-take-le}
use Rattle.session.specs.Store.{slot}
use Rattle.session.specs.Identity.{is_identity}
use Rattle.session.specs.Calls.{same_identity}
use Rattle.session_store.proofs.StoreLaws.{slot_at}
use Rattle.session_open.proofs.MatchLaws.{match-short, match-damaged, match-told}
use Rattle.session_open.proofs.matches_registration.Goals.{After-is_identity, After-same_identity}
use Rattle.session_open.proofs.matches_registration.Goals as goal

named : (c : After-is_identity)
    → c.is_identity.result ≡ is_identity (slot c.args.store.now 0)
named c = c.is_identity.ensures ∙ ap is_identity (slot_at _ 0)

compared : (c : After-same_identity)
    → c.same_identity.result ≡ same_identity (slot c.args.store.now 0) ((record {
      topic = c.args.topic.now;
      subscription = c.args.subscription.now;
      consumer_name = c.args.name.now;
      consumer_type = c.args.kind;
    }))
compared c = c.same_identity.ensures ∙ ap (λ (l : List ℕ). same_identity l ((record {
  topic = c.args.topic.now;
  subscription = c.args.subscription.now;
  consumer_name = c.args.name.now;
  consumer_type = c.args.kind;
}))) (slot_at _ 0)

pub returns-then-store-lt-MIN_STORE : goal.returns-then-store-lt-MIN_STORE
returns-then-store-lt-MIN_STORE c = match-short c.args.store.now _ c.if-store-lt-MIN_STORE.true

pub returns-then-not-is_identity : goal.returns-then-not-is_identity
returns-then-not-is_identity c =
    let k = c in
    let s = k in
    match-damaged s.args.store.now ((record {
      topic = s.args.topic.now;
      subscription = s.args.subscription.now;
      consumer_name = s.args.name.now;
      consumer_type = s.args.kind;
    })) k.if-store-lt-MIN_STORE.false c.is_identity.result (named (goal.at.returns-then-not-is_identity c).After-is_identity) (ap not c.if-not-is_identity.true)

pub same_identity-requires : goal.same_identity-requires
same_identity-requires c =
    let n = c in
    let s = n in record { s_len = length-take-le 2048 s.args.store.now (omega (arith, n.if-store-lt-MIN_STORE.false)); s_value = sym n.is_identity.ensures ∙ c.if-not-is_identity.false }

pub returns : goal.returns
returns c =
    match-told c.args.store.now ((record {
      topic = c.args.topic.now;
      subscription = c.args.subscription.now;
      consumer_name = c.args.name.now;
      consumer_type = c.args.kind;
    })) c.if-store-lt-MIN_STORE.false c.is_identity.result (named (goal.at.returns c).After-is_identity) (ap not c.if-not-is_identity.false)
    c.same_identity.result (compared (goal.at.returns c).After-same_identity)
