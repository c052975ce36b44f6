-- `session_store::is_identity` meets its contract: a test after the other.
-- Assumes nothing.
use native.Mathlib.Omega.{arith}
use mathlib.Core.Path.{ap}
use mathlib.Core.Bool.{not}
use Rattle.session_store.proofs.IdentityLaws.{Lengths, kind-bad, texts-long, topic-bad, subscription-bad, name-decides}
use Rattle.session_store.proofs.is_identity.Goals.{After-read_u16-name}
use Rattle.session_store.proofs.is_identity.Goals as goal

lengths : (c : After-read_u16-name)
    → Lengths c.args.s.now
    c.read_u16-topic.result c.read_u16-subscription.result c.read_u16-name.result
lengths c =
    record {
      topic-is = c.read_u16-topic.ensures;
      subscription-is = c.read_u16-subscription.ensures;
      name-is = c.read_u16-name.ensures;
    }

pub returns-then-s-gt1 : goal.returns-then-s-gt1
returns-then-s-gt1 c = kind-bad c.args.s.now (omega (arith, c.if-s-gt1.true))

pub returns-then-topic-subscription-gt-MAX_TEXTS : goal.returns-then-topic-subscription-gt-MAX_TEXTS
returns-then-topic-subscription-gt-MAX_TEXTS c = texts-long _ _ _ _ (lengths (goal.at.returns-then-topic-subscription-gt-MAX_TEXTS c).After-read_u16-name) (omega arith) c.if-topic-subscription-gt-MAX_TEXTS.true

pub returns-then-not-is_utf8 : goal.returns-then-not-is_utf8
returns-then-not-is_utf8 c =
    let m = c in
    let n = m in
    topic-bad _ _ _ _ (lengths (goal.at.returns-then-not-is_utf8 c).After-read_u16-name) (omega arith) m.if-topic-subscription-gt-MAX_TEXTS.false c.is_utf8.result
    c.is_utf8.ensures (ap not c.if-not-is_utf8.true)

pub returns-then-not-is_utf8-2 : goal.returns-then-not-is_utf8-2
returns-then-not-is_utf8-2 c =
    let k = c in
    let m = k in
    let n = m in
    subscription-bad _ _ _ _ (lengths (goal.at.returns-then-not-is_utf8-2 c).After-read_u16-name) (omega arith) m.if-topic-subscription-gt-MAX_TEXTS.false k.is_utf8.result
    k.is_utf8.ensures (ap not k.if-not-is_utf8.false) c.is_utf8-2.result c.is_utf8-2.ensures (ap not c.if-not-is_utf8-2.true)

pub returns : goal.returns
returns c =
    let p = c in
    let k = p in
    let m = k in
    let n = m in
    name-decides _ _ _ _ (lengths (goal.at.returns c).After-read_u16-name) (omega arith) m.if-topic-subscription-gt-MAX_TEXTS.false k.is_utf8.result
    k.is_utf8.ensures (ap not k.if-not-is_utf8.false) p.is_utf8-2.result p.is_utf8-2.ensures (ap not p.if-not-is_utf8-2.false)
    c.is_utf8-3.result c.is_utf8-3.ensures
