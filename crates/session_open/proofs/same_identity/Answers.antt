-- `session_open::same_identity` meets its contract: a text after the other, then the kind.
-- Assumes nothing.
use mathlib.Core.Bool.{not}
use mathlib.Core.Path.{ap}
use Prim.Native.Nat.{◌+◌, ◌≤◌}
use native.Mathlib.Omega.{arith}
use Rattle.session_store.proofs.IdentityLaws.{Lengths, identity-room}
use Rattle.session_open.proofs.MatchLaws.{topic-other, subscription-other, name-other, kind-decides}
use Rattle.session_open.proofs.same_identity.Goals.{After-read_u16-3}
use Rattle.session_open.proofs.same_identity.Goals as goal

lengths : (c : After-read_u16-3)
    → Lengths c.args.s.now
    c.read_u16.result c.read_u16-2.result c.read_u16-3.result
lengths c =
    record {
      topic-is = c.read_u16.ensures;
      subscription-is = c.read_u16-2.ensures;
      name-is = c.read_u16-3.ensures;
    }

-- the texts end in the slot
room : (c : After-read_u16-3) → c.read_u16.result + c.read_u16-2.result + c.read_u16-3.result ≤ 2041
room c =
    omega (arith, identity-room c.args.s.now c.requires.s_value, (lengths c).topic-is, (lengths c).subscription-is, (lengths c).name-is)

pub slice_bounds-same-end : goal.slice_bounds-same-end
slice_bounds-same-end c = let h = room (goal.at.slice_bounds-same-end c).After-read_u16-3 in omega arith

pub returns-then-not-same : goal.returns-then-not-same
returns-then-not-same c =
    let n = c in
    topic-other _ _ _ _ (lengths (goal.at.returns-then-not-same c).After-read_u16-3) ((record {
      topic = n.args.topic.now;
      subscription = n.args.subscription.now;
      consumer_name = n.args.name.now;
      consumer_type = n.args.kind;
    })) c.same.result c.same.ensures (ap not c.if-not-same.true)

pub slice_bounds-same-end-2 : goal.slice_bounds-same-end-2
slice_bounds-same-end-2 c = let h = room (goal.at.slice_bounds-same-end-2 c).After-read_u16-3 in omega arith

pub returns-then-not-same-2 : goal.returns-then-not-same-2
returns-then-not-same-2 c =
    let k = c in
    let n = k in
    subscription-other _ _ _ _ (lengths (goal.at.returns-then-not-same-2 c).After-read_u16-3) ((record {
      topic = n.args.topic.now;
      subscription = n.args.subscription.now;
      consumer_name = n.args.name.now;
      consumer_type = n.args.kind;
    })) k.same.result k.same.ensures (ap not k.if-not-same.false)
    c.same-2.result c.same-2.ensures (ap not c.if-not-same-2.true)

pub slice_bounds-same-end-3 : goal.slice_bounds-same-end-3
slice_bounds-same-end-3 c = let h = room (goal.at.slice_bounds-same-end-3 c).After-read_u16-3 in omega arith

pub returns-then-not-same-3 : goal.returns-then-not-same-3
returns-then-not-same-3 c =
    let m = c in
    let k = m in
    let n = k in
    name-other _ _ _ _ (lengths (goal.at.returns-then-not-same-3 c).After-read_u16-3) ((record {
      topic = n.args.topic.now;
      subscription = n.args.subscription.now;
      consumer_name = n.args.name.now;
      consumer_type = n.args.kind;
    })) k.same.result k.same.ensures (ap not k.if-not-same.false)
    m.same-2.result m.same-2.ensures (ap not m.if-not-same-2.false) c.same-3.result c.same-3.ensures (ap not c.if-not-same-3.true)

pub returns : goal.returns
returns c =
    let l = c in
    let m = l in
    let k = m in
    let n = k in
    kind-decides _ _ _ _ (lengths (goal.at.returns c).After-read_u16-3) ((record {
      topic = n.args.topic.now;
      subscription = n.args.subscription.now;
      consumer_name = n.args.name.now;
      consumer_type = n.args.kind;
    })) k.same.result k.same.ensures (ap not k.if-not-same.false)
    m.same-2.result m.same-2.ensures (ap not m.if-not-same-2.false) l.same-3.result l.same-3.ensures (ap not l.if-not-same-3.false)
    c.kind_byte.result c.kind_byte.ensures
