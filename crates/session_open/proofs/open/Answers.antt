-- `session_open::open` meets its contract: a test after the other, then the identity is written.
-- Assumes nothing.
use mathlib.Core.Bool.{not}
use mathlib.Core.Path.{◌≡◌, ap}
use lib.ListN.{length}
use Rattle.session.specs.Calls.{open_outcome}
use Rattle.session_open.proofs.OpenLaws.{texts-room, told, fitted, open-short, topic-bad, subscription-bad, name-bad}
use Rattle.session_open.proofs.OpenLaws.{texts-valid, open-long, open_done}
use Rattle.session_open.proofs.open.Goals.{Else-not-is_utf8-3}
use Rattle.session_open.proofs.open.Goals as goal

decided : (c : Else-not-is_utf8-3) → let s = (c) in
    open_outcome s.args.consumer_id s.args.incarnation ((record {
      topic = s.args.topic.now;
      subscription = s.args.subscription.now;
      consumer_name = s.args.name.now;
      consumer_type = s.args.kind;
    })) s.args.store.now
    ≡ fitted s.args.consumer_id s.args.incarnation ((record {
      topic = s.args.topic.now;
      subscription = s.args.subscription.now;
      consumer_name = s.args.name.now;
      consumer_type = s.args.kind;
    })) s.args.store.now c.fresh-next.result c.fresh-next.ensures
decided c =
    let m = c in
    let l = m in
    let k = l in
    let f = k in
    let s = f in
    texts-valid s.args.consumer_id s.args.incarnation ((record {
      topic = s.args.topic.now;
      subscription = s.args.subscription.now;
      consumer_name = s.args.name.now;
      consumer_type = s.args.kind;
    })) s.args.store.now f.fresh-next.result f.fresh-next.ensures
    k.if-store-lt-MIN_STORE.false l.is_utf8.result l.is_utf8.ensures (ap not l.if-not-is_utf8.false)
    m.is_utf8-2.result m.is_utf8-2.ensures (ap not m.if-not-is_utf8-2.false) c.is_utf8-3.result c.is_utf8-3.ensures
    (ap not c.if-not-is_utf8-3.false)

pub returns-then-store-lt-MIN_STORE : goal.returns-then-store-lt-MIN_STORE
returns-then-store-lt-MIN_STORE c =
    let f = c in
    let s = f in
    told s.args.store.now c.refuse.ensures
    (open-short s.args.consumer_id s.args.incarnation ((record {
      topic = s.args.topic.now;
      subscription = s.args.subscription.now;
      consumer_name = s.args.name.now;
      consumer_type = s.args.kind;
    })) s.args.store.now f.fresh-next.result f.fresh-next.ensures
    c.if-store-lt-MIN_STORE.true)

pub returns-then-not-is_utf8 : goal.returns-then-not-is_utf8
returns-then-not-is_utf8 c =
    let u = c in
    let k = u in
    let f = k in
    let s = f in
    told s.args.store.now c.refuse-then-not-is_utf8.ensures
    (topic-bad s.args.consumer_id s.args.incarnation ((record {
      topic = s.args.topic.now;
      subscription = s.args.subscription.now;
      consumer_name = s.args.name.now;
      consumer_type = s.args.kind;
    })) s.args.store.now f.fresh-next.result f.fresh-next.ensures
    k.if-store-lt-MIN_STORE.false u.is_utf8.result u.is_utf8.ensures (ap not c.if-not-is_utf8.true))

pub returns-then-not-is_utf8-2 : goal.returns-then-not-is_utf8-2
returns-then-not-is_utf8-2 c =
    let u = c in
    let l = u in
    let k = l in
    let f = k in
    let s = f in
    told s.args.store.now c.refuse-then-not-is_utf8-2.ensures
    (subscription-bad s.args.consumer_id s.args.incarnation ((record {
      topic = s.args.topic.now;
      subscription = s.args.subscription.now;
      consumer_name = s.args.name.now;
      consumer_type = s.args.kind;
    })) s.args.store.now f.fresh-next.result f.fresh-next.ensures
    k.if-store-lt-MIN_STORE.false l.is_utf8.result l.is_utf8.ensures (ap not l.if-not-is_utf8.false)
    u.is_utf8-2.result u.is_utf8-2.ensures (ap not c.if-not-is_utf8-2.true))

pub returns-then-not-is_utf8-3 : goal.returns-then-not-is_utf8-3
returns-then-not-is_utf8-3 c =
    let u = c in
    let m = u in
    let l = m in
    let k = l in
    let f = k in
    let s = f in
    told s.args.store.now c.refuse-then-not-is_utf8-3.ensures
    (name-bad s.args.consumer_id s.args.incarnation ((record {
      topic = s.args.topic.now;
      subscription = s.args.subscription.now;
      consumer_name = s.args.name.now;
      consumer_type = s.args.kind;
    })) s.args.store.now f.fresh-next.result f.fresh-next.ensures
    k.if-store-lt-MIN_STORE.false l.is_utf8.result l.is_utf8.ensures (ap not l.if-not-is_utf8.false)
    m.is_utf8-2.result m.is_utf8-2.ensures (ap not m.if-not-is_utf8-2.false) u.is_utf8-3.result u.is_utf8-3.ensures
    (ap not c.if-not-is_utf8-3.true))

pub returns-then-not-texts_fit : goal.returns-then-not-texts_fit
returns-then-not-texts_fit c =
    let u = c in
    told _ c.refuse-then-not-texts_fit.ensures
    (open-long _ _ _ _ u.fresh-next.result u.fresh-next.ensures (decided (goal.at.returns-then-not-texts_fit c).Else-not-is_utf8-3) u.texts_fit.result
    u.texts_fit.ensures (ap not c.if-not-texts_fit.true))

pub write_identity-requires : goal.write_identity-requires
write_identity-requires c =
    let e = c in
    let k = e in
    let s = k in record {
      name_len_bound = texts-room (length s.args.topic.now) (length s.args.subscription.now) (length s.args.name.now)
          e.texts_fit.result e.texts_fit.ensures (ap not e.if-not-texts_fit.false);
      min_store_in_bounds = k.if-store-lt-MIN_STORE.false;
    }

pub returns : goal.returns
returns c =
    let w = c in
    let e = w in
    let k = e in
    open_done _ _ _ _ k.fresh-next.result k.fresh-next.ensures (decided (goal.at.returns c).Else-not-is_utf8-3) e.texts_fit.result
    e.texts_fit.ensures (ap not e.if-not-texts_fit.false) _ w.write_identity.ensures
