-- `session_update::received` meets its contract: what the intake answered.
-- Assumes nothing.
use Rattle.std.specs.Prelude.{ℕ, Result}
use mathlib.Core.Path.{ap, subst}
use Rattle.session_store.specs.Scratch.{Scratch}
use Rattle.session_intake.specs.Taken.{content_from, Ready}
use Rattle.session_update.proofs.UpdateLaws.{count-valid, list-valid, told, content-refuses, content-holds, content-joins}
use Rattle.session_update.proofs.received.Goals as goal
use Rattle.refusal.specs.declared.Refusal.{Refusal}

pub held-requires : goal.held-requires
held-requires c =
    record { min_store_in_bounds = c.requires.min_store_in_bounds; store_value = list-valid c.args.r c.args.store.now c.requires.store_tested.0 c.if-r.true; scratch = (let it : (Scratch c.args.b.now c.in-Ok.n) = subst (λ (x : Result ℕ Refusal). Ready x c.args.b.now) c.in-Ok.is c.requires.ready in it) }

pub enqueued-requires : goal.enqueued-requires
enqueued-requires c =
    record { queue_count_bound = count-valid c.args.r c.args.store.now c.requires.store_tested.0; queue_ends = c.requires.store_tested.1; scratch = (let it : (Scratch c.args.b.now c.in-Ok.n) = subst (λ (x : Result ℕ Refusal). Ready x c.args.b.now) c.in-Ok.is c.requires.ready in it) }

pub returns-then-r : goal.returns-then-r
returns-then-r c =
    content-holds c.args.r c.args.store.now c.args.out.now _ _
    (ap (λ (x : Result ℕ Refusal). content_from x c.args.b.now) c.in-Ok.is) c.if-r.true c.held.ensures

pub returns-in-Err : goal.returns-in-Err
returns-in-Err c =
    told c.args.store.now c.args.out.now c.refuse.ensures
    (content-refuses c.args.r c.args.store.now c.args.out.now _ c.in-Err.x
    (ap (λ (y : Result ℕ Refusal). content_from y c.args.b.now) c.in-Err.is))

pub returns-else-r : goal.returns-else-r
returns-else-r c =
    content-joins c.args.r c.args.store.now c.args.out.now _ _
    (ap (λ (x : Result ℕ Refusal). content_from x c.args.b.now) c.in-Ok.is) c.if-r.false (c.enqueued.ensures c.args.out.now)
