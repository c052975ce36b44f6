-- `buckets_apart` meets its contract: the flag tells it, or the test of what was written. Assumes nothing.
use mathlib.Core.Path.{sym, ap, ◌∙◌}
use mathlib.Core.Bool.{Bool, ◌||◌}
use lib.ListN.{drop}
use Rattle.packed.specs.Assignment.{decode_ranges, ok_buckets}
use Rattle.intake_ordered.proofs.buckets_apart.Goals as goal

pub returns-else-rising : goal.returns-else-rising
returns-else-rising c =
    let a = c.args in
    c.buckets_ok.ensures ∙ sym (ap (λ (t : Bool). t || ok_buckets (decode_ranges a.n (drop a.place a.b.now))) c.if-rising.false)
