-- `watch::snapshot` meets its contract: each return is a case of `settle`.
-- Assumes nothing.
use Prim.Native.Nat.{◌≤◌, ◌<◌}
use native.Mathlib.Omega.{arith}
use mathlib.Core.List.{[]}
use lib.ListN.{length}
use mathlib.Core.Bool.{true, false}
use mathlib.Core.Path.{◌≡◌, sym, ap, ◌∙◌}
use borrow.Author.Tests.{not-true, not-false}
use Rattle.watch_topics.specs.Packed.{decode_topics, size_topics}
use Rattle.watch_topics.specs.Topics.{sorted, all_short}
use Rattle.watch_window.specs.Window.{SortedOf}
use Rattle.watch_window.specs.Lists.{named_in}
use Rattle.watch_window.specs.declared.Listing.TheVariants.{Added}
use Rattle.watch_lists.proofs.SizeLaws.{list-size}
use Rattle.watch_lists.proofs.SurveyLaws.{survey-short, survey-rises}
use Rattle.watch.proofs.SettleLaws.{tell, snapshot-long, snapshot-big, snapshot-short, snapshot-done, snapshot-told}
use Rattle.watch.proofs.ListLaws.{none-rises, list_all}
use Rattle.watch.proofs.snapshot.Goals as goal

pub returns-then-not-s : goal.returns-then-not-s
returns-then-not-s c = tell _ _ _ _ (snapshot-long _ _ _ (sym (let it : (c.survey-s.result.short ≡ all_short (named_in 2 1 c.args.p.now)) = survey-short _ _ c.survey-s.ensures in it) ∙ (not-true _ c.if-not-s.true)))

pub write_snapshot-n-requires : goal.write_snapshot-n-requires
write_snapshot-n-requires c =
    let k = (let it : (let a = c.args in
    (length c.args.p.now ≤ length a.buffer.now) × (length c.args.p.now < length a.out.now)) = c.fits_whole.ensures c.if-fits_whole.true in it) in
    let l = (let it : (size_topics (sorted (named_in 2 1 c.args.p.now)) ≤ length c.args.p.now) = omega (arith, ap size_topics (list_all c.args.p.now), list-size 2 Added (decode_topics []) c.args.p.now) in it) in
    record { sorted_of = (let it : (SortedOf 2 c.args.p.now (record { added = c.survey-s.result.rises; removed = false })) = snapshot-told _ _ (survey-rises _ _ c.survey-s.ensures) in it); p_value = (let it : (all_short (named_in 2 1 c.args.p.now) ≡ true) = sym (let it : (c.survey-s.result.short ≡ all_short (named_in 2 1 c.args.p.now)) = survey-short _ _ c.survey-s.ensures in it) ∙ (not-false _ c.if-not-s.false) in it); p_in_bounds = omega (arith, l, k.0); p_in_bounds_2 = omega (arith, l, k.1) }

pub overflow_add-result : goal.overflow_add-result
overflow_add-result c =
    let g = c.well_formed in
    omega (
      arith,
      c.write_snapshot-n.ensures.2,
      (let it : (size_topics (sorted (named_in 2 1 c.args.p.now)) ≤ length c.args.p.now) = omega (arith, ap size_topics (list_all c.args.p.now), list-size 2 Added (decode_topics []) c.args.p.now) in it),
      (let it : (let a = c.args in
          (length c.args.p.now ≤ length a.buffer.now) × (length c.args.p.now < length a.out.now)) = c.fits_whole.ensures c.if-fits_whole.true in it).1,
      g.1.1,
    )

pub returns-then-fits_whole : goal.returns-then-fits_whole
returns-then-fits_whole c =
    let k = (let it : (let a = c.args in
    (length c.args.p.now ≤ length a.buffer.now) × (length c.args.p.now < length a.out.now)) = c.fits_whole.ensures c.if-fits_whole.true in it) in
    let l = (let it : (size_topics (sorted (named_in 2 1 c.args.p.now)) ≤ length c.args.p.now) = omega (arith, ap size_topics (list_all c.args.p.now), list-size 2 Added (decode_topics []) c.args.p.now) in it) in
    let e = c.write_snapshot-n.ensures in
    tell _ _ _ _ (snapshot-done _ _ _ _ e.2 (let it : (all_short (named_in 2 1 c.args.p.now) ≡ true) = sym (let it : (c.survey-s.result.short ≡ all_short (named_in 2 1 c.args.p.now)) = survey-short _ _ c.survey-s.ensures in it) ∙ (not-false _ c.if-not-s.false) in it) (omega (arith, e.2, l, k.0)) (omega (arith, e.2, l, k.1)) _ _ e.0 e.1)

pub measure-z-requires : goal.measure-z-requires
measure-z-requires c = record { set_value = none-rises; sorted_of = (let it : (SortedOf 2 c.args.p.now (record { added = c.survey-s.result.rises; removed = false })) = snapshot-told _ _ (survey-rises _ _ c.survey-s.ensures) in it) }

pub returns-then-buffer-z : goal.returns-then-buffer-z
returns-then-buffer-z c = tell _ _ _ _ (snapshot-big _ _ _ _ (let it : (c.measure-z.result ≡ size_topics (sorted (named_in 2 1 c.args.p.now))) = c.measure-z.ensures ∙ ap size_topics (list_all _) in it) c.if-buffer-z.true)

pub returns-then-out-z : goal.returns-then-out-z
returns-then-out-z c =
    tell _ _ _ _ (snapshot-short _ _ _ _ (let it : (c.measure-z.result ≡ size_topics (sorted (named_in 2 1 c.args.p.now))) = c.measure-z.ensures ∙ ap size_topics (list_all _) in it) (let it : (all_short (named_in 2 1 c.args.p.now) ≡ true) = sym (let it : (c.survey-s.result.short ≡ all_short (named_in 2 1 c.args.p.now)) = survey-short _ _ c.survey-s.ensures in it) ∙ (not-false _ c.if-not-s.false) in it) c.if-buffer-z.false c.if-out-z.true)

pub write_snapshot-requires : goal.write_snapshot-requires
write_snapshot-requires c =
    let x = c.if-buffer-z.false in
    let y = c.if-out-z.false in
    record { sorted_of = (let it : (SortedOf 2 c.args.p.now (record { added = c.survey-s.result.rises; removed = false })) = snapshot-told _ _ (survey-rises _ _ c.survey-s.ensures) in it); p_value = (let it : (all_short (named_in 2 1 c.args.p.now) ≡ true) = sym (let it : (c.survey-s.result.short ≡ all_short (named_in 2 1 c.args.p.now)) = survey-short _ _ c.survey-s.ensures in it) ∙ (not-false _ c.if-not-s.false) in it); p_in_bounds = omega (arith, (let it : (c.measure-z.result ≡ size_topics (sorted (named_in 2 1 c.args.p.now))) = c.measure-z.ensures ∙ ap size_topics (list_all _) in it), x); p_in_bounds_2 = omega (arith, (let it : (c.measure-z.result ≡ size_topics (sorted (named_in 2 1 c.args.p.now))) = c.measure-z.ensures ∙ ap size_topics (list_all _) in it), y) }

pub returns : goal.returns
returns c =
    let w = c.write_snapshot.ensures in
    let x = c.if-buffer-z.false in
    let y = c.if-out-z.false in
    tell _ _ _ _ (snapshot-done _ _ _ _ (let it : (c.measure-z.result ≡ size_topics (sorted (named_in 2 1 c.args.p.now))) = c.measure-z.ensures ∙ ap size_topics (list_all _) in it) (let it : (all_short (named_in 2 1 c.args.p.now) ≡ true) = sym (let it : (c.survey-s.result.short ≡ all_short (named_in 2 1 c.args.p.now)) = survey-short _ _ c.survey-s.ensures in it) ∙ (not-false _ c.if-not-s.false) in it) x y _ _ w.0 w.1)
