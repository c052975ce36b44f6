-- `watch::diff` meets its contract: each return is a case of `settle`.
-- Assumes nothing.
use Rattle.std.proofs.lemmas.Result.{err_from_is_err_and}
use native.Mathlib.Omega.{arith}
use mathlib.Core.Bool.{true}
use mathlib.Core.Path.{◌≡◌, sym, ◌∙◌}
use lib.Seq.{length-take-le}
use borrow.Author.Tests.{not-true, not-false}
use Rattle.watch_topics.specs.Topics.{all_short}
use Rattle.watch_window.specs.Window.{SortedOf}
use Rattle.watch_window.specs.Lists.{named_in}
use Rattle.watch_lists.proofs.SurveyLaws.{survey-short, survey-rises}
use Rattle.watch.proofs.SettleLaws.{tell, tell-as, diff-told, diff-long, diff-long-removed, diff-refused, diff-done}
use Rattle.watch.proofs.diff.Goals as goal

pub returns-then-not-a : goal.returns-then-not-a
returns-then-not-a c =
    let e = sym (survey-short _ _ c.survey-a.ensures) ∙ (not-true _ c.if-not-a.true) in
    tell _ _ _ _ (diff-long _ _ _ _ e)

pub returns-then-not-r : goal.returns-then-not-r
returns-then-not-r c =
    let e = sym (survey-short _ _ c.survey-r.ensures) ∙ (not-true _ c.if-not-r.true) in
    tell _ _ _ _ (diff-long-removed _ _ _ _ e)

pub slice_bounds-room_for-end-2 : goal.slice_bounds-room_for-end-2
slice_bounds-room_for-end-2 c = sym (length-take-le _ _ c.requires.used_in_bounds)

pub room_for-requires : goal.room_for-requires
room_for-requires c =
    record {
      set_len_bound = omega (arith, length-take-le c.args.used c.args.buffer.now c.requires.used_in_bounds, c.requires.used_in_bounds);
      set_value = c.requires.buffer_value;
      sorted_of = (let it : (let a = c.survey-a.result in
          SortedOf 3 c.args.p.now (record { added = a.rises; removed = c.survey-r.result.rises })) = diff-told _ _ _ (survey-rises _ _ c.survey-a.ensures) (survey-rises _ _ c.survey-r.ensures) in it);
    }

pub write_diff-requires : goal.write_diff-requires
write_diff-requires c =
    record {
      used_in_bounds = c.requires.used_in_bounds;
      buffer_value = c.requires.buffer_value;
      sorted_of = (let it : (let a = c.survey-a.result in
          SortedOf 3 c.args.p.now (record { added = a.rises; removed = c.survey-r.result.rises })) = diff-told _ _ _ (survey-rises _ _ c.survey-a.ensures) (survey-rises _ _ c.survey-r.ensures) in it);
      p_value = (let it : (let p = c.args.p.now in (all_short (named_in 3 1 p) ≡ true) × (all_short (named_in 3 2 p) ≡ true)) = (
        sym (survey-short _ _ c.survey-a.ensures) ∙ (not-false _ c.if-not-a.false),
        sym (survey-short _ _ c.survey-r.ensures) ∙ (not-false _ c.if-not-r.false),
      ) in it);
      diff_fits = c.in_ok-room_for.ensures;
    }

pub returns-in_err-room_for : goal.returns-in_err-room_for
returns-in_err-room_for c =
    let s = (let it : (let p = c.args.p.now in (all_short (named_in 3 1 p) ≡ true) × (all_short (named_in 3 2 p) ≡ true)) = (
      sym (survey-short _ _ c.survey-a.ensures) ∙ (not-false _ c.if-not-a.false),
      sym (survey-short _ _ c.survey-r.ensures) ∙ (not-false _ c.if-not-r.false),
    ) in it) in
    let r = err_from_is_err_and c.from_residual.result c.from_residual.ensures.1 in
    rw (r.1, r.2) (tell _ _ _ _ (diff-refused _ _ _ _ s.0 s.1 _ c.in_err-room_for.ensures))

pub returns : goal.returns
returns c =
    let s = (let it : (let p = c.args.p.now in (all_short (named_in 3 1 p) ≡ true) × (all_short (named_in 3 2 p) ≡ true)) = (
      sym (survey-short _ _ c.survey-a.ensures) ∙ (not-false _ c.if-not-a.false),
      sym (survey-short _ _ c.survey-r.ensures) ∙ (not-false _ c.if-not-r.false),
    ) in it) in
    let d = diff-done _ _ _ _ s.0 s.1 c.in_ok-room_for.ensures in
    tell-as _ _ _ _ _ d c.write_diff.ensures
