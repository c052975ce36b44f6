-- `parse_descriptor` meets its contract: each return is the case of `descriptor_stage` that the tests before it leave.
-- Assumes nothing.
use native.Mathlib.Omega.{arith}
use mathlib.Core.Path.{sym, ap, ◌∙◌}
use lib.Seq.{length-take-le}
use Rattle.std.proofs.lemmas.Result.{err_from_is_err_and}
use Rattle.slice.proofs.PartLaws.{rest}
use Rattle.name_digits.specs.Digits.{segment_id_of}
use Rattle.name_source.specs.Parse.{start_part, end_part}
use Rattle.name_digits.proofs.DigitLaws.{word-told, word_bound}
use Rattle.name_source.proofs.ParseLaws.{is-none, is-some, descriptor-short, descriptor-no-dash-4, descriptor-no-dash-9}
use Rattle.name_source.proofs.ParseLaws.{descriptor-no-start, descriptor-no-end, descriptor-no-id}
use Rattle.name_source.proofs.ParseLaws.{descriptor-range, range-invalid, range-valid}
use Rattle.name_source.proofs.parse_descriptor.Goals.{then-d-lt11-via-then-d-lt11, then-d-lt11-via-else-d-lt11+then-class_of-ne-DASH}
use Rattle.name_source.proofs.parse_descriptor.Goals.{then-d-lt11-via-else-d-lt11+else-class_of-ne-DASH+then-class_of-ne-DASH-2}
use Rattle.name_source.proofs.parse_descriptor.Goals as goal

pub returns-then-d-lt11 : goal.returns-then-d-lt11
returns-then-d-lt11 c =
    let a = c.args in
    elim c.then-d-lt11.branch [
      | then-d-lt11-via-then-d-lt11 w ↦ sym (descriptor-short a.path_end a.d.now (omega (arith, w.if-d-lt11.true)))
      | then-d-lt11-via-else-d-lt11+then-class_of-ne-DASH w ↦
          sym (descriptor-no-dash-4 a.path_end a.d.now (λ e. w.if-class_of-ne-DASH.true (w.class_of.ensures ∙ e)))
      | then-d-lt11-via-else-d-lt11+else-class_of-ne-DASH+then-class_of-ne-DASH-2 w ↦
          sym (descriptor-no-dash-9 a.path_end a.d.now (λ e. w.if-class_of-ne-DASH-2.true (w.class_of-else-class_of-ne-DASH.ensures ∙ e)))
    ]

pub slice_bounds-hex_word-end : goal.slice_bounds-hex_word-end
slice_bounds-hex_word-end c = sym (length-take-le 4 c.args.d.now (omega arith))

pub returns-in_err-start : goal.returns-in_err-start
returns-in_err-start c =
    let none = is-none _ _ _ (sym c.ok_or.ensures.value ∙ c.in_err-start.was) in
    let p = err_from_is_err_and c.from_residual.result c.from_residual.ensures.1 in
    rw (p.1, p.2, none.1) (sym (descriptor-no-start c.args.path_end c.args.d.now (sym c.hex_word.ensures ∙ none.0)))

pub returns-in_err-end : goal.returns-in_err-end
returns-in_err-end c =
    let none = is-none _ _ _ (sym c.ok_or-2.ensures.value ∙ c.in_err-end.was) in
    let p = err_from_is_err_and c.from_residual-in_err-end.result c.from_residual-in_err-end.ensures.1 in
    rw (p.1, p.2, none.1) (sym (descriptor-no-end c.args.path_end c.args.d.now (sym c.hex_word-2.ensures ∙ none.0)))

pub returns-in_err-id : goal.returns-in_err-id
returns-in_err-id c =
    let none = is-none _ _ _ (sym c.ok_or-3.ensures.value ∙ c.in_err-id.was) in
    let told = sym (c.segment_id.ensures ∙ ap segment_id_of (rest c.args.d.now 10)) ∙ none.0 in
    let p = err_from_is_err_and c.from_residual-in_err-id.result c.from_residual-in_err-id.ensures.1 in
    rw (p.1, p.2, none.1) (sym (descriptor-no-id c.args.path_end c.args.d.now told))

pub overflow_cast-start : goal.overflow_cast-start
overflow_cast-start c =
    let part = start_part c.args.d.now in
    let p = word-told part _ (sym c.hex_word.ensures ∙ is-some _ _ _ (sym c.ok_or.ensures.value ∙ c.in_ok-start.was)) in
    omega (arith, word_bound part p.0, p.1)

pub overflow_cast-end : goal.overflow_cast-end
overflow_cast-end c =
    let part = end_part c.args.d.now in
    let p = word-told part _ (sym c.hex_word-2.ensures ∙ is-some _ _ _ (sym c.ok_or-2.ensures.value ∙ c.in_ok-end.was)) in
    omega (arith, word_bound part p.0, p.1)

pub returns-in_err-range : goal.returns-in_err-range
returns-in_err-range c =
    let a = c.args in
    let start = is-some _ _ _ (sym c.ok_or.ensures.value ∙ c.in_ok-start.was) in
    let end = is-some _ _ _ (sym c.ok_or-2.ensures.value ∙ c.in_ok-end.was) in
    let id = is-some _ _ _ (sym c.ok_or-3.ensures.value ∙ c.in_ok-id.was) in
    let dash4 = sym c.class_of.ensures ∙ c.if-class_of-ne-DASH.false in
    let dash9 = sym c.class_of-else-class_of-ne-DASH.ensures ∙ c.if-class_of-ne-DASH-2.false in
    let number = sym (c.segment_id.ensures ∙ ap segment_id_of (rest a.d.now 10)) ∙ id in
    let read = descriptor-range a.path_end a.d.now _ _ _ (sym c.hex_word.ensures ∙ start) dash4 (sym c.hex_word-2.ensures ∙ end) dash9 number in
    let p = err_from_is_err_and c.from_residual-in_err-range.result c.from_residual-in_err-range.ensures.1 in
    rw (p.1, p.2) (sym (read ∙ range-invalid _ _ _ _ (sym c.new.ensures ∙ c.in_err-range.was)))

pub returns : goal.returns
returns c =
    let a = c.args in
    let start = is-some _ _ _ (sym c.ok_or.ensures.value ∙ c.in_ok-start.was) in
    let end = is-some _ _ _ (sym c.ok_or-2.ensures.value ∙ c.in_ok-end.was) in
    let id = is-some _ _ _ (sym c.ok_or-3.ensures.value ∙ c.in_ok-id.was) in
    let dash4 = sym c.class_of.ensures ∙ c.if-class_of-ne-DASH.false in
    let dash9 = sym c.class_of-else-class_of-ne-DASH.ensures ∙ c.if-class_of-ne-DASH-2.false in
    let number = sym (c.segment_id.ensures ∙ ap segment_id_of (rest a.d.now 10)) ∙ id in
    let read = descriptor-range a.path_end a.d.now _ _ _ (sym c.hex_word.ensures ∙ start) dash4 (sym c.hex_word-2.ensures ∙ end) dash9 number in
    sym (read ∙ range-valid _ _ _ _ (sym c.new.ensures ∙ c.in_ok-range.was))
