-- `parent_topic` meets its contract: the path of the name that is read lies inside the text, and is put behind the scheme.
-- Assumes nothing.
use native.Mathlib.Omega.{arith}
use mathlib.Core.Path.{sym, ap, ◌∙◌}
use Rattle.std.proofs.lemmas.Result.{err_from_is_err_and}
use Rattle.name_topic.specs.Build.{name_outcome}
use Rattle.name_source.proofs.ParseLaws.{parent-refused, parent_place, path-length, parent-no-room, parent-written}
use Rattle.name_source.proofs.parent_topic.Goals as goal

pub returns-in_err-path_end : goal.returns-in_err-path_end
returns-in_err-path_end c =
    let a = c.args in
    let p = err_from_is_err_and c.from_residual.result c.from_residual.ensures.1 in
    rw (p.1, p.2) (sym (parent-refused a.topic.now a.out.now _ (sym c.parse_text.ensures ∙ c.in_err-path_end.was)))

pub overflow_sub-n : goal.overflow_sub-n
overflow_sub-n c =
    omega (arith, parent_place c.args.topic.now c.args.out.now _ _ _ (sym c.parse_text.ensures ∙ c.in_ok-path_end.was))

pub returns-then-out-n : goal.returns-then-out-n
returns-then-out-n c =
    let a = c.args in
    let e = sym c.parse_text.ensures ∙ c.in_ok-path_end.was in
    sym (parent-no-room a.topic.now a.out.now _ _ _ e (omega arith))

pub put_bytes-requires : goal.put_bytes-requires
put_bytes-requires c =
    omega (arith, parent_place c.args.topic.now c.args.out.now _ _ _ (sym c.parse_text.ensures ∙ c.in_ok-path_end.was))

pub slice_bounds-put_bytes-count : goal.slice_bounds-put_bytes-count
slice_bounds-put_bytes-count c =
    omega (arith, parent_place c.args.topic.now c.args.out.now _ _ _ (sym c.parse_text.ensures ∙ c.in_ok-path_end.was))

pub slice_bounds-put_bytes-start : goal.slice_bounds-put_bytes-start
slice_bounds-put_bytes-start c =
    omega (arith, parent_place c.args.topic.now c.args.out.now _ _ _ (sym c.parse_text.ensures ∙ c.in_ok-path_end.was))

pub slice_bounds-put_bytes-end-2 : goal.slice_bounds-put_bytes-end-2
slice_bounds-put_bytes-end-2 c =
    omega (arith, parent_place c.args.topic.now c.args.out.now _ _ _ (sym c.parse_text.ensures ∙ c.in_ok-path_end.was))

pub put_bytes-requires-2 : goal.put_bytes-requires-2
put_bytes-requires-2 c =
    let a = c.args in
    let e = sym c.parse_text.ensures ∙ c.in_ok-path_end.was in
    omega (arith, parent_place a.topic.now a.out.now _ _ _ e, path-length a.topic.now a.out.now _ _ _ e)

pub returns : goal.returns
returns c =
    let a = c.args in
    let e = sym c.parse_text.ensures ∙ c.in_ok-path_end.was in
    let wrote = rw c.put_bytes.ensures at c.put_bytes-2.ensures in
    ap (name_outcome _) wrote ∙ sym (parent-written a.topic.now a.out.now _ _ _ e (omega arith))
