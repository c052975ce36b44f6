-- `parse_segment_topic` meets its contract: the scheme, the last '/', the path before it, the descriptor behind it.
-- Assumes nothing.
use Prim.Native.Nat.{ℕ, ◌+◌, ◌-◌}
use native.Mathlib.Omega.{arith}
use mathlib.Core.Path.{◌≡◌, sym, ap, ◌∙◌}
use lib.ListN.{take, drop}
use Rattle.std.proofs.lemmas.Result.{err_from_is_err_and}
use Rattle.slice.proofs.PartLaws.{rest}
use Rattle.slice.proofs.SameLaws.{starts-long}
use Rattle.name_topic.specs.Names.{segment_scheme}
use Rattle.name_parents.specs.Parents.{is_path}
use Rattle.name_source.specs.Parse.{last_slash, descriptor_stage}
use Rattle.name_source.proofs.ParseLaws.{is-none, is-some, name-no-scheme, name-no-slash, name-inside, name-no-path, name-descriptor}
use Rattle.name_source.proofs.parse_segment_topic.Goals as goal

pub returns-then-not-starts_with : goal.returns-then-not-starts_with
returns-then-not-starts_with c =
    let t = c.args.t.now in
    sym (name-no-scheme t (sym c.starts_with.ensures ∙ c.if-not-starts_with.true))

pub slice_bounds-last_slash-count : goal.slice_bounds-last_slash-count
slice_bounds-last_slash-count c = starts-long segment_scheme c.args.t.now (sym c.starts_with.ensures ∙ c.if-not-starts_with.false)

pub slice_bounds-last_slash-start : goal.slice_bounds-last_slash-start
slice_bounds-last_slash-start c = omega (arith, starts-long segment_scheme c.args.t.now (sym c.starts_with.ensures ∙ c.if-not-starts_with.false))

pub returns-in_err-n : goal.returns-in_err-n
returns-in_err-n c =
    let none = is-none _ _ _ (sym c.ok_or.ensures.value ∙ c.in_err-n.was) in
    let told = sym (c.last_slash.ensures ∙ ap last_slash (rest c.args.t.now 10)) ∙ none.0 in
    let p = err_from_is_err_and c.from_residual.result c.from_residual.ensures.1 in
    rw (p.1, p.2, none.1) (sym (name-no-slash c.args.t.now (sym c.starts_with.ensures ∙ c.if-not-starts_with.false) told))

pub overflow_add-path_end : goal.overflow_add-path_end
overflow_add-path_end c =
    let some = is-some _ _ _ (sym c.ok_or.ensures.value ∙ c.in_ok-n.was) in
    let told = sym (c.last_slash.ensures ∙ ap last_slash (rest c.args.t.now 10)) ∙ some in
    omega (arith, name-inside c.args.t.now (sym c.starts_with.ensures ∙ c.if-not-starts_with.false) _ told)

pub slice_bounds-is_path-end : goal.slice_bounds-is_path-end
slice_bounds-is_path-end c =
    let some = is-some _ _ _ (sym c.ok_or.ensures.value ∙ c.in_ok-n.was) in
    let told = sym (c.last_slash.ensures ∙ ap last_slash (rest c.args.t.now 10)) ∙ some in
    omega (arith, name-inside c.args.t.now (sym c.starts_with.ensures ∙ c.if-not-starts_with.false) _ told)

pub returns-then-not-is_path : goal.returns-then-not-is_path
returns-then-not-is_path c =
    let t = c.args.t.now in
    let n = c.in_ok-n.n in
    let some = is-some _ _ _ (sym c.ok_or.ensures.value ∙ c.in_ok-n.was) in
    let told = sym (c.last_slash.ensures ∙ ap last_slash (rest t 10)) ∙ some in
    let e : 10 + n - 10 ≡ n = omega arith in
    let path = sym (c.is_path.ensures ∙ ap (λ (m : ℕ). is_path (take m (drop 10 t))) e) ∙ c.if-not-is_path.true in
    sym (name-no-path t (sym c.starts_with.ensures ∙ c.if-not-starts_with.false) n told path)

pub slice_bounds-parse_descriptor-count : goal.slice_bounds-parse_descriptor-count
slice_bounds-parse_descriptor-count c =
    let some = is-some _ _ _ (sym c.ok_or.ensures.value ∙ c.in_ok-n.was) in
    let told = sym (c.last_slash.ensures ∙ ap last_slash (rest c.args.t.now 10)) ∙ some in
    omega (arith, name-inside c.args.t.now (sym c.starts_with.ensures ∙ c.if-not-starts_with.false) _ told)

pub slice_bounds-parse_descriptor-start : goal.slice_bounds-parse_descriptor-start
slice_bounds-parse_descriptor-start c =
    let some = is-some _ _ _ (sym c.ok_or.ensures.value ∙ c.in_ok-n.was) in
    let told = sym (c.last_slash.ensures ∙ ap last_slash (rest c.args.t.now 10)) ∙ some in
    omega (arith, name-inside c.args.t.now (sym c.starts_with.ensures ∙ c.if-not-starts_with.false) _ told)

pub returns : goal.returns
returns c =
    let t = c.args.t.now in
    let n = c.in_ok-n.n in
    let some = is-some _ _ _ (sym c.ok_or.ensures.value ∙ c.in_ok-n.was) in
    let told = sym (c.last_slash.ensures ∙ ap last_slash (rest t 10)) ∙ some in
    let e : 10 + n - 10 ≡ n = omega arith in
    let path = sym (c.is_path.ensures ∙ ap (λ (m : ℕ). is_path (take m (drop 10 t))) e) ∙ c.if-not-is_path.false in
    c.parse_descriptor.ensures
    ∙ ap (descriptor_stage (10 + n)) (rest t (10 + n + 1))
    ∙ sym (name-descriptor t (sym c.starts_with.ensures ∙ c.if-not-starts_with.false) n told path)
