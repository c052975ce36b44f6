-- `segment_key::key_in_segment` meets its contract: each return is the case of `key_in_segment` that the answer of
-- `read_whole` leaves. Assumes nothing.
use native.Mathlib.Omega.{arith}
use mathlib.Core.Path.{◌≡◌, sym, ◌∙◌}
use Rattle.std.proofs.lemmas.Result.{err_from_is_err_and}
use Rattle.refusal.specs.declared.Refusal.TheVariants.{MalformedInput}
use Rattle.key_in_segment.proofs.WalkLaws.{key-malformed, key-whole}
use Rattle.packed.proofs.WholeLaws.{whole-read, not-assignment}
use Rattle.key_in_segment.proofs.key_in_segment.Goals as goal

pub returns-in_err-count : goal.returns-in_err-count
returns-in_err-count c =
    let p = err_from_is_err_and c.from_residual.result c.from_residual.ensures.1 in
    rw (p.1, p.2, (let e : c.in_err-count.field-0.0 ≡ MalformedInput = grind arith in e))
    (key-malformed c.args.assignment.now c.args.id.0
    (not-assignment c.args.assignment.now (sym c.in_err-count.ensures.ok_part ∙ c.read_whole.ensures)))

pub key_among-requires : goal.key_among-requires
key_among-requires c =
    (whole-read c.args.assignment.now _ _ (sym c.in_ok-count.ensures.ok_part ∙ c.read_whole.ensures)).records

pub returns : goal.returns
returns c =
    c.key_among.ensures
    ∙ key-whole c.args.assignment.now c.args.id.0 c.in_ok-count.count
    (whole-read c.args.assignment.now _ _ (sym c.in_ok-count.ensures.ok_part ∙ c.read_whole.ensures))
