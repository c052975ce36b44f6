-- `lookup::segment_for_key` meets its contract: each return is the case of `segment_for_key` that the tests before it leave.
-- Assumes nothing.
use Prim.Native.Nat.{ℕ, ◌%◌}
use native.Mathlib.Omega.{arith}
use mathlib.Core.Path.{◌≡◌, sym, ap, ◌∙◌}
use lib.ListN.{drop}
use Rattle.std.proofs.lemmas.Result.{err_from_is_err_and}
use Rattle.key_lookup.specs.Lookup.{first_taking}
use Rattle.refusal.specs.declared.Refusal.TheVariants.{MalformedInput}
use Rattle.packed.specs.Assignment.{decode_segments}
use Rattle.packed.proofs.WholeLaws.{whole-read, not-assignment}
use Rattle.key_lookup.proofs.TakesLaws.{for-long, for-malformed, for-whole}
use Rattle.key_lookup.proofs.segment_for_key.Goals as goal

pub returns-then-key-gt-LONGEST_KEY : goal.returns-then-key-gt-LONGEST_KEY
returns-then-key-gt-LONGEST_KEY c = for-long c.args.key.now c.args.assignment.now c.if-key-gt-LONGEST_KEY.true

pub returns-in_err-count : goal.returns-in_err-count
returns-in_err-count c =
    let p = err_from_is_err_and c.from_residual.result c.from_residual.ensures.1 in
    rw (p.1, p.2, (let e : c.in_err-count.field-0.0 ≡ MalformedInput = grind arith in e))
    (for-malformed c.args.key.now c.args.assignment.now c.if-key-gt-LONGEST_KEY.false
    (not-assignment c.args.assignment.now (sym c.in_err-count.ensures.ok_part ∙ c.read_whole.ensures)))

pub first_taking-requires : goal.first_taking-requires
first_taking-requires c =
    (whole-read c.args.assignment.now _ _ (sym c.in_ok-count.ensures.ok_part ∙ c.read_whole.ensures)).records

pub returns : goal.returns
returns c =
    let l = c.args.assignment.now in
    let n = c.in_ok-count.count in
    c.first_taking.ensures
    ∙ ap (λ (h : ℕ). first_taking (h % 65536) (decode_segments n (drop 10 l))) c.hash.ensures
    ∙ for-whole c.args.key.now l c.if-key-gt-LONGEST_KEY.false n
    (whole-read l _ _ (sym c.in_ok-count.ensures.ok_part ∙ c.read_whole.ensures))
