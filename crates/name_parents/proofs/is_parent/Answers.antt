-- `is_parent` meets its contract: the scheme, as one number, then the path behind it.
-- Assumes nothing.
use Prim.Native.Nat.{ℕ, ◌<◌}
use native.Mathlib.Omega.{arith}
use mathlib.Core.Path.{◌≡◌, refl, sym, ◌∙◌}
use mathlib.Core.Bool.{true}
use lib.ListN.{get_or}
use borrow.Author.Rules.{rules}
use Rattle.slice.specs.Same.{starts_with}
use Rattle.slice.proofs.SameLaws.{starts-short}
use Rattle.slice_int.specs.Be.{be, be_from, bytes_of}
use Rattle.slice_int.proofs.WordLaws.{word_same, word-other}
use Rattle.name_parents.specs.Parents.{topic_scheme}
use Rattle.name_parents.proofs.PathLaws.{parent_is, parent-not}
use Rattle.name_parents.proofs.is_parent.Goals as goal

pub returns-then-s-lt-SCHEME : goal.returns-then-s-lt-SCHEME
returns-then-s-lt-SCHEME c = let s = c.args.s.now in sym (parent-not s (starts-short topic_scheme s (omega arith)))

pub returns-then-read_u64-ne-TOPIC_SCHEME : goal.returns-then-read_u64-ne-TOPIC_SCHEME
unfolding starts_with be be_from
returns-then-read_u64-ne-TOPIC_SCHEME c =
    let s = c.args.s.now in
    let word = c.read_u64.ensures in
    sym (parent-not s (word-other 8 0x746F7069633A2F2F 0 s topic_scheme refl (λ e. c.if-read_u64-ne-TOPIC_SCHEME.true (word ∙ e))))

pub returns : goal.returns
unfolding starts_with bytes_of
returns c =
    let s = c.args.s.now in
    let bytes : (i : ℕ) → get_or s i 0 < 256 = λ i. search rules in
    let scheme : starts_with topic_scheme s ≡ true =
    word_same 8 0x746F7069633A2F2F 0 s topic_scheme (omega arith) bytes refl (sym c.read_u64.ensures ∙ c.if-read_u64-ne-TOPIC_SCHEME.false) in
    c.is_path_from.ensures ∙ sym (parent_is s scheme)
