-- `reply::range` meets its contract.
-- Assumes nothing.
use Prim.Native.Nat.{ℕ}
use mathlib.Core.Path.{◌≡◌, ap, sym, ◌∙◌}
use Rattle.topic_types.specs.declared.KeyRangeError.{KeyRangeError}
use Rattle.topic_types.specs.KeyRanges.{error_kind, error_numbers}
use Rattle.refusal.specs.Refusals.{source_values}
use Rattle.export_reply.specs.Replies.{reply_with, word_at, word_of}
use Rattle.export_reply.proofs.range.Goals as goal

-- the arm of a variant v
arm : (n : ℕ) {source v : KeyRangeError} → source ≡ v → reply_with 0 n (source_values v) ≡ reply_with 0 n (source_values source)
arm n e = ap (λ (x : KeyRangeError). reply_with 0 n (source_values x)) (sym e)

pub returns-in-StartOutOfBounds : goal.returns-in-StartOutOfBounds
unfolding reply_with word_at word_of error_kind error_numbers
returns-in-StartOutOfBounds c = c.more.ensures ∙ arm c.args.number c.in-StartOutOfBounds.is

pub returns-in-EndOutOfBounds : goal.returns-in-EndOutOfBounds
unfolding reply_with word_at word_of error_kind error_numbers
returns-in-EndOutOfBounds c = c.more-in-EndOutOfBounds.ensures ∙ arm c.args.number c.in-EndOutOfBounds.is

pub returns-in-Reversed : goal.returns-in-Reversed
unfolding reply_with word_at word_of error_kind error_numbers
returns-in-Reversed c = c.more-in-Reversed.ensures ∙ arm c.args.number c.in-Reversed.is
