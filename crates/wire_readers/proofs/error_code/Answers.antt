-- `error_code` meets its contract: each arm is a case of `code_of`. Assumes nothing.
use mathlib.Core.Path.{sym, ap, ◌∙◌}
use borrow.Author.Rules.{rules}
use Rattle.wire_readers.specs.Messages.{code_of}
use Rattle.wire_readers.proofs.error_code.Goals as goal

pub returns : goal.returns
returns c = rw (sym c.last_number.ensures ∙ c.in_ok-v.was) (search rules)

pub returns-in_err-v : goal.returns-in_err-v
returns-in_err-v c = rw c.from_residual.ensures (sym (ap code_of (sym c.last_number.ensures ∙ c.in_err-v.was)))
