-- `log_rows::is_entry` meets its contract. Assumes nothing.
use mathlib.Core.Path.{ap, ◌∙◌}
use borrow.Author.Rules.{rules}
use Rattle.attach_entries.specs.declared.Entry.{Entry}
use Rattle.attach_entries.specs.Follows.{same_entry}
use Rattle.attach_rows.proofs.is_entry.Goals as goal

pub returns : goal.returns
returns c =
    let f = c in
    let e = f in
    c.same_entry.ensures
    ∙ ap (λ (x : Entry). same_entry x f.entry_for.result) e.entry_at.ensures
    ∙ ap (same_entry _) f.entry_for.ensures
