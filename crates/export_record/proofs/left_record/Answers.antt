-- `left_record` meets its contract.
-- Assumes nothing.
use Rattle.std.specs.Prelude.{◌≡◌, Ok}
use mathlib.Core.Path.{refl, ap, sym, ◌∙◌}
use Rattle.session.specs.declared.SessionRecord.{SessionRecord}
use Rattle.session.specs.declared.Answer.{Answer}
use Rattle.session.specs.declared.Answer.TheVariants as answer
use Rattle.export_record.specs.declared.Record.{Record}
use Rattle.export_record.specs.Replies.{export_record, left_record}
use Rattle.export_record.proofs.left_record.Goals as goal

-- a call that is no refusal leaves the next record
left-next : (r : Record) (x : Answer) (next : SessionRecord) → export_record next ≡ left_record r (Ok x) next
unfolding left_record
left-next r answer.Accepted next = refl
left-next r answer.Unchanged next = refl
left-next r (answer.Delta n) next = refl
left-next r (answer.Replay place n) next = refl

pub returns-in-Err : goal.returns-in-Err
unfolding left_record
returns-in-Err c = let s = c in sym (ap (λ a. left_record s.args.r a s.args.next) c.in-Err.is)

pub returns-in-Ok : goal.returns-in-Ok
returns-in-Ok c =
    let s = c in
    c.export_record.ensures ∙ left-next s.args.r _ s.args.next ∙ sym (ap (λ a. left_record s.args.r a s.args.next) c.in-Ok.is)
