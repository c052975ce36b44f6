-- Public: the words of a session's calls: those of the crate refusal (specs/Steps), where a refusal leaves the session
-- as it was.
-- Assumes nothing.
use Rattle.std.specs.Prelude as std
use Rattle.std.specs.Prelude.{Bool, cond, [], Option, ⊤, Ok, Err}
use Rattle.refusal.specs.declared.Refusal.{Refusal}
use Rattle.packed.specs.Assignment.{ConsumerAssignment}
use Rattle.intake_content.specs.Content as content
use Rattle.session.specs.Session.{Session, unchanged, Result, refuse, unless}

abbrev pub refuse_if : Session → Bool → Refusal → Result → Result
refuse_if s test x rest = cond test (refuse x s) rest

abbrev pub refuse_unless : Session → Bool → Refusal → Result → Result
refuse_unless s test x rest = cond test rest (refuse x s)

-- the refusal that is due, if there is one
abbrev pub refuse_due : Session → Option Refusal → Result → Result
refuse_due s due rest = unless due s rest

-- the first fault of a message
abbrev pub refuse_fault : Session → std.Result ⊤ Refusal → Result → Result
refuse_fault s (Err x) rest = refuse x s
refuse_fault s (Ok _) rest = rest

-- the list that a message's assignment comes to
abbrev pub take_content : Session → content.Content → (ConsumerAssignment → Result) → Result
take_content s (content.refused x) rest = refuse x s
take_content s (content.taken a) rest = rest a

-- none is answered, and nothing changes
abbrev pub none : Session → Result
none s = record { reply = unchanged; next = s.state; writes = [] }

abbrev pub none_if : Session → Bool → Result → Result
none_if s test rest = cond test (none s) rest

abbrev pub none_unless : Session → Bool → Result → Result
none_unless s test rest = cond test rest (none s)
