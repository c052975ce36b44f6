-- Internal: cited by the contracts of helpers alone; whoever reads the claims may skip it.
--
-- What the functions of src/ answer: whether a valid update is for this session, before its assignment is looked at.
-- Assumes nothing.
use Rattle.std.specs.Prelude as std
use Rattle.std.specs.Prelude.{ℕ, cond, not, eqb, ⊤, Ok, Err}
use Rattle.topic_types.specs.declared.ControllerIncarnation.{ControllerIncarnation}
use Rattle.refusal.specs.declared.Refusal.TheVariants.{IncarnationMismatch, ConsumerMismatch}
use Rattle.intake_content.specs.Content.{Content}
use Rattle.session.specs.declared.SessionRecord.{SessionRecord}
use Rattle.session.specs.Session.{Session, Result, refuse}
use Rattle.session.specs.Tails.{update_content}
use Rattle.refusal.specs.declared.Refusal.{Refusal}

-- 23, then 24
abbrev pub address_of : SessionRecord → ControllerIncarnation → ℕ → std.Result ⊤ Refusal
address_of r incarnation id =
    cond (not (eqb incarnation.0 r.incarnation.0)) (Err (IncarnationMismatch incarnation r.incarnation))
    (cond (not (eqb id r.consumer_id)) (Err (ConsumerMismatch id r.consumer_id)) (Ok record {}))

-- what an update comes to by its address, and by its content where it is for this session
abbrev pub by_address : std.Result ⊤ Refusal → Session → Content → Result
by_address (Err x) s c = refuse x s
by_address (Ok _) s c = update_content s c
