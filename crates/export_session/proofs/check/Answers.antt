-- `check` meets its contract.
-- Assumes nothing.
use Rattle.export_session.proofs.LentLaws.{check-short, check_sound, check-damaged}
use Rattle.export_session.proofs.check.Goals as goal

pub returns-then-store-lt-MIN_STORE : goal.returns-then-store-lt-MIN_STORE
returns-then-store-lt-MIN_STORE c = check-short c.args.r c.args.store.now c.if-store-lt-MIN_STORE.true

pub returns-then-is_sound : goal.returns-then-is_sound
returns-then-is_sound c =
    check_sound c.args.r c.args.store.now c.if-store-lt-MIN_STORE.false c.is_sound.result c.is_sound.ensures c.if-is_sound.true

pub returns-else-is_sound : goal.returns-else-is_sound
returns-else-is_sound c =
    check-damaged c.args.r c.args.store.now c.if-store-lt-MIN_STORE.false c.is_sound.result c.is_sound.ensures c.if-is_sound.false
