-- `saved::put_part` meets its contract: two tests, then the part is written.
-- Assumes nothing.
use mathlib.Core.Path.{ap}
use mathlib.Core.Bool.{not}
use Rattle.session_saved.proofs.CallLaws.{part-damaged, part-short, part-put}
use Rattle.session_saved.proofs.put_part.Goals as goal

pub returns-then-not-is_sound : goal.returns-then-not-is_sound
returns-then-not-is_sound c =
    let a = c in
    part-damaged _ _ _ a.is_sound.result a.is_sound.ensures (ap not c.if-not-is_sound.true) c.refused.result c.refused.ensures

pub returns-then-store-part : goal.returns-then-store-part
returns-then-store-part c =
    let b = c in
    let a = b in
    part-short _ _ _ a.is_sound.result a.is_sound.ensures (ap not b.if-not-is_sound.false) c.if-store-part.true c.refused-then-store-part.result
    c.refused-then-store-part.ensures

pub returns : goal.returns
returns c =
    let p = c in
    let e = p in
    let b = e in
    let a = b in
    part-put _ _ _ a.is_sound.result a.is_sound.ensures (ap not b.if-not-is_sound.false) e.if-store-part.false _ p.put_bytes.ensures
