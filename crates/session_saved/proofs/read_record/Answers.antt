-- `saved::read_record` meets its contract: each field is read at its place.
-- Assumes nothing.
use Rattle.session_saved.specs.Form.{positions_in, record_in}
use Rattle.session_saved.proofs.read_record.Goals as goal

pub returns : goal.returns
unfolding record_in positions_in
returns c =
    let w = c in
    let n3 = w in
    let n2 = n3 in
    let n1 = n2 in
    let p8 = n1 in
    let p7 = p8 in
    let p6 = p7 in
    let p5 = p6 in
    let p4 = p5 in
    let p3 = p4 in
    let p2 = p3 in
    let p1 = p2 in
    rw (
      n1.read_u64.ensures,
      n2.read_u64-2.ensures,
      n3.read_u64-3.ensures,
      w.position_at-9.ensures,
      p1.position_at.ensures,
      p2.position_at-2.ensures,
      p3.position_at-3.ensures,
      p4.position_at-4.ensures,
      p5.position_at-5.ensures,
      p6.position_at-6.ensures,
      p7.position_at-7.ensures,
      p8.position_at-8.ensures,
    )
