-- `saved::write_saved` meets its contract: five writes and the checksum of the first four.
-- Assumes nothing.
use native.Mathlib.Omega.{arith}
use mathlib.Core.Path.{sym, ap, ◌∙◌}
use lib.Seq.{length-take-le}
use borrow.Author.Rules.{rules}
use Rattle.slice_int.specs.Put.{put}
use Rattle.export_record.specs.declared.Record.{Record}
use Rattle.session_saved.specs.Form.{encode_record}
use Rattle.session_saved.proofs.FormLaws.{saved-written}
use Rattle.session_saved.proofs.CallLaws.{no_room, all-written}
use Rattle.session_saved.proofs.write_saved.Goals as goal

pub returns-then-out-size : goal.returns-then-out-size
returns-then-out-size c =
    let s = c in no_room s.args.r s.args.store.now _ s.args.end s.requires.queue_ends c.if-out-size.true

pub slice_bounds-put_bytes-end : goal.slice_bounds-put_bytes-end
slice_bounds-put_bytes-end c =
    let s = c in
    sym (length-take-le s.args.end s.args.store.now s.requires.queue_ends.inside)

pub put_bytes-requires : goal.put_bytes-requires
put_bytes-requires c =
    let e = c in
    let s = e in
    omega (arith, length-take-le s.args.end s.args.store.now s.requires.queue_ends.inside, e.if-out-size.false)

pub slice_bounds-crc32-end : goal.slice_bounds-crc32-end
slice_bounds-crc32-end c = search rules

pub slice_bounds-crc32-length : goal.slice_bounds-crc32-length
slice_bounds-crc32-length c = sym (length-take-le _ c.write_u32-2.new.out (search rules))

pub returns : goal.returns
returns c =
    let last = c in
    let sum = last in
    let mark = sum in
    let size = mark in
    let state = size in
    let made = state in
    let part = made in
    let e = part in
    let s = e in
    all-written s.args.r s.args.store.now _ s.args.end s.requires.queue_ends e.if-out-size.false _
    (saved-written s.args.r s.args.store.now s.args.end s.requires.queue_ends _ _ _ _ _ _ sum.crc32-sum.result e.if-out-size.false
    (record {
      part = part.put_bytes.ensures;
      state =
          state.write_record.ensures
          ∙ ap (λ (c : Record). put part.put_bytes.new.out 8 (encode_record c)) made.export_record.ensures;
      size = size.write_u32.ensures;
      mark-at = mark.write_u32-2.ensures;
      summed = sum.crc32-sum.ensures;
      sum-at = last.write_u32-3.ensures;
    }))
