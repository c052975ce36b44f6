-- `watch::write_diff` meets its contract: the set is made from the lists as they stand in the output.
-- Assumes nothing.
use mathlib.Core.Path.{sym}
use lib.ListN.{length, take}
use lib.Seq.{length-take-le}
use Rattle.slice.proofs.PartLaws.{Bytes}
use Rattle.watch_topics.specs.Packed.{decode_topics}
use Rattle.watch.proofs.DiffLaws.{Written, diff-lists, diff-rises, diff-apart, diff-room, diff-written}
use Rattle.watch.proofs.write_diff.Goals as goal

pub slice_bounds-write_lists-end-2 : goal.slice_bounds-write_lists-end-2
slice_bounds-write_lists-end-2 c = sym (length-take-le _ _ c.requires.used_in_bounds)

pub write_set-n-requires : goal.write_set-n-requires
write_set-n-requires c =
    let d = (let it : (Bytes c.args.buffer.now) = λ i. (c.slice_known-1.given i).fits in it) in
    let f = (let it : (let a = c.args in let l = c.write_lists-l.result in
    Written (decode_topics (take a.used a.buffer.now)) a.p.now l.added l.removed (length a.buffer.now) (length a.out.now)) = let e = c.write_lists-l.ensures in diff-lists c.requires.p_value c.requires.diff_fits e.0 e.1 in it) in
    let e = c.write_lists-l.ensures.2 in
    let x = diff-rises _ _ _ _ _ _ c.requires.used_in_bounds d c.requires.buffer_value f _ e in
    let y = diff-apart _ _ _ _ _ _ c.requires.used_in_bounds d c.requires.buffer_value f _ e in
    record { used_in_bounds = c.requires.used_in_bounds; buffer_value = c.requires.buffer_value; rises = x; apart = y; added_in_bounds = diff-room _ _ _ _ _ _ c.requires.used_in_bounds d c.requires.buffer_value f _ e }

pub returns : goal.returns
returns c =
    diff-written _ _ _ _ _ _ c.requires.used_in_bounds (let it : (Bytes c.args.buffer.now) = λ i. (c.slice_known-1.given i).fits in it) c.requires.buffer_value (let it : (let a = c.args in let l = c.write_lists-l.result in
    Written (decode_topics (take a.used a.buffer.now)) a.p.now l.added l.removed (length a.buffer.now) (length a.out.now)) = let e = c.write_lists-l.ensures in diff-lists c.requires.p_value c.requires.diff_fits e.0 e.1 in it) _ c.write_lists-l.ensures.2 _ _ c.write_set-n.ensures
