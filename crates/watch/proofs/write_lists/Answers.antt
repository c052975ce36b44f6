-- `watch::write_lists` meets its contract: the three writes of proofs/WriteLaws.
-- Assumes nothing.
use Prim.Native.Nat.{ℕ, ◌+◌, ◌≤◌}
use native.Mathlib.Omega.{arith}
use mathlib.Core.List.{◌∷◌, ◌++◌}
use mathlib.Core.Path.{◌≡◌, refl, sym, ap, ◌∙◌}
use lib.ListN.{length}
use Rattle.slice_int.specs.Put.{put}
use Rattle.slice_int.specs.Be.{bytes_of}
use Rattle.watch_topics.specs.Packed.{decode_topics, encode_topics}
use Rattle.watch_topics.proofs.PackedLaws.{length-encode}
use Rattle.watch.specs.Watch.{diff_change}
use Rattle.watch.specs.Steps.{added_in, removed_in}
use Rattle.watch.proofs.DiffLaws.{set-rises}
use Rattle.watch.proofs.WriteLaws.{lists-room, lists-written, lists-long}
use Rattle.watch.proofs.write_lists.Goals as goal

pub write_lists-l-requires : goal.write_lists-l-requires
write_lists-l-requires c =
    let A = (added_in (decode_topics c.args.set.now) c.args.p.now) in
    let R = (removed_in (decode_topics c.args.set.now) c.args.p.now) in
    let h : 5 + length (encode_topics A) + length (encode_topics R) ≤ length c.args.out.now =
    omega (arith, c.requires.out_fits.all, length-encode A, length-encode R) in
    let l = lists-room c.args.out.now (encode_topics A) (encode_topics R) _ _ refl refl h in
    record { rises = set-rises _ c.requires.set_value; sorted_of = c.requires.sorted_of; p_value = c.requires.p_value; both_fit = record { fits = omega (arith, l, length-encode A, length-encode R) } }

pub shape_of-out : goal.shape_of-out
shape_of-out c =
    lists-long c.args.out.now (encode_topics (added_in (decode_topics c.args.set.now) c.args.p.now)) (encode_topics (removed_in (decode_topics c.args.set.now) c.args.p.now)) _ _ (let it : (c.write_lists-l.result.added ≡ length (encode_topics (added_in (decode_topics c.args.set.now) c.args.p.now))) = c.write_lists-l.ensures.added ∙ sym (length-encode (added_in (decode_topics c.args.set.now) c.args.p.now)) in it) (let it : (c.write_lists-l.result.removed ≡ length (encode_topics (removed_in (decode_topics c.args.set.now) c.args.p.now))) = c.write_lists-l.ensures.removed ∙ sym (length-encode (removed_in (decode_topics c.args.set.now) c.args.p.now)) in it) (let it : (let r = c.write_lists-l.result in 5 + r.added + r.removed ≤ length c.args.out.now) = let e = c.write_lists-l.ensures in omega (arith, e.added, e.removed, c.requires.out_fits.all) in it) _ c.write_lists-l.ensures.bytes _ c.write_u32.ensures

pub returns : goal.returns
unfolding diff_change
returns c =
    let e = c.write_lists-l.ensures in (
      e.added,
      e.removed,
      lists-written c.args.out.now (encode_topics (added_in (decode_topics c.args.set.now) c.args.p.now)) (encode_topics (removed_in (decode_topics c.args.set.now) c.args.p.now)) _ _ (let it : (c.write_lists-l.result.added ≡ length (encode_topics (added_in (decode_topics c.args.set.now) c.args.p.now))) = c.write_lists-l.ensures.added ∙ sym (length-encode (added_in (decode_topics c.args.set.now) c.args.p.now)) in it) (let it : (c.write_lists-l.result.removed ≡ length (encode_topics (removed_in (decode_topics c.args.set.now) c.args.p.now))) = c.write_lists-l.ensures.removed ∙ sym (length-encode (removed_in (decode_topics c.args.set.now) c.args.p.now)) in it) (let it : (let r = c.write_lists-l.result in 5 + r.added + r.removed ≤ length c.args.out.now) = let e = c.write_lists-l.ensures in omega (arith, e.added, e.removed, c.requires.out_fits.all) in it) _ c.write_lists-l.ensures.bytes _ c.write_u32.ensures
          ∙ ap (λ (n : ℕ). put c.args.out.now 0 (1 ∷ (bytes_of 4 n ++ (encode_topics (added_in (decode_topics c.args.set.now) c.args.p.now) ++ encode_topics (removed_in (decode_topics c.args.set.now) c.args.p.now))))) e.added,
    )
