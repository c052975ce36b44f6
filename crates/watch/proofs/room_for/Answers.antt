-- `watch::room_for` meets its contract: what is told of the rooms was measured, or is plain.
-- Assumes nothing.
use mathlib.Core.Path.{◌≡◌, sym, ap, ◌∙◌}
use Rattle.slice.proofs.PartLaws.{Bytes}
use Rattle.watch_topics.specs.Packed.{decode_topics, size_topics}
use Rattle.watch.specs.Steps.{added_in, removed_in}
use Rattle.watch.proofs.SettleLaws.{set-whole, gone-least, room-none, room-short, room_fits, room-plain}
use Rattle.watch.proofs.ListLaws.{list-added, list-removed}
use Rattle.watch.proofs.room_for.Goals as goal

pub returns-then-fits_lists : goal.returns-then-fits_lists
returns-then-fits_lists c =
    room-plain _ (let it : (Bytes c.args.set.now) = λ i. (c.shared_slice_known-1.given i).fits in it) c.requires.set_value _ _ _ c.requires.set_len_bound (c.fits_lists.ensures c.if-fits_lists.true)

pub measure-gone-requires : goal.measure-gone-requires
measure-gone-requires c = record { set_value = set-whole _ c.requires.set_value; sorted_of = c.requires.sorted_of }

pub measure-z-requires : goal.measure-z-requires
measure-z-requires c = record { set_value = set-whole _ c.requires.set_value; sorted_of = c.requires.sorted_of }

pub overflow_sub-set : goal.overflow_sub-set
overflow_sub-set c = gone-least _ (let it : (Bytes c.args.set.now) = λ i. (c.shared_slice_known-1.given i).fits in it) c.requires.set_value _ _ _ (let it : (let a = c.args in c.measure-gone.result ≡ size_topics (removed_in (decode_topics a.set.now) a.p.now)) = c.measure-gone.ensures ∙ ap size_topics (list-removed _ _) in it) (let it : (let a = c.args in c.measure-z.result ≡ size_topics (added_in (decode_topics a.set.now) a.p.now)) = c.measure-z.ensures ∙ ap size_topics (list-added _ _) in it)

pub returns-then-room-set : goal.returns-then-room-set
returns-then-room-set c =
    room-none _ (let it : (Bytes c.args.set.now) = λ i. (c.shared_slice_known-1.given i).fits in it) c.requires.set_value _ _ _ (let it : (let a = c.args in c.measure-gone.result ≡ size_topics (removed_in (decode_topics a.set.now) a.p.now)) = c.measure-gone.ensures ∙ ap size_topics (list-removed _ _) in it) (let it : (let a = c.args in c.measure-z.result ≡ size_topics (added_in (decode_topics a.set.now) a.p.now)) = c.measure-z.ensures ∙ ap size_topics (list-added _ _) in it) _ c.args.out c.requires.set_len_bound c.if-room-set.true

pub returns-then-not-fits : goal.returns-then-not-fits
returns-then-not-fits c =
    let f = sym c.fits.ensures ∙ c.if-not-fits.true in
    room-short _ (let it : (Bytes c.args.set.now) = λ i. (c.shared_slice_known-1.given i).fits in it) c.requires.set_value _ _ _ (let it : (let a = c.args in c.measure-gone.result ≡ size_topics (removed_in (decode_topics a.set.now) a.p.now)) = c.measure-gone.ensures ∙ ap size_topics (list-removed _ _) in it) (let it : (let a = c.args in c.measure-z.result ≡ size_topics (added_in (decode_topics a.set.now) a.p.now)) = c.measure-z.ensures ∙ ap size_topics (list-added _ _) in it) _ _ c.requires.set_len_bound c.if-room-set.false f

pub returns : goal.returns
returns c =
    let f = sym c.fits.ensures ∙ c.if-not-fits.false in
    room_fits _ (let it : (Bytes c.args.set.now) = λ i. (c.shared_slice_known-1.given i).fits in it) c.requires.set_value _ _ _ (let it : (let a = c.args in c.measure-gone.result ≡ size_topics (removed_in (decode_topics a.set.now) a.p.now)) = c.measure-gone.ensures ∙ ap size_topics (list-removed _ _) in it) (let it : (let a = c.args in c.measure-z.result ≡ size_topics (added_in (decode_topics a.set.now) a.p.now)) = c.measure-z.ensures ∙ ap size_topics (list-added _ _) in it) _ _ c.requires.set_len_bound c.if-room-set.false f
