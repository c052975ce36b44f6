-- `session_response::load_last` meets its contract: the queue's last list.
-- Assumes nothing.
use Prim.Native.Nat.{◌+◌, ◌-◌}
use native.Mathlib.Omega.{arith}
use lib.ListN.{drop, length-take}
use Rattle.session_store.specs.Places.{Lies, entry_in}
use Rattle.session_store.proofs.StoreLaws.{entry-room, entry-lies, entry-size}
use Rattle.session_response.proofs.ReplayLaws.{last_some}
use Rattle.session_response.proofs.load_last.Goals as goal
use Rattle.session_response.proofs.load_last.Goals.{After-read_u16-len}

lies : (c : After-read_u16-len) → Lies c.args.store.now (c.args.at + 2) c.read_u16-len.result (entry_in c.args.store.now (c.args.n - 1))
lies c =
    entry-lies c.args.store.now c.args.n (c.args.n - 1) c.requires.min_store_in_bounds.0 c.requires.min_store_in_bounds.1 (omega (arith, c.requires.n_nonzero.0)) c.args.at
    (c.requires.n_nonzero.1 c.requires.n_nonzero.0) c.read_u16-len.result c.read_u16-len.ensures

pub read_u16-len-requires : goal.read_u16-len-requires
read_u16-len-requires c = entry-room c.args.store.now c.args.n (c.args.n - 1) c.requires.min_store_in_bounds.0 c.requires.min_store_in_bounds.1 (omega (arith, c.requires.n_nonzero.0)) c.args.at (c.requires.n_nonzero.1 c.requires.n_nonzero.0)

pub overflow_add-from : goal.overflow_add-from
overflow_add-from c = record { fits = omega (arith, (entry-room c.args.store.now c.args.n (c.args.n - 1) c.requires.min_store_in_bounds.0 c.requires.min_store_in_bounds.1 (omega (arith, c.requires.n_nonzero.0)) c.args.at (c.requires.n_nonzero.1 c.requires.n_nonzero.0)), c.well_formed) }

pub overflow_add-to : goal.overflow_add-to
overflow_add-to c = record {
  fits = omega (
    arith,
    (lies (goal.at.overflow_add-to c).After-read_u16-len).inside,
    c.well_formed,
  );
}

pub slice_bounds-put_bytes-end : goal.slice_bounds-put_bytes-end
slice_bounds-put_bytes-end c = (lies (goal.at.slice_bounds-put_bytes-end c).After-read_u16-len).inside

pub put_bytes-requires : goal.put_bytes-requires
put_bytes-requires c =
    let n = c.read_u16-len.result in
    omega (
      arith,
      (lies (goal.at.put_bytes-requires c).After-read_u16-len).few,
      c.requires.last_len,
      length-take (c.args.at + 2 + n - (c.args.at + 2)) (drop (c.args.at + 2) c.args.store.now),
    )

pub returns : goal.returns
returns c =
    last_some c.args.store.now c.args.b.now c.args.last.now c.put_bytes.new.out c.args.n
    (c.args.at + 2) c.read_u16-len.result c.requires.n_nonzero.0 (λ i. (c.type_inv.store i).fits) (lies (goal.at.returns c).After-read_u16-len)
    (entry-size c.args.store.now c.args.n (c.args.n - 1) c.requires.min_store_in_bounds.0 c.requires.min_store_in_bounds.1 (omega (arith, c.requires.n_nonzero.0)) c.args.at
    (c.requires.n_nonzero.1 c.requires.n_nonzero.0) c.read_u16-len.result c.read_u16-len.ensures)
    c.requires.last_len c.put_bytes.ensures
