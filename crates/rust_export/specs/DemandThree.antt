-- Public: demand 3 over the exported calls, for each reader. An exported open answers `accepted`; whatever is then called, on the record and
-- the store as each call leaves them, the three lists are equal, as a caller in C reads them: by a reply's numbers, the record's fields, bytes.
-- Assumes nothing.
use Rattle.std.specs.Prelude.{ℕ, ◌<◌, ◌≡◌, true, List, ℤ}
use Rattle.session.specs.Session.{readers}
use Rattle.session.specs.Observers.{unseen, watch, all_drained}
use Rattle.session.specs.DemandThree.{AllOfBytes, Claim}
use Rattle.export_reply.specs.Replies.{accepted}
use Rattle.export_record.specs.Exported.{lent_open}
use Rattle.rust_export.specs.Calls.{ExportCall, calls_of, export_final, export_held, export_floor, export_trace, left_by_open}

abbrev pub DemandThreeExported : Type 0
DemandThreeExported =
    (consumer incarnation : ℕ) (topic subscription consumer_name : List ℕ) (kind : ℤ) (store : List ℕ)
    → let o = left_by_open (lent_open consumer incarnation topic subscription consumer_name kind store) in
    o.reply.answer ≡ accepted → (reader : ℕ) → reader < readers → (calls : List ExportCall) → AllOfBytes (calls_of calls)
    → let events = export_trace o.state o.store calls in let end = export_final o.state o.store calls in
    all_drained reader events ≡ true → Claim (export_held end.state end.store) (export_floor end.state) (watch reader unseen events)
