-- Public: "Customers' brokers write from hash maps" (02 g): an assignment whose segments were written in any order,
-- carried by an update or a response. Two such messages differ only in the order of their segments, so SegmentOrder
-- speaks of them.
--
-- The bytes are those of `assignment_message`: the epoch, then the segments' fields in the order of the list. Nothing is
-- asked of the segments; the messages have fewer than 2 ^ 64 bytes, as every slice has. Proved in proofs/WrittenLaws.
-- Assumes nothing.
use Rattle.std.specs.Prelude.{ℕ, ◌^◌, ◌<◌, ◌≡◌, List, length}
use Rattle.packed.specs.Assignment.{ConsumerAssignment}
use Rattle.writer_message.specs.Message.{assignment_message, update_message, response_message}
use Rattle.keyed.specs.Shuffled.{Shuffled}
use Rattle.session_order.specs.SegmentOrder.{SameUpdate, SameResponse}

-- a and b have the same epoch, and the same segments in any order; their messages under a path are slices
pub record Twins (path : List ℕ) (a b : ConsumerAssignment) : Type 0 where
  pub epoch : a.layout_epoch ≡ b.layout_epoch
  pub wide : a.layout_epoch < 2 ^ 64
  pub segments : Shuffled a.segments b.segments
  pub first : length (assignment_message path a) < 2 ^ 64
  pub second : length (assignment_message path b) < 2 ^ 64

pub record AnyOrderWritten : Type 0 where
  pub updates : (path : List ℕ) (a b : ConsumerAssignment) → Twins path a b → (id : ℕ) → id < 2 ^ 64
      → SameUpdate (update_message id (assignment_message path a)) (update_message id (assignment_message path b))
  pub responses : (path : List ℕ) (a b : ConsumerAssignment) → Twins path a b → (id : ℕ) → id < 2 ^ 64
      → SameResponse (response_message id (assignment_message path a)) (response_message id (assignment_message path b))
