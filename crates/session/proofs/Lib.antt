pub mod Model
pub mod QueueLaws
pub mod CallLaws
mod HoldLaws
mod DrainLaws
mod KeptLaws
pub mod ValueClaim
pub mod PositionLaws
pub mod SlotLaws
pub mod ViewLaws
pub mod TraceLaws
pub mod Claimed
pub mod RoundLaws
