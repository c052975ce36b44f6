pub mod Message
pub mod WireRows
