pub mod Topics
pub mod Packed
pub mod Skipped
