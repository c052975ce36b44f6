pub mod Seen
pub mod Sessions
