pub mod Keyed
pub mod Each
pub mod Shuffled
