pub mod Meaning
pub mod Overlap
