pub mod Taken
pub mod Walk
