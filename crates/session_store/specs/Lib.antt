pub mod Scratch
pub mod Places
pub mod Tests
