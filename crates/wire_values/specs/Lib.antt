pub mod Values
pub mod Integers
pub mod Places
pub mod Rows
