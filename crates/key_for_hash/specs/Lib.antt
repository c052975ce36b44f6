pub mod Inverse
pub mod OneKey
