pub mod Messages
pub mod Places
