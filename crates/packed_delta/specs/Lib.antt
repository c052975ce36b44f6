pub mod Delta
pub mod Change
pub mod Join
pub mod Answers
pub mod Rows
