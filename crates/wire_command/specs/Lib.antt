pub mod Shell
pub mod Places
pub mod Steps
pub mod Commands
pub mod Replies
pub mod Rows
