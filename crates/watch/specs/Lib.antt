pub mod Watch
pub mod Steps
pub mod Rows
