pub mod Log
pub mod Passes
pub mod Follows
pub mod Rows
