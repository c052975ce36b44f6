pub mod Content
pub mod Passing
pub mod Rows
