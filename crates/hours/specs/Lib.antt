pub mod Contract
pub mod Hours
pub mod Rows
pub mod Steps
