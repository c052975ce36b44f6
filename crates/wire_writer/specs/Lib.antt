pub mod Encode
pub mod Rows
