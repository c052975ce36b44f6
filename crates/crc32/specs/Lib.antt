pub mod Crc
pub mod Rows
pub mod Differs
