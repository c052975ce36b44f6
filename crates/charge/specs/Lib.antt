pub mod Charge
pub mod Account
pub mod Rows
