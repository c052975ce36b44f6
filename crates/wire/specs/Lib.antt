pub mod Varints
pub mod Field
pub mod Fields
