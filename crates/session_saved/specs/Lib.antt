pub mod Form
pub mod Saved
pub mod Restores
pub mod Refuses
