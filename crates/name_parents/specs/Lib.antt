pub mod Classes
pub mod Parents
