pub mod Window
pub mod Lists
pub mod Steps
