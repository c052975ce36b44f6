mod Lists
pub mod Needed
