pub mod Assignment
pub mod Equal
pub mod Answers
pub mod Rest
pub mod Fit
pub mod Rows
pub mod Words
