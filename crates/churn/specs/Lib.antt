pub mod Window
pub mod Churn
pub mod Fresh
pub mod Rows
