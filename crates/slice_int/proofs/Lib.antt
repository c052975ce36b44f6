pub mod BeLaws
pub mod PutLaws
pub mod RowLaws
pub mod WidthLaws
pub mod WordLaws
