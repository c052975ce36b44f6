pub mod RepeatLaws
pub mod RowLaws
mod SearchLaws
