pub mod PassLaws
mod RowLaws
