pub mod RowLaws
pub mod TextLaws
