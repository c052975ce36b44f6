pub mod PartLaws
pub mod SameLaws
pub mod TestLaws
