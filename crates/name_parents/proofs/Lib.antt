pub mod Table
pub mod PathLaws
