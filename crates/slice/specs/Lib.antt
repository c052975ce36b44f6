pub mod BoolLaws
pub mod Same
pub mod Bytes
