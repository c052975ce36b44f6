pub mod SchemaLaws
pub mod ScalarLaws
pub mod FaultLaws
pub mod RequiredLaws
pub mod SoundLaws
pub mod Levels
