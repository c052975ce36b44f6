pub mod MoveLaws
pub mod PlacedLaws
