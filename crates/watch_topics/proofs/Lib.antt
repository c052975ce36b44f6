pub mod OrderLaws
pub mod SetLaws
pub mod EachLaws
pub mod PackedLaws
pub mod PlaceLaws
pub mod WalkLaws
pub mod SeekLaws
