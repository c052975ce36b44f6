pub mod CompareLaws
pub mod InsertLaws
pub mod PlaceLaws
pub mod WalkLaws
