pub mod OverlayLaws
mod RowLaws
mod WalkLaws
pub mod FitLaws
