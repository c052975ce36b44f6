mod OpenLaws
mod MatchLaws
pub mod OpenedLaws
