pub mod MatchesAgrees
pub mod ToPbAgrees
pub mod NamesAgree
