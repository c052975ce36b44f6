pub mod AssignmentLaws
mod EndLaws
pub mod EqualLaws
mod FrontLaws
mod MarkedLaws
pub mod RoundLaws
pub mod RowLaws
pub mod WholeLaws
mod WordLaws
