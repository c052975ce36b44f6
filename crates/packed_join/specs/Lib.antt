pub mod JoinOutcome
pub mod JoinRows
