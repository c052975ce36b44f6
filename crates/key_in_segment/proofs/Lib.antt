pub mod LeastLaws
pub mod WalkLaws
pub mod AnsweredLaws
