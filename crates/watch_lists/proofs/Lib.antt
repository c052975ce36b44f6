pub mod SurveyLaws
pub mod SpanLaws
pub mod SizeLaws
mod PutWindowLaws
pub mod WalkLaws
