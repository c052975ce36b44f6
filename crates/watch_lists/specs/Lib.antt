pub mod Survey
pub mod Spans
