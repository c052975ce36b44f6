pub mod SpanLaws
pub mod HoursLaws
pub mod EarliestRows
