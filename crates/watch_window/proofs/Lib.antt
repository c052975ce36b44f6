mod PositionLaws
mod SpanLaws
pub mod LowestLaws
pub mod WindowLaws
mod InsertLaws
mod BoundLaws
pub mod ReadLaws
mod FillLaws
mod MarkLaws
pub mod FilterLaws
mod BatchLaws
