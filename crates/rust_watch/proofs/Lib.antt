mod SetAgrees
mod SortLaws
mod LoopLaws
mod OursLaws
mod StepAgrees
pub mod Demanded
pub mod NoneDue
pub mod RunDue
