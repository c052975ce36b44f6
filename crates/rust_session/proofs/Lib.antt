mod OverlapAgrees
mod Verdicts
mod SegmentAgrees
mod TreeAgrees
pub mod ContentAgrees
mod DeltaAgrees
mod ReplayAgrees
mod OursLaws
mod Mirror
mod UpdateAgrees
mod ResponseAgrees
mod DrainAgrees
mod LinkAgrees
mod ShownAgrees
pub mod Demanded
pub mod NoneDue
