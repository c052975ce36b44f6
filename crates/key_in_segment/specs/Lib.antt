pub mod Least
pub mod Ends
pub mod SegmentKey
pub mod Answered
