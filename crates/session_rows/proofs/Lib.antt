mod RunLaws
mod BucketLaws
mod FullLaws
pub mod Table
