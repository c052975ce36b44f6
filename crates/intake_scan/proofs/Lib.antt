mod BucketLaws
pub mod RunLaws
mod RangeLaws
mod HeadLaws
mod ScanLaws
