pub mod BucketLaws
