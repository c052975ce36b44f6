pub mod KeyRanges
pub mod ConsumerTypes
