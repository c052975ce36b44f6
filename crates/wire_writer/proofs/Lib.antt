pub mod VarintBytesLaws
mod LeftLaws
mod WriteLaws
pub mod EncodeLaws
