pub mod TakeLaws
pub mod MergeLaws
pub mod SizeLaws
