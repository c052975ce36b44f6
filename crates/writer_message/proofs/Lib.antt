pub mod TextLaws
pub mod RowLaws
pub mod WireLaws
pub mod ValidLaws
pub mod SizeLaws
pub mod ReadBack
