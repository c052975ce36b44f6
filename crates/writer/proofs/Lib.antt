mod SizeLaws
mod WritingLaws
mod FieldLaws
mod OutsideLaws
mod OutcomeLaws
pub mod WrittenReads
