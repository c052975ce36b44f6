mod CondLaws
pub mod VarintLaws
pub mod FieldLaws
pub mod FieldsLaws
