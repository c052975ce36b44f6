pub mod ClassLaws
pub mod DigitLaws
pub mod NumeralLaws
