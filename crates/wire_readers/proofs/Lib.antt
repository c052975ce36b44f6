mod EventLaws
pub mod TextLaws
