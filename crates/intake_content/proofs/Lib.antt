pub mod ContentLaws
pub mod OrderLaws
pub mod OutsideLaws
pub mod SoundLaws
pub mod WideLaws
pub mod ContentOrder
