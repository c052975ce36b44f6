pub mod FreshLaws
mod LoadLaws
mod SettleLaws
pub mod SortLaws
mod WriteLaws
