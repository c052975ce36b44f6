mod ListLaws
mod SettleLaws
mod WriteLaws
mod DiffLaws
mod UpdateLaws
pub mod Keeps
