pub mod ShellLaws
pub mod PlaceLaws
pub mod CommandLaws
