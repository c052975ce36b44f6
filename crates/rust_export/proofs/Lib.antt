mod StepLaws
mod TellLaws
pub mod Exported
