mod CopyLaws
mod StepLaws
mod TurnLaws
mod WholeLaws
