mod ReplayLaws
mod CallLaws
