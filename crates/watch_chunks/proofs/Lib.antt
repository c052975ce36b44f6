mod ChosenLaws
mod MarkLaws
mod MergeWindowLaws
mod ChunkLaws
pub mod DiffLaws
