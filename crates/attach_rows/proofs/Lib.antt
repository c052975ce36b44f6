pub mod EntryLaws
mod MarkLaws
