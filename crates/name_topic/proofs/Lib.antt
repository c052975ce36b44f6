pub mod NameLaws
mod TailLaws
mod CompareLaws
mod BuildLaws
