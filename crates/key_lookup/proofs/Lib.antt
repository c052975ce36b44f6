pub mod LowestLaws
mod TakesLaws
