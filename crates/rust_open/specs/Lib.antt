pub mod FromOpen
