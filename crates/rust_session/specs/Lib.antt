pub mod Paper
pub mod Values
pub mod Demand
pub mod Runs
