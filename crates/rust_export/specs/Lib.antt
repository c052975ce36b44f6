pub mod Calls
pub mod DemandTwo
pub mod DemandThree
