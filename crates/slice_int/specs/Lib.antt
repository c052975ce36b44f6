pub mod Be
pub mod Put
