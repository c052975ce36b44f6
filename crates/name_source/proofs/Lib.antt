pub mod SlashLaws
pub mod ParseLaws
pub mod RoundTrip
