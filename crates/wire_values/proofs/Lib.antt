pub mod ValueLaws
pub mod FrontLaws
pub mod WalkLaws
pub mod PlaceLaws
pub mod TextLaws
pub mod IntegerLaws
