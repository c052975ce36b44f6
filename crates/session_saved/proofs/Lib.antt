pub mod FormLaws
pub mod FrontLaws
pub mod CallLaws
pub mod ReadLaws
pub mod RestoreLaws
pub mod RefuseLaws
