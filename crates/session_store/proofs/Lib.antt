pub mod StoreLaws
pub mod IdentityLaws
