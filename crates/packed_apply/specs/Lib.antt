pub mod ApplyOutcome
