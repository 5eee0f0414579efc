pub mod Following
pub mod Right
pub mod Verdicts
