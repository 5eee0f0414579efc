pub mod Codes
pub mod Names
pub mod Policies
pub mod Spans
pub mod Statuses
