pub mod Refuted
pub mod RefutedCalls
