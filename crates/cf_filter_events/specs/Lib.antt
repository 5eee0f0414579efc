pub mod Actors
pub mod Answered
pub mod Counted
pub mod Faulted
pub mod Meaning
pub mod Pasts
pub mod Stepped
