pub mod Decided
pub mod Followed
pub mod Tests
