pub mod CountedLeft
pub mod Delivered
pub mod Passed
pub mod Synced
