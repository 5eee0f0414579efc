pub mod Alone
pub mod Lines
pub mod Passed
pub mod Told
