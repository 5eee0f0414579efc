pub mod Checks
pub mod Judged
pub mod Recordings
pub mod Commands
