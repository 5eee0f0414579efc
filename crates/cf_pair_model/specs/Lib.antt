pub mod Crossed
pub mod Seen
