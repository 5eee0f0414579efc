pub mod Messages
pub mod Turned
pub mod Known
