pub mod Heavy
pub mod Loads
