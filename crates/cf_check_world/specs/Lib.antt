pub mod Aimed
pub mod Devices
pub mod Remotes
