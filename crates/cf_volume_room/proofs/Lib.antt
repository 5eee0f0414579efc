pub mod Aimed
pub mod Blocks
pub mod Bounds
