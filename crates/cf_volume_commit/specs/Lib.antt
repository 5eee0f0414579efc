pub mod Damages
pub mod Differing
pub mod Leading
pub mod Loaded
