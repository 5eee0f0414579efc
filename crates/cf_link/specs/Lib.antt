pub mod Faults
pub mod Linked
pub mod Listed
pub mod Parts
