pub mod Eligible
pub mod Freed
pub mod Fronts
