pub mod Clean
pub mod Fronts
