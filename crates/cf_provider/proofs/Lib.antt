pub mod Fronts
pub mod Touched
