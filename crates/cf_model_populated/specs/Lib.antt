pub mod Accounted
pub mod Populated
