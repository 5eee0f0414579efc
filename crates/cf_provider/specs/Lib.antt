pub mod Acting
pub mod Checks
pub mod Recording
pub mod Sights
