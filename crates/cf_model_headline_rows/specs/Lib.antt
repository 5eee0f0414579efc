pub mod Scripts
pub mod Changed
