pub mod Area
pub mod Layout
pub mod LeastNumbers
pub mod Roles
pub mod WordBits
