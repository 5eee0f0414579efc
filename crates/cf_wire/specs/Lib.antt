pub mod Spelled
pub mod Faults
pub mod Reading
pub mod Sending
pub mod Sizes
pub mod Given
