pub mod Modes
pub mod Forms
pub mod Script
pub mod FailEvents
pub mod Fits
