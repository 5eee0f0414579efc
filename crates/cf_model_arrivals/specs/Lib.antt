pub mod Buried
pub mod Kept
pub mod Numbered
pub mod Seated
