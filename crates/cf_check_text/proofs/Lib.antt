pub mod Clashes
pub mod CleanWords
pub mod Decimals
pub mod Lines
pub mod Refusals
