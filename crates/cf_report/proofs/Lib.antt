pub mod Decimals
pub mod Digits
pub mod Joins
pub mod Growing
