pub mod Lists
pub mod Orders
pub mod Premises
pub mod Turns
