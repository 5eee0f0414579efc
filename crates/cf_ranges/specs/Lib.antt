pub mod Owned
pub mod Pairs
pub mod Positions
pub mod Steps
