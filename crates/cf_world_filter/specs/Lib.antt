pub mod Plays
pub mod Scripts
