pub mod Played
pub mod Compared
