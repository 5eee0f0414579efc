pub mod Fronts
pub mod Kept
pub mod OneVerdict
pub mod Played
