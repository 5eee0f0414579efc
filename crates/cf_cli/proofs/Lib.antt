pub mod Meets
pub mod TextMet
pub mod Named
pub mod OneCommand
