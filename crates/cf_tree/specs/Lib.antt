pub mod Answers
pub mod Levels
pub mod Lines
pub mod Parts
pub mod Steps
pub mod Trees
