pub mod Rows
pub mod SpelledLines
pub mod RoundsFit
pub mod Lengths
pub mod Counted
