pub mod LineReads
pub mod LinesRead
pub mod OneReading
