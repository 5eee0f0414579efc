pub mod Books
pub mod Deltas
pub mod Lines
pub mod Rising
pub mod Sound
pub mod Steps
pub mod Told
