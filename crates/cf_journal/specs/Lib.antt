pub mod Format
pub mod Content
pub mod Settled
pub mod Steps
pub mod Records
pub mod SlotTexts
pub mod Halves
pub mod Places
