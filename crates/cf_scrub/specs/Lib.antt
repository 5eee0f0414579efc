pub mod Blocks
pub mod Judgements
pub mod Places
pub mod RowTests
pub mod States
pub mod Texts
pub mod Ways
