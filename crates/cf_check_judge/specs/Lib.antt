pub mod Bytes
pub mod Judge
pub mod Own
pub mod Rows
pub mod Settled
