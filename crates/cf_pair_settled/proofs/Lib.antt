pub mod Agreement
pub mod Identities
pub mod Paths
pub mod Twins
pub mod SettledRows
