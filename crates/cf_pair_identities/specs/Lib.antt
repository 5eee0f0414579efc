pub mod Named
pub mod NamedPairs
