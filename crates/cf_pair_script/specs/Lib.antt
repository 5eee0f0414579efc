pub mod PairScript
pub mod Causes
