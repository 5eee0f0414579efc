mod TreeLaws
mod TreeRoots
pub mod Counts
pub mod FreeOnes
pub mod Keeping
pub mod Moves
pub mod Opening
pub mod Swaps
pub mod WordSets
pub mod Writes
