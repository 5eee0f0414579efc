pub mod Counts
pub mod Following
pub mod Playing
pub mod Restarts
