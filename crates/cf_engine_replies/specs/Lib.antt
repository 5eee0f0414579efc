pub mod Marks
pub mod Rebases
pub mod Refusals
pub mod Removals
pub mod Tombstones
