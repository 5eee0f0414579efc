pub mod Entries
pub mod Exclusions
pub mod Reads
pub mod Removals
pub mod Turns
pub mod Uploads
