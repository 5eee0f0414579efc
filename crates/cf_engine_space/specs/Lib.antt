pub mod Candidates
pub mod Numbers
pub mod Spaces
