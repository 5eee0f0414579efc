pub mod Copies
pub mod Ends
pub mod Indexed
pub mod Indexes
pub mod Named
pub mod Plans
pub mod Targets
pub mod Turns
