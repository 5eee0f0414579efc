pub mod Agencies
pub mod Answering
pub mod Findings
pub mod Listings
pub mod Parts
