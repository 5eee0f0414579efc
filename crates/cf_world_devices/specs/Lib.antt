pub mod Ends
pub mod Migrations
pub mod Scrubs
pub mod Sizes
