pub mod Adding
pub mod Sources
mod Migrated
mod Scrubbed
