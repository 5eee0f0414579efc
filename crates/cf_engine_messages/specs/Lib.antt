pub mod Listings
pub mod Refusals
pub mod Staleness
pub mod UploadReplies
