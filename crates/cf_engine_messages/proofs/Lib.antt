pub mod Entered
pub mod KnownItems
pub mod Operated
pub mod RepliesTaken
pub mod StaleReplies
pub mod Unread
