pub mod Owned
pub mod Sharing
pub mod Steps
pub mod Turns
pub mod Led
pub mod Runs
pub mod UnderWay
