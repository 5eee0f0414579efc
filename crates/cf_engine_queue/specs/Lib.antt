pub mod Order
pub mod Books
pub mod Identities
pub mod Keys
pub mod Records
pub mod Steps
pub mod Walks
