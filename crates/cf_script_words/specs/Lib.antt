pub mod Words
pub mod Names
pub mod Cut
pub mod Entries
pub mod Texts
pub mod Escapes
pub mod Shapes
pub mod Operations
