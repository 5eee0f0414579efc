pub mod Changes
pub mod CodeNames
pub mod Texts
pub mod Words
